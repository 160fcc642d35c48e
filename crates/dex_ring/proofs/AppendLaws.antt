-- appending events to an event queue
use Rattle.std.specs.List.{All}
use Rattle.std.proofs.lemmas.List.Elements.{All-head, All-tail}
use Rattle.std.proofs.Common.{◌≡◌, ℕ, ◌+◌, ◌%◌, ◌^◌, ◌<◌, List, [], ◌∷◌, ◌++◌, refl, length, sym, ap, ◌∙◌, subst, arith, append_assoc, append-nil, length-append}
use Rattle.std.proofs.Math.Nat.{mod-add-mod, mod-eq_of_lt, mod-lt}
use Rattle.dex_ring.specs.Appended.{appended, HasRoom, pushed_all, IsStorable}
use Rattle.dex_ring.specs.Ring.{IsEventQueue, Ring, capacity_of, pushed, ring_of}
use Rattle.dex_fields.specs.declared.event_queue.TheConstants.{COUNT}
use Rattle.dex_fields.specs.Bytes.{number_in}
use Rattle.dex_ring.proofs.PushLaw.{IsEventQueue-pushed, ring_of-pushed}
use Rattle.dex_ring.proofs.RingLaw.{length-events_of}
use Rattle.dex_types.specs.Market.{events_counted}
use Rattle.dex_types.specs.QueuedEvent.{EventKind, QueuedEvent, decoded_event, encoded_event, flags_of, kind_of, MakerFill, TakerFill, PlainOut, ReleasingOut}
use Rattle.dex_types.specs.declared.terms.Side.TheVariants.{Bid, Ask}

-- a queue with these events and this count
abbrev with_events : Ring → List QueuedEvent → ℕ → Ring
with_events ring events count = record ring { events = events; seq_num = count }

-- events that are appended one after another are appended at once
pub appended-appended : (first second : List QueuedEvent) (ring : Ring) → appended second (appended first ring) ≡ appended (first ++ second) ring
appended-appended first second ring =
    let events : (ring.events ++ first) ++ second ≡ ring.events ++ (first ++ second) = append_assoc ring.events first second in
    let sum : (ring.seq_num + length first) + length second ≡ ring.seq_num + length (first ++ second) = omega (arith, length-append first second) in
    let count : events_counted (events_counted ring.seq_num (length first)) (length second) ≡ events_counted ring.seq_num (length (first ++ second)) =
    mod-add-mod (ring.seq_num + length first) (2 ^ 64) (length second) ∙ ap (λ n. n % 2 ^ 64) sum in
    ap (λ (es : List QueuedEvent). with_events ring es (events_counted (events_counted ring.seq_num (length first)) (length second))) events
    ∙ ap (λ n. with_events ring (ring.events ++ (first ++ second)) n) count

-- where nothing is appended the queue stays
pub appended-none : (ring : Ring) → ring.seq_num < 2 ^ 64 → appended [] ring ≡ ring
appended-none ring small =
    let sum : ring.seq_num + 0 ≡ ring.seq_num = omega arith in
    let count : events_counted ring.seq_num 0 ≡ ring.seq_num = ap (λ n. n % 2 ^ 64) sum ∙ mod-eq_of_lt small in
    ap (λ (es : List QueuedEvent). with_events ring es (events_counted ring.seq_num 0)) (append-nil ring.events) ∙ ap (λ n. with_events ring ring.events n) count

-- a queue that has room for all events has room for the first ones, and after them for the others
pub HasRoom-first : (first second : List QueuedEvent) (ring : Ring) → HasRoom (length (first ++ second)) ring → HasRoom (length first) ring
HasRoom-first first second ring room = omega (arith, room, length-append first second)

pub HasRoom-second : (first second : List QueuedEvent) (ring : Ring) → HasRoom (length (first ++ second)) ring → HasRoom (length second) (appended first ring)
HasRoom-second first second ring room = omega (arith, room, length-append first second, length-append ring.events first)

-- a queue to which these events are still to be appended, as they are of another queue with room for them
pub HasRoom-same : (events all : List QueuedEvent) (ring before : Ring) → appended events ring ≡ appended all before → HasRoom (length all) before → HasRoom (length events) ring
HasRoom-same events all ring before same room =
    let lists : length (ring.events ++ events) ≡ length (before.events ++ all) = ap (λ (r : Ring). length r.events) same in
    let capacities : ring.capacity ≡ before.capacity = ap (λ (r : Ring). r.capacity) same in
    omega (arith, room, lists, capacities, length-append ring.events events, length-append before.events all)

-- the events of one more order are appended, and the others are still to be
pub appended-more : (first rest : List QueuedEvent) (ring next goal : Ring) → appended (first ++ rest) ring ≡ goal → next ≡ appended first ring → appended rest next ≡ goal
appended-more first rest ring next goal joined more = ap (appended rest) more ∙ appended-appended first rest ring ∙ joined

-- the count of a queue to which something was appended is within 64 bits
pub appended-counted : (events : List QueuedEvent) (ring next : Ring) → next ≡ appended events ring → next.seq_num < 2 ^ 64
appended-counted events ring next is =
    let count : next.seq_num ≡ events_counted ring.seq_num (length events) = ap (λ (r : Ring). r.seq_num) is in
    let small : (ring.seq_num + length events) % 2 ^ 64 < 2 ^ 64 = mod-lt (ring.seq_num + length events) (omega arith) in
    subst (λ n. n < 2 ^ 64) (sym count) small

-- the bytes of events that are appended one after another, and at once
pub pushed_all-pushed_all : (first second : List QueuedEvent) (bytes : List ℕ) → pushed_all second (pushed_all first bytes) ≡ pushed_all (first ++ second) bytes
pushed_all-pushed_all [] second bytes = refl
pushed_all-pushed_all (event ∷ others) second bytes = pushed_all-pushed_all others second (pushed bytes (encoded_event event))

kind_again : (kind : EventKind) → kind_of (flags_of kind) ≡ kind
kind_again (MakerFill Bid) = refl
kind_again (MakerFill Ask) = refl
kind_again (TakerFill Bid) = refl
kind_again (TakerFill Ask) = refl
kind_again (PlainOut Bid) = refl
kind_again (PlainOut Ask) = refl
kind_again (ReleasingOut Bid) = refl
kind_again (ReleasingOut Ask) = refl

-- an event is told again by what the queue holds of it
pub decoded-encoded : (event : QueuedEvent) → decoded_event (encoded_event event) ≡ event
decoded-encoded event = ap (λ (kind : EventKind). record event { kind = kind }) (kind_again event.kind)

-- the queue after events were appended: it holds them after the others, and is accepted
pub record IsAppended (events : List QueuedEvent) (bytes : List ℕ) : Type 0 where
  pub ring : ring_of (pushed_all events bytes) ≡ appended events (ring_of bytes)
  pub accepted : IsEventQueue (pushed_all events bytes)

pub is-appended : (events : List QueuedEvent) (bytes : List ℕ) → IsEventQueue bytes → (ring_of bytes).seq_num < 2 ^ 64 → HasRoom (length events) (ring_of bytes)
    → All IsStorable events → IsAppended events bytes
is-appended [] bytes queue counted room storable = record { ring = sym (appended-none (ring_of bytes) counted); accepted = queue }
is-appended (event ∷ others) bytes queue counted room storable =
    let one : IsStorable event = All-head IsStorable event others storable in
    let within : number_in bytes COUNT < capacity_of bytes = omega (arith, room, length-events_of bytes) in
    let next = pushed bytes (encoded_event event) in
    let ring : ring_of next ≡ appended (event ∷ []) (ring_of bytes) = ring_of-pushed bytes (encoded_event event) queue within one.read one.size ∙ ap (λ (e : QueuedEvent). appended (e ∷ []) (ring_of bytes)) (decoded-encoded event) in
    let accepted : IsEventQueue next = IsEventQueue-pushed bytes (encoded_event event) queue within one.read one.size one.queued in
    let rest = is-appended others next accepted (appended-counted (event ∷ []) (ring_of bytes) (ring_of next) ring)
    (subst (HasRoom (length others)) (sym ring) (HasRoom-second (event ∷ []) others (ring_of bytes) room)) (All-tail IsStorable event others storable) in
    record {
      ring = rest.ring ∙ ap (appended others) ring ∙ appended-appended (event ∷ []) others (ring_of bytes);
      accepted = rest.accepted;
    }

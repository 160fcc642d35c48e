-- The places of a ring, and what a write leaves of the events that stand elsewhere.
use Rattle.std.proofs.Common.{◌≡◌, ◌≢◌, ℕ, zero, suc, ◌+◌, ◌-◌, ◌/◌, ◌%◌, ◌<◌, ◌≤◌, ◌⊎◌, List, ◌∷◌, length, map, get_or, refl, sym, ap, ◌∙◌, arith, inl, inr}
use Rattle.std.proofs.Math.Nat.{mod-add-mod, mod-eq_of_lt, mod-lt, add-mod_right}
use Rattle.std.proofs.lemmas.Bool.{cases_lt}
use Rattle.std.proofs.lemmas.List.FromFn.{get_or-map-range_with_len, length-map-range_with_len}
use Rattle.std.specs.List.{range_with_len}
use Rattle.dex_fields.specs.declared.field.Field.{Field}
use Rattle.dex_fields.specs.declared.event_queue.TheConstants.{HEAD, COUNT}
use Rattle.dex_fields.specs.Bytes.{AreApart, bytes_in, end_of, number_in, with_number}
use Rattle.dex_fields.proofs.Places.{AreApart-item_of}
use Rattle.dex_fields.proofs.Writing.{bytes_in-with_number_apart}
use Rattle.dex_types.specs.declared.orders.Event.{Event}
use Rattle.dex_types.specs.QueuedEvent.{QueuedEvent, decoded_event, encoded_event}
use Rattle.dex_ring.specs.EventBytes.{IsQueued, event_of}
use Rattle.dex_ring.specs.Ring.{capacity_of, event_at, event_field, events_of, place_of}

-- ---- places

-- one lap at most is taken off
wrapped : (capacity x : ℕ) → x < capacity + capacity → ((x < capacity) × (x % capacity ≡ x)) ⊎ ((capacity ≤ x) × (x % capacity ≡ x - capacity))
wrapped capacity x low =
    elim (cases_lt x capacity) [
      | inl lt ↦ inl (lt, mod-eq_of_lt lt)
      | inr le ↦
          let k : ℕ = x - capacity in
          let whole : x ≡ k + capacity = omega arith in
          let lt : k < capacity = omega arith in
          inr (le, ap (λ (n : ℕ). n % capacity) whole ∙ add-mod_right k capacity ∙ mod-eq_of_lt lt)
    ]

pub place_of-lt : (capacity head number : ℕ) → 0 < capacity → place_of capacity head number < capacity
place_of-lt capacity head number some = mod-lt (head + number) some

-- two events in use stand at two places
pub place_of-other : (capacity head i j : ℕ) → head < capacity → i < j → j < capacity → place_of capacity head i ≢ place_of capacity head j
place_of-other capacity head i j low before within same =
    elim (wrapped capacity (head + i) (omega arith)) [
      | inl first ↦ elim (wrapped capacity (head + j) (omega arith)) [
        | inl second ↦ omega (arith, first.1, second.1, same)
        | inr second ↦ omega (arith, first.1, second.1, same)
      ]
      | inr first ↦ elim (wrapped capacity (head + j) (omega arith)) [
        | inl second ↦ omega (arith, first.1, second.1, same)
        | inr second ↦ omega (arith, first.1, second.1, same)
      ]
    ]

-- after a head that moved on by one, each event is one number nearer
pub place_of-next : (capacity head number : ℕ) → place_of capacity (place_of capacity head 1) number ≡ place_of capacity head (number + 1)
place_of-next capacity head number =
    let same : head + 1 + number ≡ head + (number + 1) = omega arith in
    mod-add-mod (head + 1) capacity number ∙ ap (λ (n : ℕ). n % capacity) same

-- the events of two places are apart
pub event_fields_apart : (i j : ℕ) → i ≢ j → AreApart (event_field i) (event_field j)
event_fields_apart i j other = AreApart-item_of (record { at = 37; len = 0 }) 88 i j other

-- a place of the ring lies between the header and the text at the end
pub event_field-inside : (bytes : List ℕ) (place : ℕ) → 44 ≤ length bytes → place < capacity_of bytes → end_of (event_field place) + 7 ≤ length bytes
event_field-inside bytes place long lt = omega arith

-- ---- writes into the header

-- a word of the header is apart from each event
pub header_apart : (field : Field) (place : ℕ) → end_of field ≤ 37 → AreApart (event_field place) field
header_apart field place low = inr (omega arith)

pub events-with_number : (bytes : List ℕ) (field : Field) (x place : ℕ) → end_of field ≤ 37
    → bytes_in (with_number bytes field x) (event_field place) ≡ bytes_in bytes (event_field place)
events-with_number bytes field x place low = bytes_in-with_number_apart bytes (event_field place) field x (header_apart field place low)

-- an event that keeps its bytes, at a head and number that stand for one place
pub event_at-kept : (old new : List ℕ) (i j : ℕ) → length new ≡ length old
    → place_of (capacity_of old) (number_in new HEAD) j ≡ place_of (capacity_of old) (number_in old HEAD) i
    → bytes_in new (event_field (place_of (capacity_of old) (number_in old HEAD) i)) ≡ bytes_in old (event_field (place_of (capacity_of old) (number_in old HEAD) i))
    → event_at new j ≡ event_at old i
unfolding event_at
event_at-kept old new i j long place held =
    ap (λ (n : ℕ). event_of (bytes_in new (event_field (place_of ((n - 44) / 88) (number_in new HEAD) j)))) long
    ∙ ap (λ (p : ℕ). event_of (bytes_in new (event_field p))) place
    ∙ ap event_of held

-- ---- the list

-- lists of one length whose items are the same one by one
pub map-range_same : {X : Type 0} (f g : ℕ → X) (a b n : ℕ) → ((k : ℕ) → k < n → f (a + k) ≡ g (b + k))
    → map f (range_with_len a n) ≡ map g (range_with_len b n)
map-range_same f g a b zero same = refl
map-range_same f g a b (suc n) same =
    let left : a + 0 ≡ a = omega arith in
    let right : b + 0 ≡ b = omega arith in
    let here : f a ≡ g b = sym (ap f left) ∙ same 0 (omega arith) ∙ ap g right in
    let others : map f (range_with_len (a + 1) n) ≡ map g (range_with_len (b + 1) n) =
    map-range_same f g (a + 1) (b + 1) n (λ k lt.
    let near : a + 1 + k ≡ a + (k + 1) = omega arith in
    let far : b + 1 + k ≡ b + (k + 1) = omega arith in
    ap f near ∙ same (k + 1) (omega arith) ∙ sym (ap g far)) in
    ap (λ x. x ∷ map f (range_with_len (a + 1) n)) here ∙ ap (λ (l : List _). g b ∷ l) others

pub length-events_of : (bytes : List ℕ) → length (events_of bytes) ≡ number_in bytes COUNT
unfolding events_of
length-events_of bytes = length-map-range_with_len (λ number. decoded_event (event_at bytes number)) 0 (number_in bytes COUNT)

-- an event of a kind is told back as it was
pub encoded-decoded : (e : Event) → IsQueued e → encoded_event (decoded_event e) ≡ e
encoded-decoded e queued = ap (λ (flags : ℕ). let made : Event = record e { flags = flags } in made) queued.flags

pub get_or-events_of : (bytes : List ℕ) (number : ℕ) (d : QueuedEvent) → number < number_in bytes COUNT
    → get_or (events_of bytes) number d ≡ decoded_event (event_at bytes number)
unfolding events_of
get_or-events_of bytes number d lt =
    get_or-map-range_with_len (λ k. decoded_event (event_at bytes k)) 0 (number_in bytes COUNT) number number d lt (omega arith)

-- an accepted queue has at most 65,535 places
pub capacity_of-le : (bytes : List ℕ) → length bytes ≤ 5767211 → capacity_of bytes ≤ 65535
capacity_of-le bytes most = omega arith

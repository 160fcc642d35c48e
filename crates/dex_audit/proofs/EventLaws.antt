-- where an audit finds nothing of rule 4, pending events are held, and none comes after a final out of its order
use Rattle.std.proofs.Common.{◌≡◌, ℕ, ◌+◌, Bool, true, false, ◌&&◌, cond, eqb, List, [], ◌∷◌, ◌++◌, length, take, refl, sym, ap, ◌∙◌, subst, arith, append_assoc}
use Rattle.std.proofs.lemmas.Bool.{eq-eqb, and_parts, and_from, eqb-true, false≢true, false_from_ne_true}
use Rattle.std.proofs.lemmas.List.{length-append}
use Rattle.dex_types.specs.Market.{Market}
use Rattle.dex_types.specs.QueuedEvent.{QueuedEvent}
use Rattle.dex_types.specs.Soundness.{AreHeld, AreOfOthers, held_at, event_holding, is_final, is_one_order, finals_of, counts_final}
use Rattle.dex_types.specs.Tokens.{is_same_side}
use Rattle.dex_types.specs.Trader.{Holding}
use Rattle.dex_laws.proofs.TotalLaws.{total-between}
use Rattle.dex_sound.proofs.PlaceLaws.{is_same_side-true, is_same_side-refl}
use Rattle.dex_types.specs.declared.terms.Side.{Side}
use Rattle.dex_totals.specs.Held.{is_held}
use Rattle.dex_audit_rules.specs.Slots.{astray, astray_in, is_placed}
use Rattle.dex_audit_rules.specs.Lists.{numbered}
use Rattle.dex_audit_rules.proofs.ListLaws.{append-none, unless-none}
use Rattle.dex_audit.proofs.SlotLaws.{is_held-true}

is_one_order-true : (held other : Holding) → is_one_order held other ≡ true → is_one_order other held ≡ true
is_one_order-true held other one =
    let parts : (eqb held.id other.id ≡ true) × (is_same_side held.side other.side ≡ true) = and_parts (eqb held.id other.id) (is_same_side held.side other.side) one in
    and_from _ _
    (eq-eqb other.id held.id (sym (eqb-true held.id other.id parts.0)))
    (subst (λ (s : Side). is_same_side other.side s ≡ true) (sym (is_same_side-true held.side other.side parts.1)) (is_same_side-refl other.side))

pub is_one_order-false : (held other : Holding) → is_one_order held other ≡ false → is_one_order other held ≡ false
is_one_order-false held other apart =
    false_from_ne_true (is_one_order other held) (λ one. false≢true (sym apart ∙ is_one_order-true other held one))

pub take-front : {X : Type 0} (xs ys : List X) → take (length xs) (xs ++ ys) ≡ xs
take-front [] ys = refl
take-front (x ∷ xs) ys = ap (λ (l : List _). x ∷ l) (take-front xs ys)

abbrev one_if : Bool → ℕ
one_if test = cond test 1 0

counts-none : (final one : Bool) → final ≡ true → one_if (final && one) ≡ 0 → one ≡ false
counts-none true true is none = absurd (omega arith)
counts-none true false is none = refl
counts-none false one is none = absurd (false≢true is)

-- a pending event in its place
record IsPlaced (m : Market) (before : List QueuedEvent) (event : QueuedEvent) : Type 0 where
  held : is_held (held_at event.owner event.slot m.traders) (event_holding event) ≡ true
  first : finals_of (event_holding event) before ≡ 0

placed-from : (m : Market) (before : List QueuedEvent) (event : QueuedEvent) (rest : List QueuedEvent) → m.events ≡ before ++ event ∷ rest
    → astray m.traders m.events m.listing.event_queue (length before) event ≡ [] → IsPlaced m before event
placed-from m before event rest are none =
    let held : Bool = is_held (held_at event.owner event.slot m.traders) (event_holding event) in
    let placed : is_placed m.traders (take (length before) m.events) event ≡ true = unless-none (is_placed m.traders (take (length before) m.events) event) _ none in
    let parts : (held ≡ true) × (eqb (finals_of (event_holding event) (take (length before) m.events)) 0 ≡ true) =
    and_parts held (eqb (finals_of (event_holding event) (take (length before) m.events)) 0) placed in
    let earlier : take (length before) m.events ≡ before = ap (take (length before)) are ∙ take-front before (event ∷ rest) in
    record {
      held = parts.0;
      first = sym (ap (finals_of (event_holding event)) earlier) ∙ eqb-true (finals_of (event_holding event) (take (length before) m.events)) 0 parts.1;
    }

-- the events from here on, one further
stepped : {X : Type 0} (all before : List X) (x : X) (rest : List X) → all ≡ before ++ x ∷ rest → all ≡ (before ++ x ∷ []) ++ rest
stepped all before x rest are = are ∙ sym (append_assoc before (x ∷ []) rest)

next-none : (m : Market) (before : List QueuedEvent) (event : QueuedEvent) (rest : List QueuedEvent) → numbered (astray m.traders m.events m.listing.event_queue) (length before + 1) rest ≡ []
    → numbered (astray m.traders m.events m.listing.event_queue) (length (before ++ event ∷ [])) rest ≡ []
next-none m before event rest none = subst (λ (n : ℕ). numbered (astray m.traders m.events m.listing.event_queue) n rest ≡ []) (sym (length-append before (event ∷ []))) none

others-from : (m : Market) (event : QueuedEvent) (front back rest : List QueuedEvent) → is_final event ≡ true → m.events ≡ (front ++ event ∷ back) ++ rest
    → numbered (astray m.traders m.events m.listing.event_queue) (length (front ++ event ∷ back)) rest ≡ [] → AreOfOthers (event_holding event) rest
others-from m event front back [] final are none = tt
others-from m event front back (e ∷ rest) final are none =
    let before : List QueuedEvent = front ++ event ∷ back in
    let parts = append-none (astray m.traders m.events m.listing.event_queue (length before) e) (numbered (astray m.traders m.events m.listing.event_queue) (length before + 1) rest) none in
    let placed : IsPlaced m before e = placed-from m before e rest are parts.0 in
    let counts : counts_final (event_holding e) event ≡ 0 = omega (arith, placed.first, total-between (counts_final (event_holding e)) front back event) in
    let longer : before ++ e ∷ [] ≡ front ++ event ∷ (back ++ e ∷ []) = append_assoc front (event ∷ back) (e ∷ []) in (
      is_one_order-false (event_holding e) (event_holding event) (counts-none (is_final event) (is_one_order (event_holding e) (event_holding event)) final counts),
      others-from m event front (back ++ e ∷ []) rest final
          (stepped m.events before e rest are ∙ ap (λ (l : List QueuedEvent). l ++ rest) longer)
          (subst (λ (l : List QueuedEvent). numbered (astray m.traders m.events m.listing.event_queue) (length l) rest ≡ []) longer (next-none m before e rest parts.1)),
    )

held-from : (m : Market) (before rest : List QueuedEvent) → m.events ≡ before ++ rest → numbered (astray m.traders m.events m.listing.event_queue) (length before) rest ≡ [] → AreHeld m.traders rest
held-from m before [] are none = tt
held-from m before (event ∷ rest) are none =
    let parts = append-none (astray m.traders m.events m.listing.event_queue (length before) event) (numbered (astray m.traders m.events m.listing.event_queue) (length before + 1) rest) none in
    let placed : IsPlaced m before event = placed-from m before event rest are parts.0 in (
      is_held-true (held_at event.owner event.slot m.traders) (event_holding event) placed.held,
      (λ final. others-from m event before [] rest final (stepped m.events before event rest are) (next-none m before event rest parts.1)),
      held-from m (before ++ event ∷ []) rest (stepped m.events before event rest are) (next-none m before event rest parts.1),
    )

pub events-held : (m : Market) → astray_in m ≡ [] → AreHeld m.traders m.events
events-held m none = held-from m [] m.events refl none

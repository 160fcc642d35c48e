-- How many events are consumed, and that what they leave depends on their number alone.
use Rattle.std.proofs.Common.{◌≡◌, ℕ, zero, suc, ◌+◌, ◌-◌, ◌<◌, ◌≤◌, true, false, ltb, ◌&&◌, List, [], ◌∷◌, length, drop, get_or, sum, refl, sym, ap, ◌∙◌, arith, ⊎_elim}
use Rattle.std.proofs.lemmas.List.Sums.{sum_by-cons}
use Rattle.std.proofs.lemmas.Bool.{cases_Bool, cond-true, cond-false, lt-ltb, and_from, and_right}
use Rattle.dex_types.specs.declared.addresses.Address.{Address}
use Rattle.dex_types.specs.Payment.{consumable, is_named}
use Rattle.dex_types.specs.QueuedEvent.{QueuedEvent}
use Rattle.dex_crank.specs.PaidBytes.{CrankBytes, after_calls, goes_on, paid_bytes, paid_first}

pub paid_bytes-add : (first later : ℕ) (bytes : CrankBytes) → paid_bytes later (paid_bytes first bytes) ≡ paid_bytes (first + later) bytes
paid_bytes-add first zero bytes = let none : first ≡ first + 0 = omega arith in ap (λ (n : ℕ). paid_bytes n bytes) none
paid_bytes-add first (suc later) bytes =
    let more : suc (first + later) ≡ first + suc later = omega arith in
    ap paid_first (paid_bytes-add first later bytes) ∙ ap (λ (n : ℕ). paid_bytes n bytes) more

pub after_calls-one : (counts : List ℕ) (bytes : CrankBytes) → after_calls counts bytes ≡ paid_bytes (sum counts) bytes
after_calls-one [] bytes = refl
after_calls-one (count ∷ counts) bytes = after_calls-one counts (paid_bytes count bytes) ∙ paid_bytes-add count (sum counts) bytes ∙ ap (λ (n : ℕ). paid_bytes n bytes) (sym (sum_by-cons (λ (x : ℕ). x) count counts))

pub after_calls-same : (counts others : List ℕ) (bytes : CrankBytes) → sum counts ≡ sum others → after_calls counts bytes ≡ after_calls others bytes
after_calls-same counts others bytes same = after_calls-one counts bytes ∙ ap (λ (n : ℕ). paid_bytes n bytes) same ∙ sym (after_calls-one others bytes)

-- ---- how far a call gets

pub goes_on-first : (named : List Address) (events : List QueuedEvent) (default : QueuedEvent) → 0 < length events
    → goes_on named events ≡ is_named (get_or events 0 default).owner named
goes_on-first named [] default some = absurd (omega arith)
goes_on-first named (event ∷ events) default some = refl

pub goes_on-pending : (named : List Address) (events : List QueuedEvent) → goes_on named events ≡ true → 0 < length events
goes_on-pending named [] on = absurd (cc)
goes_on-pending named (event ∷ events) on = omega arith

pub consumable-more : (limit : ℕ) (named : List Address) (events : List QueuedEvent) → 0 < limit → goes_on named events ≡ true
    → consumable limit named events ≡ consumable (limit - 1) named (drop 1 events) + 1
consumable-more limit named [] some on = absurd (cc)
consumable-more limit named (event ∷ events) some on = cond-true _ _ _ (and_from _ _ (lt-ltb _ _ some) on)

pub consumable-stopped : (limit : ℕ) (named : List Address) (events : List QueuedEvent) → goes_on named events ≡ false → consumable limit named events ≡ 0
consumable-stopped limit named [] off = refl
consumable-stopped limit named (event ∷ events) off = cond-false _ _ _ (and_right (ltb 0 limit) (is_named event.owner named) off)

pub consumable-none : (limit : ℕ) (named : List Address) (events : List QueuedEvent) → limit ≡ 0 → consumable limit named events ≡ 0
consumable-none zero named [] none = refl
consumable-none zero named (event ∷ events) none = refl
consumable-none (suc limit) named events none = absurd (omega arith)

-- no more are consumed than are pending
pub consumable-le : (limit : ℕ) (named : List Address) (events : List QueuedEvent) → consumable limit named events ≤ length events
consumable-le limit named [] = omega arith
consumable-le limit named (event ∷ events) =
    let test = ltb 0 limit && is_named event.owner named in
    ⊎_elim
    (λ (on : test ≡ true).
    let one : consumable limit named (event ∷ events) ≡ consumable (limit - 1) named events + 1 = cond-true _ _ _ on in
    omega (arith, one, consumable-le (limit - 1) named events))
    (λ (off : test ≡ false).
    let none : consumable limit named (event ∷ events) ≡ 0 = cond-false _ _ _ off in
    omega (arith, none))
    (cases_Bool test)

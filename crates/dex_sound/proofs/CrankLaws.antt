-- cranks add up
use Rattle.std.proofs.Common.{ℕ, zero, suc, ◌+◌, ◌-◌, ◌≤◌, ◌<◌, ◌≡◌, true, false, ◌&&◌, ltb, min, List, [], ◌∷◌, ◌++◌, length, take, drop, IsTrue, None, Result, Ok, refl, sym, ap, ◌∙◌, arith, take-add, drop-drop, ⊎_elim}
use Rattle.std.specs.List.{All}
use Rattle.std.proofs.Math.Nat.{min-le_left, min-le_right, min-eq_left, min-eq_right}
use Rattle.std.proofs.lemmas.Bool.{cond-true, cond_both, cases_lt, lt-ltb, ltb-true, and_parts, and_from}
use Rattle.std.proofs.lemmas.List.Elements.{All-nil, All-cons, All-head, All-tail, All-same}
use Rattle.dex_types.specs.declared.addresses.Address.{Address}
use Rattle.dex_types.specs.declared.instructions.BadData.{BadData}
use Rattle.dex_types.specs.declared.instructions.Ix.{Ix}
use Rattle.dex_types.specs.declared.instructions.Ix.TheVariants.{ConsumeEvents}
use Rattle.dex_types.specs.declared.rows.Seen.{Seen}
use Rattle.dex_types.specs.Market.{Market}
use Rattle.dex_types.specs.Payment.{pay_all, pay_owner, consumable, is_named, after_crank}
use Rattle.dex_types.specs.QueuedEvent.{QueuedEvent}
use Rattle.dex_types.specs.Requests.{Request}
use Rattle.dex_types.specs.Trader.{Traders}
use Rattle.dex_types.specs.Why.{why, why_decoded}
use Rattle.dex_sound.specs.Cranks.{Crank, after_cranks, consumed_by}
use Rattle.dex_types.specs.Steps.{act_consume}

pub pay_all-append : (events later : List QueuedEvent) (traders : Traders) → pay_all (events ++ later) traders ≡ pay_all later (pay_all events traders)
pay_all-append [] later traders = refl
pay_all-append (event ∷ events) later traders = pay_all-append events later (pay_owner event traders)

pub after_crank-add : (first later : ℕ) (m : Market) → after_crank later (after_crank first m) ≡ after_crank (first + later) m
after_crank-add first later m =
    let with_both : List QueuedEvent → Traders → Market = λ events traders. record m { events = events; traders = traders } in
    let paid : pay_all (take (first + later) m.events) m.traders ≡ pay_all (take later (drop first m.events)) (pay_all (take first m.events) m.traders) =
    ap (λ events. pay_all events m.traders) (take-add first later m.events) ∙ pay_all-append (take first m.events) (take later (drop first m.events)) m.traders in
    ap (λ events. with_both events (pay_all (take later (drop first m.events)) (pay_all (take first m.events) m.traders))) (drop-drop later first m.events)
    ∙ ap (with_both (drop (first + later) m.events)) (sym paid)

pub after_cranks-one : (cranks : List Crank) (m : Market) → after_cranks cranks m ≡ after_crank (consumed_by cranks m) m
after_cranks-one [] m = refl
after_cranks-one (crank ∷ cranks) m =
    after_cranks-one cranks (act_consume crank.limit crank.named m).market
    ∙ after_crank-add (consumable crank.limit crank.named m.events) (consumed_by cranks (act_consume crank.limit crank.named m).market) m

pub after_cranks-same : (cranks others : List Crank) (m : Market) → consumed_by cranks m ≡ consumed_by others m → after_cranks cranks m ≡ after_cranks others m
after_cranks-same cranks others m same =
    after_cranks-one cranks m ∙ ap (λ count. after_crank count m) same ∙ sym (after_cranks-one others m)

-- a crank goes on while it may consume one more and names the next owner
consumable-more : (limit : ℕ) (named : List Address) (event : QueuedEvent) (events : List QueuedEvent) → 0 < limit → is_named event.owner named ≡ true
    → consumable limit named (event ∷ events) ≡ consumable (limit - 1) named events + 1
consumable-more limit named event events some is = cond-true _ _ _ (and_from _ _ (lt-ltb _ _ some) is)

consumable-over : (limit : ℕ) (named : List Address) (event : QueuedEvent) (events : List QueuedEvent) → limit < 1
    → consumable limit named (event ∷ events) ≡ 0
consumable-over zero named event events over = refl
consumable-over (suc limit) named event events over = absurd (omega arith)

pub consumable-limit : (limit : ℕ) (named : List Address) (events : List QueuedEvent) → consumable limit named events ≤ limit
consumable-limit limit named [] = omega arith
consumable-limit limit named (event ∷ events) =
    cond_both (ltb 0 limit && is_named event.owner named) (consumable (limit - 1) named events + 1) 0 (λ count. count ≤ limit)
    (λ more.
    let some : 0 < limit = ltb-true 0 limit (and_parts (ltb 0 limit) (is_named event.owner named) more).0 in
    omega (arith, some, consumable-limit (limit - 1) named events))
    (λ over. omega arith)

pub consumable-length : (limit : ℕ) (named : List Address) (events : List QueuedEvent) → consumable limit named events ≤ length events
consumable-length limit named [] = omega arith
consumable-length limit named (event ∷ events) =
    cond_both (ltb 0 limit && is_named event.owner named) (consumable (limit - 1) named events + 1) 0 (λ count. count ≤ suc (length events))
    (λ more. omega (arith, consumable-length (limit - 1) named events))
    (λ over. omega arith)

-- where each owner is named, it stops at its limit or at the end alone
pub consumable-all : (limit : ℕ) (named : List Address) (events : List QueuedEvent)
    → All (λ (event : QueuedEvent). IsTrue (is_named event.owner named)) events → min limit (length events) ≤ consumable limit named events
consumable-all limit named [] all = min-le_right limit 0
consumable-all limit named (event ∷ events) all =
    ⊎_elim
    (λ (over : limit < 1). omega (arith, min-le_left limit (length events + 1)))
    (λ (some : 1 ≤ limit).
    let more : consumable limit named (event ∷ events) ≡ consumable (limit - 1) named events + 1 =
    consumable-more limit named event events some (All-head (λ (event : QueuedEvent). IsTrue (is_named event.owner named)) event events all) in
    let rest : min (limit - 1) (length events) ≤ consumable (limit - 1) named events =
    consumable-all (limit - 1) named events (All-tail (λ (event : QueuedEvent). IsTrue (is_named event.owner named)) event events all) in
    ⊎_elim
    (λ (left : limit - 1 < length events). omega (arith, more, rest, min-eq_left left, min-le_left limit (length events + 1)))
    (λ (right : length events ≤ limit - 1). omega (arith, more, rest, min-eq_right right, min-le_right limit (length events + 1)))
    (cases_lt (limit - 1) (length events)))
    (cases_lt limit 1)

take-one_more : (n : ℕ) (event : QueuedEvent) (events : List QueuedEvent) → take (n + 1) (event ∷ events) ≡ event ∷ take n events
take-one_more n event events = let next : n + 1 ≡ suc n = omega arith in ap (λ count. take count (event ∷ events)) next

drop-one_more : (n : ℕ) (event : QueuedEvent) (events : List QueuedEvent) → drop (n + 1) (event ∷ events) ≡ drop n events
drop-one_more n event events = let next : n + 1 ≡ suc n = omega arith in ap (λ count. drop count (event ∷ events)) next

-- whatever it consumes is of an owner that it names
pub consumable-names : (limit : ℕ) (named : List Address) (events : List QueuedEvent)
    → All (λ (event : QueuedEvent). IsTrue (is_named event.owner named)) (take (consumable limit named events) events)
consumable-names limit named [] = All-nil (λ (event : QueuedEvent). IsTrue (is_named event.owner named))
consumable-names limit named (event ∷ events) =
    cond_both (ltb 0 limit && is_named event.owner named) (consumable (limit - 1) named events + 1) 0
    (λ count. All (λ (event : QueuedEvent). IsTrue (is_named event.owner named)) (take count (event ∷ events)))
    (λ more.
    let taken = take (consumable (limit - 1) named events) events in
    All-same (λ (event : QueuedEvent). IsTrue (is_named event.owner named)) (take (consumable (limit - 1) named events + 1) (event ∷ events)) (event ∷ taken)
    (take-one_more (consumable (limit - 1) named events) event events)
    (All-cons (λ (event : QueuedEvent). IsTrue (is_named event.owner named)) event taken
    (and_parts (ltb 0 limit) (is_named event.owner named) more).1 (consumable-names (limit - 1) named events)))
    (λ over. All-nil (λ (event : QueuedEvent). IsTrue (is_named event.owner named)))

-- and where it may consume more, and events are left, it does not name the owner of the next
pub consumable-stops : (limit : ℕ) (named : List Address) (events later : List QueuedEvent) (next : QueuedEvent)
    → drop (consumable limit named events) events ≡ next ∷ later → consumable limit named events < limit → is_named next.owner named ≡ false
consumable-stops limit named [] later next = λ left more. absurd (let e : [] ≡ next ∷ later = left in cc)
consumable-stops limit named (event ∷ events) later next =
    cond_both (ltb 0 limit && is_named event.owner named) (consumable (limit - 1) named events + 1) 0
    (λ count. drop count (event ∷ events) ≡ next ∷ later → count < limit → is_named next.owner named ≡ false)
    (λ more left within. consumable-stops (limit - 1) named events later next
    (sym (drop-one_more (consumable (limit - 1) named events) event events) ∙ left) (omega (arith, within)))
    (λ over left within. let some : ltb 0 limit ≡ true = lt-ltb 0 limit within in cc)

-- a crank has no reason to be refused
pub crank-not_refused : (request : Request) (seen : Seen) (m : Market) (limit : ℕ) → request.instruction ≡ Ok (ConsumeEvents limit) → why request seen m ≡ None
crank-not_refused request seen m limit is = ap (λ (instruction : Result Ix BadData). why_decoded instruction request seen m) is

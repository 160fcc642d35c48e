-- Where no market has a fault, all of each fits.
use Rattle.std.proofs.Common.{◌≡◌, ℕ, ◌≤◌, true, false, ltb, List, [], ◌∷◌, Option, None, Some, refl, sym, ◌∙◌, arith, ⊎_elim}
use Rattle.std.specs.List.{All}
use Rattle.std.specs.Option.{option_or}
use Rattle.std.proofs.lemmas.Bool.{cases_Bool, cond-true, ltb-false}
use Rattle.std.proofs.lemmas.List.Elements.{All-nil, All-cons}
use Rattle.dex_migrate.specs.declared.faults.MigrateFault.{MigrateFault}
use Rattle.dex_migrate.specs.declared.faults.MigrateWhat.{MigrateWhat}
use Rattle.dex_migrate.specs.TooSmall.{Fits, first_fault, market_fault, more_than}
use Rattle.dex_types.specs.declared.addresses.Address.{Address}
use Rattle.dex_types.specs.Accounts.{PlainMarketAccounts}

either-none : (first second : Option MigrateFault) → option_or first second ≡ None → (first ≡ None) × (second ≡ None)
either-none None second none = (refl, none)
either-none (Some fault) second none = absurd (cc)

not-more : (market : Address) (what : MigrateWhat) (needed given : ℕ) → more_than market what needed given ≡ None → needed ≤ given
not-more market what needed given none =
    ⊎_elim
    (λ (more : ltb given needed ≡ true).
    let fault : more_than market what needed given ≡ Some (record { market = market; what = what; needed = needed; given = given }) = cond-true _ _ _ more in
    absurd (let both = sym fault ∙ none in cc))
    (λ (fits : ltb given needed ≡ false). grind (arith, ltb-false))
    (cases_Bool (ltb given needed))

one-fits : (nodes events : ℕ) (market : PlainMarketAccounts) → market_fault nodes events market ≡ None → Fits nodes events market
one-fits nodes events market none =
    let sides = either-none _ _ none in
    let each = either-none _ _ sides.0 in
    record { bids = not-more _ _ _ _ each.0; asks = not-more _ _ _ _ each.1; pending = not-more _ _ _ _ sides.1 }

pub all-fit : (nodes events : ℕ) (markets : List PlainMarketAccounts) → first_fault nodes events markets ≡ None → All (Fits nodes events) markets
all-fit nodes events [] none = All-nil (Fits nodes events)
all-fit nodes events (market ∷ others) none =
    let both = either-none (market_fault nodes events market) (first_fault nodes events others) none in
    All-cons (Fits nodes events) market others (one-fits nodes events market both.0) (all-fit nodes events others both.1)

use Rattle.std.proofs.Common.{◌≡◌, arith, rules, List, Option, None, map, sym, ap, ◌∙◌, subst}
use Rattle.std.specs.List.{All}
use Rattle.dex_accounts.specs.Accepted.{IsAccepted}
use Rattle.dex_migrate.specs.declared.faults.MigrateFault.{MigrateFault}
use Rattle.dex_migrate.specs.TooSmall.{Fits, first_fault}
use Rattle.std.proofs.lemmas.Grind.{common_steps}
use Rattle.dex_migrate.proofs.KeptLaws.{migrated-accepted}
use Rattle.dex_migrate.proofs.MarketLaws.{all-plain}
use Rattle.dex_migrate.proofs.TooSmallLaws.{all-fit}
use Rattle.dex_types.specs.declared.account_bytes.MarketAccounts.{MarketAccounts}
use Rattle.dex_types.specs.Accounts.{PlainMarketAccounts, accounts_of, market_accounts_of}
use Rattle.dex_migrate.proofs.migrating.migrate.Goals as goal

pub first_fault-requires-clause-accepted : goal.first_fault-requires-clause-accepted
first_fault-requires-clause-accepted c =
    subst (All (λ (m : MarketAccounts). IsAccepted (market_accounts_of m))) (sym c.deref.ensures.value) (all-plain IsAccepted _ c.requires.accepted.markets)

pub migrate_markets-requires-clause-accepted : goal.migrate_markets-requires-clause-accepted
migrate_markets-requires-clause-accepted c =
    subst (All (λ (m : MarketAccounts). IsAccepted (market_accounts_of m))) (sym c.deref_mut.ensures.value) (all-plain IsAccepted _ c.requires.accepted.markets)

pub migrate_markets-requires-clause-fits : goal.migrate_markets-requires-clause-fits
migrate_markets-requires-clause-fits c =
    let read : List MarketAccounts → Option MigrateFault = λ l. first_fault c.args.nodes c.args.events (map market_accounts_of l) in
    let none : read c.args.accounts.markets.items ≡ None = sym (c.first_fault.ensures ∙ ap read c.deref.ensures.value) ∙ c.in_default.is in
    let P : PlainMarketAccounts → Type 0 = Fits c.args.nodes c.args.events in
    subst (All (λ (m : MarketAccounts). P (market_accounts_of m))) (sym c.deref_mut.ensures.value) (all-plain P _ (all-fit c.args.nodes c.args.events _ none))

pub returns-clause-accepted : goal.returns-clause-accepted
returns-clause-accepted c = λ limits accepted.
    migrated-accepted c.args.nodes c.args.events limits (accounts_of c.args.accounts) _ (first_of (search rules, grind (arith, common_steps))) accepted

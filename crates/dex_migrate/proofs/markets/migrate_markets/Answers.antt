use Rattle.std.proofs.Common.{rules, refl, sym, subst}
use Rattle.std.specs.List.{All}
use Rattle.std.proofs.lemmas.List.Elements.{All-drop}
use Rattle.dex_accounts.specs.Accepted.{IsAccepted}
use Rattle.dex_migrate.specs.Migrated.{IsMigrated}
use Rattle.dex_migrate.specs.TooSmall.{Fits}
use Rattle.dex_migrate.proofs.MarketLaws.{all-done, done-more, with-some}
use Rattle.dex_types.specs.declared.account_bytes.MarketAccounts.{MarketAccounts}
use Rattle.dex_types.specs.Accounts.{market_accounts_of}
use Rattle.dex_migrate.proofs.markets.migrate_markets.Goals as goal

pub loop-place-init : goal.loop-place-init
loop-place-init c = record { many = refl; left = refl; done = tt }

pub migrate_at-requires-clause-accepted : goal.migrate_at-requires-clause-accepted
migrate_at-requires-clause-accepted c =
    let P : MarketAccounts → Type 0 = λ m. IsAccepted (market_accounts_of m) in
    subst (All P) (sym c.loop-place.invariant.left) (All-drop P c.loop-place.place c.args.markets.now c.requires.accepted)

pub migrate_at-requires-clause-fits : goal.migrate_at-requires-clause-fits
migrate_at-requires-clause-fits c =
    let P : MarketAccounts → Type 0 = λ m. Fits c.args.nodes c.args.events (market_accounts_of m) in
    subst (All P) (sym c.loop-place.invariant.left) (All-drop P c.loop-place.place c.args.markets.now c.requires.fits)

pub loop-place-preserved : goal.loop-place-preserved
loop-place-preserved c =
    with-some _ c.args.markets.now c.loop-place.place c.loop-place-test.true
    (λ (d : MarketAccounts). let at = c.in_ok-migrate_at.ensures d in
    done-more (IsMigrated c.args.nodes c.args.events) c.loop-place.place c.args.markets.now c.loop-place.markets c.migrate_at.new.markets d c.loop-place.invariant
    c.loop-place-test.true at.here at.others)

pub returns : goal.returns
returns c = all-done (IsMigrated c.args.nodes c.args.events) c.loop-place.place c.args.markets.now c.loop-place.markets c.loop-place.invariant (search rules)

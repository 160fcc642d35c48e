use Rattle.std.proofs.Common.{rules, ◌≡◌, ℕ, ◌+◌, ◌<◌, length, List, Option, None, drop, map, get_or, refl, sym, ap, ◌∙◌, subst}
use Rattle.std.specs.Option.{option_or}
use Rattle.std.proofs.lemmas.List.{at_drop_all, at_drop_more}
use Rattle.std.proofs.lemmas.List.Elements.{All-get_or}
use Rattle.dex_accounts.specs.Accepted.{IsAccepted}
use Rattle.dex_migrate.specs.declared.faults.MigrateFault.{MigrateFault}
use Rattle.dex_migrate.specs.TooSmall as small
use Rattle.dex_types.specs.declared.account_bytes.MarketAccounts.{MarketAccounts}
use Rattle.dex_types.specs.Accounts.{market_accounts_of}
use Rattle.dex_migrate.proofs.too_small.first_fault.Goals as goal

pub markets-init : goal.markets-init
markets-init c = refl

pub market_fault-requires-clause-accepted : goal.market_fault-requires-clause-accepted
market_fault-requires-clause-accepted c =
    subst (λ (m : MarketAccounts). IsAccepted (market_accounts_of m)) (sym c.market-item.is)
    (All-get_or (λ (m : MarketAccounts). IsAccepted (market_accounts_of m)) c.args.markets.now c.markets.market-index c.market-item.result c.markets-test.true c.requires.accepted)

-- the first fault from a market on is its own, or else that of the others
one-more : (nodes events : ℕ) (markets : List MarketAccounts) (index : ℕ) (market : MarketAccounts) → market ≡ get_or markets index market → index < length markets
    → (fault : Option MigrateFault) → fault ≡ small.market_fault nodes events (market_accounts_of market)
    → small.first_fault nodes events (map market_accounts_of (drop index markets))
    ≡ option_or fault (small.first_fault nodes events (map market_accounts_of (drop (index + 1) markets)))
one-more nodes events markets index market at lt fault is =
    let first : List MarketAccounts → Option MigrateFault = λ l. small.first_fault nodes events (map market_accounts_of l) in
    at_drop_more first markets index market lt
    ∙ ap (λ (m : MarketAccounts). option_or (small.market_fault nodes events (market_accounts_of m)) (first (drop (index + 1) markets))) (sym at)
    ∙ ap (λ (f : Option MigrateFault). option_or f (first (drop (index + 1) markets))) (sym is)

pub returns-in-Some : goal.returns-in-Some
returns-in-Some c =
    let rest : Option MigrateFault = small.first_fault c.args.nodes c.args.events (map market_accounts_of (drop (c.markets.market-index + 1) c.args.markets.now)) in
    ap (λ (f : Option MigrateFault). option_or f rest) (sym c.in-Some.is)
    ∙ sym (one-more c.args.nodes c.args.events c.args.markets.now c.markets.market-index c.market-item.result c.market-item.is c.markets-test.true c.market_fault.result c.market_fault.ensures)
    ∙ c.markets.invariant

pub markets-preserved : goal.markets-preserved
markets-preserved c =
    let rest : Option MigrateFault = small.first_fault c.args.nodes c.args.events (map market_accounts_of (drop (c.markets.market-index + 1) c.args.markets.now)) in
    let none : c.market_fault.result ≡ None = search rules in
    ap (λ (f : Option MigrateFault). option_or f rest) (sym none)
    ∙ sym (one-more c.args.nodes c.args.events c.args.markets.now c.markets.market-index c.market-item.result c.market-item.is c.markets-test.true c.market_fault.result c.market_fault.ensures)
    ∙ c.markets.invariant

pub returns : goal.returns
returns c = sym (at_drop_all (λ l. small.first_fault c.args.nodes c.args.events (map market_accounts_of l)) c.args.markets.now c.markets.market-index (search rules)) ∙ c.markets.invariant

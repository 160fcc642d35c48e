use Rattle.std.proofs.Common.{◌++◌, map, sym, ap, ◌∙◌, arith}
use Rattle.std.proofs.lemmas.List.{length-map}
use Rattle.dex_types.specs.Accounts.{PlainMarketAccounts, market_accounts_of}
use Rattle.dex_accounts.specs.Accepted.{IsAccepted}
use Rattle.dex_audit_rules.specs.RulesOf.{told_by}
use Rattle.dex_audit_rules.proofs.ListLaws.{joined-more}
use Rattle.dex_audit.proofs.SupplyLaws.{all-map, gathered-at, here-map}
use Rattle.dex_audit.proofs.auditing.tell_markets.Goals as goal

pub tell_rule-requires-clause-accepted : goal.tell_rule-requires-clause-accepted
tell_rule-requires-clause-accepted c =
    all-map market_accounts_of IsAccepted c.args.markets.now c.loop-place.place c.index-markets-place.result c.requires.accepted (omega arith) c.index-markets-place.is

pub tell_rule-requires-clause-gathered : goal.tell_rule-requires-clause-gathered
tell_rule-requires-clause-gathered c =
    gathered-at c.args.gathered.now (map market_accounts_of c.args.markets.now) c.loop-place.place c.index-gathered-place.result
    (market_accounts_of c.index-markets-place.result) c.requires.gathered (omega (arith, length-map c.args.markets.now market_accounts_of)) c.index-gathered-place.is
    (here-map market_accounts_of c.args.markets.now c.loop-place.place c.index-markets-place.result (omega arith) c.index-markets-place.is)

pub loop-place-preserved : goal.loop-place-preserved
loop-place-preserved c =
    let market = market_accounts_of c.index-markets-place.result in
    joined-more (told_by c.args.rule) (map market_accounts_of c.args.markets.now) c.loop-place.place market
    c.args.found.now.items c.loop-place.found.items c.tell_rule.new.found.items (omega (arith, length-map c.args.markets.now market_accounts_of)) c.loop-place.invariant
    (c.in_ok-tell_rule.ensures
    ∙ ap (λ (m : PlainMarketAccounts). c.loop-place.found.items ++ told_by c.args.rule m)
    (sym (here-map market_accounts_of c.args.markets.now c.loop-place.place c.index-markets-place.result (omega arith) c.index-markets-place.is)))

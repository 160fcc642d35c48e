use Rattle.std.proofs.Common.{◌≡◌, List, ◌++◌, map, ap, ◌∙◌}
use Rattle.std.specs.List.{flat_map}
use Rattle.dex_types.specs.declared.account_bytes.MarketAccounts.{MarketAccounts}
use Rattle.dex_types.specs.declared.account_bytes.Named.{Named}
use Rattle.dex_types.specs.Accounts.{PlainMarketAccounts, accounts_of, market_accounts_of, named_of}
use Rattle.dex_audit_rules.specs.declared.finding.Finding.{Finding}
use Rattle.dex_audit_rules.specs.declared.market.Rule.TheVariants as rule
use Rattle.dex_audit.specs.Findings.{findings, fund_findings, slot_findings, told}
use Rattle.dex_audit.specs.Supplies.{supplies_off, supply_off}
use Rattle.dex_audit.proofs.SupplyLaws.{four}
use Rattle.dex_audit.proofs.auditing.audit.Goals as goal

pub returns : goal.returns
unfolding findings
returns c =
    let accounts = accounts_of c.args.accounts.now in
    let rules = λ (markets : List PlainMarketAccounts). slot_findings markets ++ fund_findings markets in
    let first : c.tell_market_rules.new.found.items ≡ rules accounts.markets =
    c.in_ok-tell_market_rules.ensures
    ∙ ap (λ (l : List Finding). l ++ rules (map market_accounts_of c.deref-2.result.now)) c.new-found.ensures.items
    ∙ ap (λ (l : List MarketAccounts). rules (map market_accounts_of l)) c.deref-2.ensures.value in
    four (slot_findings accounts.markets) (fund_findings accounts.markets) (supplies_off accounts) (told rule.TooLarge accounts.markets)
    c.tell_market_rules.new.found.items c.tell_supplies.new.found.items c.tell_markets.new.found.items first
    (c.in_ok-tell_supplies.ensures
    ∙ ap (λ (l : List Named). c.tell_market_rules.new.found.items ++ flat_map (supply_off accounts) (map named_of l)) c.deref-4.ensures.value)
    (c.in_ok-tell_markets.ensures
    ∙ ap (λ (l : List MarketAccounts). c.tell_supplies.new.found.items ++ told rule.TooLarge (map market_accounts_of l)) c.deref-5.ensures.value)

use Rattle.std.proofs.Common.{List, ◌++◌, map, ap, ◌∙◌}
use Rattle.dex_types.specs.Accounts.{market_accounts_of}
use Rattle.dex_audit_rules.specs.declared.finding.Finding.{Finding}
use Rattle.dex_audit_rules.specs.declared.market.Rule.TheVariants as rule
use Rattle.dex_audit.specs.Findings.{fund_findings, slot_findings, told}
use Rattle.dex_audit.proofs.SupplyLaws.{three}
use Rattle.dex_audit.proofs.auditing.audit_markets.Goals as goal

pub returns : goal.returns
returns c =
    let all = map market_accounts_of c.args.markets.now in
    three (slot_findings all) (fund_findings all) (told rule.TooLarge all) c.tell_market_rules.new.found.items c.tell_markets.new.found.items
    (c.in_ok-tell_market_rules.ensures ∙ ap (λ (l : List Finding). l ++ (slot_findings all ++ fund_findings all)) c.new-found.ensures.items)
    c.in_ok-tell_markets.ensures

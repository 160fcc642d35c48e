use Rattle.std.proofs.Common.{◌++◌, map}
use Rattle.std.proofs.lemmas.Result.{on_ok_weaker}
use Rattle.dex_types.specs.Accounts.{market_accounts_of}
use Rattle.dex_audit_rules.specs.declared.market.Rule.TheVariants as rule
use Rattle.dex_audit_rules.proofs.ListLaws.{both}
use Rattle.dex_audit.specs.Findings.{fund_findings, slot_findings, told}
use Rattle.dex_audit.proofs.SupplyLaws.{five}
use Rattle.dex_audit.proofs.auditing.tell_market_rules.Goals as goal

pub returns : goal.returns
returns c =
    let all = map market_accounts_of c.args.markets.now in
    let before = c.args.found.now.items in
    let first = c.tell_markets.new.found.items in
    let slots = c.tell_markets-6.new.found.items in
    let later = five (told rule.Misheld all) (told rule.Unpaired all) (told rule.Astray all) (told rule.Ungiven all) (told rule.Repeated all)
    first c.tell_markets-2.new.found.items c.tell_markets-3.new.found.items c.tell_markets-4.new.found.items c.tell_markets-5.new.found.items slots
    c.in_ok-tell_markets-2.ensures c.in_ok-tell_markets-3.ensures c.in_ok-tell_markets-4.ensures c.in_ok-tell_markets-5.ensures c.in_ok-tell_markets-6.ensures in
    on_ok_weaker c.tell_markets-11.result
    (λ last. both before (slot_findings all) (fund_findings all) slots c.tell_markets-11.new.found.items
    (both before (told rule.Homeless all)
    (told rule.Misheld all ++ (told rule.Unpaired all ++ (told rule.Astray all ++ (told rule.Ungiven all ++ told rule.Repeated all))))
    first slots c.in_ok-tell_markets.ensures later)
    (five (told rule.Totals all) (told rule.Deposits all) (told rule.Vaults all) (told rule.Rebates all) (told rule.Beyond all)
    slots c.tell_markets-7.new.found.items c.tell_markets-8.new.found.items c.tell_markets-9.new.found.items c.tell_markets-10.new.found.items
    c.tell_markets-11.new.found.items
    c.in_ok-tell_markets-7.ensures c.in_ok-tell_markets-8.ensures c.in_ok-tell_markets-9.ensures c.in_ok-tell_markets-10.ensures last))
    c.tell_markets-11.ensures

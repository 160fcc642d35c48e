-- What an audit finds: each place where a rule over several accounts fails, by the rule, then by the accounts' order,
-- then by place.
use Rattle.std.specs.Prelude.{List, ◌++◌}
use Rattle.std.specs.List.{flat_map}
use Rattle.dex_types.specs.Accounts.{PlainAccounts, PlainMarketAccounts}
use Rattle.dex_audit.specs.Supplies.{supplies_off}
use Rattle.dex_audit_rules.specs.declared.finding.Finding.{Finding}
use Rattle.dex_audit_rules.specs.declared.market.Rule.{Rule}
use Rattle.dex_audit_rules.specs.declared.market.Rule.TheVariants as rule
use Rattle.dex_audit_rules.specs.RulesOf.{told_by}

-- the findings of one rule of markets, over all of them
abbrev pub told : Rule → List PlainMarketAccounts → List Finding
told rule markets = flat_map (told_by rule) markets

-- the findings of orders, events and slots, rule by rule from 1 to 6
abbrev pub slot_findings : List PlainMarketAccounts → List Finding
slot_findings markets =
    told rule.Homeless markets
    ++ (told rule.Misheld markets
    ++ (told rule.Unpaired markets ++ (told rule.Astray markets ++ (told rule.Ungiven markets ++ told rule.Repeated markets))))

-- the findings of the funds of markets, rule by rule from 7 to 11
abbrev pub fund_findings : List PlainMarketAccounts → List Finding
fund_findings markets =
    told rule.Totals markets
    ++ (told rule.Deposits markets ++ (told rule.Vaults markets ++ (told rule.Rebates markets ++ told rule.Beyond markets)))

-- all findings: after these rule 12, of the mints, and rule 13
unfoldable pub findings : PlainAccounts → List Finding
findings accounts =
    slot_findings accounts.markets
    ++ (fund_findings accounts.markets ++ (supplies_off accounts ++ told rule.TooLarge accounts.markets))

-- the findings of markets alone, whatever mints and wallets there are
abbrev pub market_findings : List PlainMarketAccounts → List Finding
market_findings markets = slot_findings markets ++ (fund_findings markets ++ told rule.TooLarge markets)

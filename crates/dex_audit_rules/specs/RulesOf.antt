-- What an audit tells of one market by one rule.
use Rattle.std.specs.Prelude.{List}
use Rattle.dex_types.specs.Accounts.{PlainMarketAccounts}
use Rattle.dex_accounts.specs.Decoded.{market_in}
use Rattle.dex_audit_rules.specs.declared.finding.Finding.{Finding}
use Rattle.dex_audit_rules.specs.declared.market.Rule.{Rule}
use Rattle.dex_audit_rules.specs.declared.market.Rule.TheVariants as rule
use Rattle.dex_audit_rules.specs.Funds.{beyond_in, deposits_in, rebates_in, too_large_in, totals_in, vaults_in}
use Rattle.dex_audit_rules.specs.Slots.{astray_in, homeless_in, misheld_in, repeated_in, ungiven_in, unpaired_in}

-- the findings of a rule
abbrev pub told_by : Rule → PlainMarketAccounts → List Finding
told_by rule.Homeless accounts = homeless_in (market_in accounts)
told_by rule.Misheld accounts = misheld_in (market_in accounts)
told_by rule.Unpaired accounts = unpaired_in (market_in accounts)
told_by rule.Astray accounts = astray_in (market_in accounts)
told_by rule.Ungiven accounts = ungiven_in (market_in accounts)
told_by rule.Repeated accounts = repeated_in (market_in accounts)
told_by rule.Totals accounts = totals_in (market_in accounts)
told_by rule.Deposits accounts = deposits_in accounts
told_by rule.Vaults accounts = vaults_in (market_in accounts)
told_by rule.Rebates accounts = rebates_in (market_in accounts)
told_by rule.Beyond accounts = beyond_in (market_in accounts)
told_by rule.TooLarge accounts = too_large_in (market_in accounts)

use Rattle.std.proofs.Common.{◌≡◌, ◌++◌, map, take}
use Rattle.std.specs.List.{flat_map}
use Rattle.dex_types.specs.Accounts.{market_accounts_of}
use Rattle.dex_audit_rules.specs.RulesOf.{told_by}
use Rattle.dex_audit.proofs.auditing.tell_markets.Given as goal

abbrev pub invariant-loop-place : goal.invariant-loop-place
invariant-loop-place l = l.found.items ≡ l.initial.found.items ++ flat_map (told_by l.rule) (take l.place (map market_accounts_of l.markets))

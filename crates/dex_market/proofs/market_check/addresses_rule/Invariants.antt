use Rattle.std.proofs.Common.{◌≡◌, drop, take}
use Rattle.dex_market.specs.Faults.{address_fields, addresses_rule, repeat_rule}
use Rattle.dex_market.proofs.market_check.addresses_rule.Given as goal

abbrev pub invariant-loop-later : goal.invariant-loop-later
invariant-loop-later l = repeat_rule l.bytes (take l.later address_fields) (drop l.later address_fields) ≡ addresses_rule l.bytes

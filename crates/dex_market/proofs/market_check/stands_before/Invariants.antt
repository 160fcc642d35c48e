use Rattle.std.proofs.Common.{◌≡◌, false, take}
use Rattle.std.specs.List.{list_any}
use Rattle.dex_market.specs.Faults.{address_fields, field_at, is_address_at}
use Rattle.dex_market.proofs.market_check.stands_before.Given as goal

abbrev pub invariant-loop-earlier : goal.invariant-loop-earlier
invariant-loop-earlier l = list_any (is_address_at l.bytes (field_at l.later)) (take l.earlier address_fields) ≡ false

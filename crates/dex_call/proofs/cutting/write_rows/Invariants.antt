use Rattle.std.proofs.Common.{◌≡◌, ◌++◌, take}
use Rattle.std.specs.List.{flat_map}
use Rattle.std.specs.String.{string_bytes}
use Rattle.dex_call.specs.PartsTexts.{row_line}
use Rattle.dex_call.proofs.cutting.write_rows.Given as goal

abbrev pub invariant-rows : goal.invariant-rows
invariant-rows l = string_bytes l.text ≡ string_bytes l.initial.text ++ flat_map row_line (take l.shard-index l.shards)

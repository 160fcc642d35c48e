use Rattle.std.proofs.Common.{◌≡◌, ◌++◌, take}
use Rattle.std.specs.List.{flat_map}
use Rattle.std.specs.String.{string_bytes}
use Rattle.dex_call.specs.PartsTexts.{part_line}
use Rattle.dex_call.proofs.cutting.write_parts.Given as goal

abbrev pub invariant-parts : goal.invariant-parts
invariant-parts l = string_bytes l.text ≡ string_bytes l.initial.text ++ flat_map part_line (take l.count-index l.counts)

use Rattle.std.proofs.Common.{◌≡◌, ◌++◌, take}
use Rattle.std.specs.List.{flat_map}
use Rattle.std.specs.String.{string_bytes}
use Rattle.dex_call.specs.PartsTexts.{market_line}
use Rattle.dex_call.proofs.cutting.write_markets.Given as goal

abbrev pub invariant-markets : goal.invariant-markets
invariant-markets l = string_bytes l.text ≡ string_bytes l.initial.text ++ flat_map market_line (take l.shard-index l.shards)

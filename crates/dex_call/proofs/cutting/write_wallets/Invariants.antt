use Rattle.std.proofs.Common.{◌≡◌, ◌++◌, take}
use Rattle.std.specs.List.{flat_map}
use Rattle.std.specs.String.{string_bytes}
use Rattle.dex_call.specs.PartsTexts.{wallet_line}
use Rattle.dex_call.proofs.cutting.write_wallets.Given as goal

abbrev pub invariant-wallets : goal.invariant-wallets
invariant-wallets l = string_bytes l.text ≡ string_bytes l.initial.text ++ flat_map wallet_line (take l.shard-index l.shards)

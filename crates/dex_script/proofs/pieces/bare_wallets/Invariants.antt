use Rattle.std.proofs.Common.{◌≡◌, map, take}
use Rattle.dex_types.specs.Accounts.{named_of}
use Rattle.dex_script.specs.Pieces.{bare_wallet}
use Rattle.dex_script.proofs.pieces.bare_wallets.Given as goal

abbrev pub invariant-loop-wallet : goal.invariant-loop-wallet
invariant-loop-wallet l = map named_of l.bare.items ≡ map bare_wallet (map named_of (take l.wallet-index l.wallets))

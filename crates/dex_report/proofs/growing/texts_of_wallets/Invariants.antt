use Rattle.std.proofs.Common.{map, take}
use Rattle.std.specs.List.{AllZip}
use Rattle.dex_types.specs.Accounts.{named_of}
use Rattle.dex_report.specs.Growing.{TellsWallet, untold_wallet}
use Rattle.dex_report.proofs.growing.texts_of_wallets.Given as goal

abbrev pub invariant-loop-wallet : goal.invariant-loop-wallet
invariant-loop-wallet l = AllZip TellsWallet l.texts.items (map untold_wallet (map named_of (take l.wallet-index l.wallets)))

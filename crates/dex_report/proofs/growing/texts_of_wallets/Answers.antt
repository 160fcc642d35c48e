use Rattle.std.proofs.Common.{arith}
use Rattle.std.proofs.lemmas.List.Elements.{All-nil}
use Rattle.dex_types.specs.Accounts.{named_of}
use Rattle.dex_report.specs.Growing.{TellsWallet, untold_wallet}
use Rattle.dex_report.specs.Telling.{FitWalletEntry}
use Rattle.dex_report.proofs.GrowLaws.{one-more-tells}
use Rattle.dex_report.proofs.growing.texts_of_wallets.Goals as goal

pub loop-wallet-preserved : goal.loop-wallet-preserved
loop-wallet-preserved c =
    rw c.in_ok-push.ensures.items
    (one-more-tells TellsWallet untold_wallet named_of c.loop-wallet.texts.items c.args.wallets.now c.loop-wallet.wallet-index c.in_ok-text.text c.wallet-item.result
    (omega arith) c.wallet-item.is c.loop-wallet.invariant
    (record { address = c.in_ok-text.ensures.address; count = c.in_ok-text.ensures.count; fits = All-nil FitWalletEntry; lines = c.in_ok-text.ensures.text }))

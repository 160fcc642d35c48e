-- What a row brings to wallets, as a call is handed it.
use Rattle.dex_types.specs.Transfers.{Transfers, payout}
use Rattle.dex_reasons.specs.declared.wallets.Payout.{Payout}

-- what is brought to the wallets of the three roles
abbrev pub brought_by : Payout → Transfers
brought_by paid = payout paid.coin paid.pc paid.referrer

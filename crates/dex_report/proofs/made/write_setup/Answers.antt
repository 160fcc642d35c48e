use Rattle.std.proofs.Common.{◌++◌, codes}
use Rattle.dex_report.specs.declared.made_rows.MadeMarket.TheVariants.{First, Second}
use Rattle.dex_report.specs.Lines.{line, numbered}
use Rattle.dex_report.specs.MadeSetup.{market_line, orders_line, wallet_lines}
use Rattle.dex_report.proofs.Written.{written-two, written-four}
use Rattle.dex_report.proofs.made.write_setup.Goals as goal

pub returns : goal.returns
returns c =
    let mints = line (codes "mint,base,6") ++ line (codes "mint,quote,6") in
    let four = mints ++ numbered wallet_lines 8 ++ market_line First ++ market_line Second in
    written-two _ _ _ (four ++ numbered (orders_line First) 8) _
    (written-two _ _ _ four _
    (written-four _ _ _ _ _ mints (numbered wallet_lines 8) (market_line First) (market_line Second)
    c.in_ok-write.ensures.bytes c.in_ok-write_wallets.ensures c.in_ok-write-2.ensures.bytes c.in_ok-write-3.ensures.bytes)
    c.in_ok-write_accounts.ensures) c.in_ok-write_accounts-2.ensures

use Rattle.dex_report.specs.MadeSetup.{wallet_lines}
use Rattle.dex_report.proofs.Numbered.{numbered-more, numbered-none}
use Rattle.dex_report.proofs.made.write_wallets.Goals as goal

pub traders-init : goal.traders-init
traders-init c = numbered-none wallet_lines _

pub traders-preserved : goal.traders-preserved
traders-preserved c = numbered-more wallet_lines _ _ _ _ c.traders.invariant c.in_ok-write.ensures.bytes

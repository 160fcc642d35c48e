use Rattle.dex_report.specs.MadeSetup.{orders_line}
use Rattle.dex_report.proofs.Numbered.{numbered-more, numbered-none}
use Rattle.dex_report.proofs.made.write_accounts.Goals as goal

pub traders-init : goal.traders-init
traders-init c = numbered-none (orders_line c.args.market) _

pub traders-preserved : goal.traders-preserved
traders-preserved c = numbered-more (orders_line c.args.market) _ _ _ _ c.traders.invariant c.in_ok-write.ensures.bytes

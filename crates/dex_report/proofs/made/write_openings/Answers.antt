use Rattle.std.proofs.Common.{◌∙◌, ◌++◌, ap}
use Rattle.dex_report.specs.MadeRows.{opening_line}
use Rattle.dex_report.proofs.Numbered.{numbered-more, numbered-none}
use Rattle.dex_report.proofs.made.write_openings.Goals as goal

pub traders-init : goal.traders-init
traders-init c = numbered-none (opening_line c.args.market) _

pub traders-preserved : goal.traders-preserved
traders-preserved c = numbered-more (opening_line c.args.market) _ _ _ _ c.traders.invariant
    (c.in_ok-push_from.ensures ∙ ap (λ row. c.traders.text.items ++ row) c.put_opening-start.ensures.written)

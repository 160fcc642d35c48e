use Rattle.std.proofs.Common.{ap, ◌∙◌}
use Rattle.dex_world.proofs.Common.{request_of, row_of, why}
use Rattle.std.specs.Result.{is_err}
use Rattle.dex_cell.specs.CellState.{market_at}
use Rattle.dex_cell.proofs.PlanLaws.{answered-refused}
use Rattle.dex_act.proofs.steps.is_refused.Goals as goal

pub returns : goal.returns
returns c =
    c.is_err.ensures.value ∙ ap is_err c.decide.ensures ∙ answered-refused (why (request_of (row_of c.args.row.now)) c.args.seen.now (market_at c.args.market.now)) _

use Rattle.std.proofs.Common.{sym, subst}
use Rattle.dex_replay.proofs.Common.{IsOneOrder}
use Rattle.dex_run.proofs.closing.what_closes_is_a_run.Goals as goal

pub returns-clause-one_order : goal.returns-clause-one_order
returns-clause-one_order c = λ script seats outcome closes.
    subst (IsOneOrder script) (sym closes.leaves) (c.what_lanes_leave_is_a_replay.ensures script closes.all closes.merged)

pub returns-clause-run : goal.returns-clause-run
returns-clause-run c = λ script seats outcome closes.
    c.what_one_order_leaves_is_a_run.ensures script outcome closes.merged.facts
    (subst (IsOneOrder script) (sym closes.leaves) (c.what_lanes_leave_is_a_replay.ensures script closes.all closes.merged))

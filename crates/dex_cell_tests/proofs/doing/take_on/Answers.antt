use Rattle.std.proofs.Common.{sym, ◌∙◌}
use Rattle.dex_slab.specs.Slab.{resting}
use Rattle.dex_take.specs.TakeGiven.{given, read_of}
use Rattle.dex_cell_tests.proofs.DoneLaws.{take-decided}
use Rattle.dex_cell_tests.proofs.doing.take_on.Goals as goal

pub apply_take-reply-requires-clause-decided : goal.apply_take-reply-requires-clause-decided
apply_take-reply-requires-clause-decided c =
    take-decided c.args.taker.now (read_of (given c.args.market.now c.args.events.now (resting c.opposite-side.result c.args.opposite.now))) c.args.min_lots 0 c.args.seen.now c.in_ok-plan.plan
    (sym c.in_ok-plan.was ∙ c.decide_take.ensures)

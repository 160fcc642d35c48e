use Rattle.std.proofs.Common.{refl, ◌∙◌}
use Rattle.dex_act.proofs.StepLaws.{can-act, stepped}
use Rattle.dex_act.proofs.steps.step.Goals as goal

pub done-requires-clause-can : goal.done-requires-clause-can
done-requires-clause-can c = can-act c.args.terms.now c.args.asking.now.row.now c.see.ensures.seen c.requires c.see.ensures.fits

pub returns : goal.returns
returns c = stepped c.args.terms.now c.args.asking.now.row.now c.done.result (c.done.ensures.seen ∙ c.see.ensures.seen) c.requires refl c.done.ensures.recorded c.done.ensures.done

use Rattle.std.proofs.Common.{ap, map, subst, ◌∙◌}
use Rattle.std.proofs.lemmas.Result.{IfOk-weaker}
use Rattle.dex_types.specs.Rows.{row_of}
use Rattle.dex_script_types.specs.PlainScript.{PlainScript}
use Rattle.dex_script_types.specs.ScriptInside.{script_inside}
use Rattle.dex_parts.specs.Cuts.{AreCutBy, numbers_of}
use Rattle.dex_parts.proofs.CutLaws.{numbers-beside, own-in-order}
use Rattle.dex_parts.proofs.chains.chained.Goals as goal

pub counts_of-requires-clause-order : goal.counts_of-requires-clause-order
counts_of-requires-clause-order c =
    own-in-order (script_inside c.script.inside) c.script.inside.places.items c.deref.result.now c.deref.ensures.value c.script.invariant.2 c.script.invariant.0.rows

pub returns : goal.returns
returns c =
    let inside = c.script.inside in
    IfOk-weaker c.counts_of.result _ _
    (λ counts cut. subst (AreCutBy c.args.rows counts.items)
    (numbers-beside (map row_of inside.rows) inside.places.items c.deref.result.now c.deref.ensures.value c.script.invariant.2
    ∙ ap (λ (script : PlainScript). numbers_of script.rows) c.script.view_is) cut) c.counts_of.ensures

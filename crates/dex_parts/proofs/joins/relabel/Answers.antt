use Rattle.std.proofs.Common.{rules}
use Rattle.std.proofs.lemmas.List.Edits.{map_over_more}
use Rattle.dex_parts.specs.Joins.{relabelled}
use Rattle.dex_parts.proofs.joins.relabel.Goals as goal

pub loop-place-preserved : goal.loop-place-preserved
loop-place-preserved c = search (rules, map_over_more (relabelled c.args.from c.args.to), c.relabelled_as-label.ensures)

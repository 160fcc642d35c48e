use Rattle.std.proofs.Common.{[], arith, sym}
use Rattle.std.proofs.lemmas.List.{get_or_past}
use Rattle.dex_rows.specs.Lines.{cells_of}
use Rattle.dex_rows.proofs.LineLemmas.{field_kept}
use Rattle.dex_rows.proofs.lines.field.Goals as goal

pub returns : goal.returns
returns c = field_kept c.args.line.now c.args.place _ c.requires.cut (omega (arith, c.requires.cut.count)) c.requires.few

pub returns-then-line-place : goal.returns-then-line-place
returns-then-line-place c =
    sym (get_or_past (cells_of c.args.line.now.bytes.now) c.args.place [] (omega (arith, c.requires.cut.count, c.if-line-place.true)))

use Rattle.std.proofs.Common.{◌∙◌, ◌-◌, take, drop, length, ap, arith, sym, subst}
use Rattle.std.proofs.lemmas.List.{length-drop, take-append-drop, take_all}
use Rattle.dex_rows.specs.Lines.{HasNoQuote, rows_in}
use Rattle.dex_rows.proofs.CutLaws.{rows_cut}
use Rattle.dex_rows.proofs.plain.PlainRows.cut.Goals as goal

pub returns : goal.returns
returns c =
    let n = c.line_end-at.result in
    let text = c.self.inside.bytes.now in
    let whole = take-append-drop n text in
    let all = take_all (length text - n) (drop n text) (omega (arith, length-drop n text)) in
    rw all
    (sym c.self.view_is ∙ ap rows_in (sym whole) ∙ rows_cut (take n text) (drop n text) (subst HasNoQuote (sym whole) c.self.invariant) c.line_end-at.ensures.end)

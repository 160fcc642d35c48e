use Rattle.std.proofs.Common.{◌≡◌, ◌∙◌, [], drop, arith, sym}
use Rattle.std.proofs.Math.ListN.{drop_of_length-le}
use Rattle.std.proofs.lemmas.List.{length-drop, take_all}
use Rattle.dex_rows.specs.Lines.{behind_ends}
use Rattle.dex_rows.proofs.LineLemmas.{ends_skip, ends_stop}
use Rattle.dex_rows.proofs.lines.behind_ends.Goals as goal

pub returns-then-not-ends_row : goal.returns-then-not-ends_row
returns-then-not-ends_row c =
    let text = c.args.text.now in
    take_all _ (drop c.bytes.at text) (omega (arith, length-drop c.bytes.at text))
    ∙ ends_stop text c.bytes.at c.bytes-test.true (sym c.ends_row.ensures ∙ c.if-not-ends_row.true) ∙ c.bytes.invariant

pub bytes-preserved : goal.bytes-preserved
bytes-preserved c =
    sym (ends_skip c.args.text.now c.bytes.at c.bytes-test.true (sym c.ends_row.ensures ∙ c.if-not-ends_row.false)) ∙ c.bytes.invariant

pub returns : goal.returns
unfolding behind_ends
returns c =
    let text = c.args.text.now in
    let end : drop c.bytes.at text ≡ [] = drop_of_length-le text c.bytes-test.false in
    rw end at c.bytes.invariant

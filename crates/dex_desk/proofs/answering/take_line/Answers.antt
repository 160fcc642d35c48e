use Rattle.std.proofs.Common.{◌≡◌, ◌∙◌, List, [], ◌∷◌, ◌++◌, ap, append_assoc, arith, length, subst, sym}
use Rattle.std.proofs.lemmas.List.{append-nil}
use Rattle.dex_rows.specs.Records.{rows_of}
use Rattle.dex_statement.specs.Words.{Fields}
use Rattle.dex_desk.specs.Steps.{Went}
use Rattle.dex_desk.proofs.StepLaws.{went-none, went-on}
use Rattle.dex_desk.proofs.answering.take_line.Goals as goal

pub rows-init : goal.rows-init
rows-init c = ([], sym c.new-rows.ensures, went-none c.args.block c.args.buffers.now.text.items)

pub rows-smaller : goal.rows-smaller
rows-smaller c = omega (arith, ap length (c.in_ok-next_row.ensures.next c.if-branch.true))

pub rows-preserved : goal.rows-preserved
rows-preserved c =
    let held = c.rows.invariant in
    let done : List Fields = held.0 in
    let row : Fields = c.next_row.new.row in
    let rest : List Fields = c.next_row.new.self in
    let next : c.rows.rows ≡ row ∷ rest = c.in_ok-next_row.ensures.next c.if-branch.true in (
      done ++ row ∷ [],
      held.1 ∙ ap (λ (l : List Fields). done ++ l) next ∙ sym (append_assoc done (row ∷ []) rest),
      went-on done (row ∷ []) c.args.block c.rows.block c.in_ok-block.block c.args.buffers.now.text.items c.rows.buffers.text.items c.take_row.new.buffers.text.items
          held.2 c.in_ok-block.ensures,
    )

pub returns : goal.returns
returns c =
    let held = c.rows.invariant in
    let done : List Fields = held.0 in
    let all : rows_of c.args.line.now ≡ done = held.1 ∙ ap (λ (l : List Fields). done ++ l) (c.in_ok-next_row.ensures.end c.if-branch.false) ∙ append-nil done in
    subst (λ (l : List Fields). Went l c.args.block c.rows.block c.args.buffers.now.text.items c.rows.buffers.text.items) (sym all) held.2

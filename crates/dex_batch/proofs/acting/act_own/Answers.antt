use Rattle.std.proofs.Common.{◌+◌, arith, get_or, map, sym, subst, take, eq-eqb, ne_eqb}
use Rattle.std.proofs.lemmas.List.{get_or_default, length-map}
use Rattle.dex_bank.specs.Cells.{CellsState}
use Rattle.dex_types.specs.Rows.{row_of}
use Rattle.dex_batch.specs.Acting.{HaveActed}
use Rattle.dex_batch.specs.Parts.{part}
use Rattle.dex_batch.proofs.ActLaws.{all-own, numbers-long, other-more, own-can, own-more}
use Rattle.dex_batch.proofs.acting.act_own.Goals as goal
use Rattle.dex_batch.proofs.acting.act_own.Goals.{else-own-number, then-own-number}

pub bounds-numbers-place : goal.bounds-numbers-place
bounds-numbers-place g c =
    omega (arith, length-map c.args.window.now.rows.now row_of, numbers-long (map row_of c.args.window.now.rows.now) c.args.window.now.numbers.now c.args.number c.args.cells.now c.requires)

pub step-requires-clause-row : goal.step-requires-clause-row
step-requires-clause-row g c =
    own-can c.args.window.now.rows.now c.loop-place.place c.index-rows-place.result (omega arith) c.index-rows-place.is c.args.window.now.numbers.now c.args.number
    (get_or c.args.window.now.numbers.now c.loop-place.place 0) c.args.cells.now c.requires (get_or_default c.args.window.now.numbers.now c.loop-place.place 0 _ (omega (arith, length-map c.args.window.now.rows.now row_of, numbers-long (map row_of c.args.window.now.rows.now) c.args.window.now.numbers.now c.args.number c.args.cells.now c.requires))) c.loop-place.cells c.loop-place.invariant c.if-own-number.true

pub loop-place-preserved : goal.loop-place-preserved
loop-place-preserved g c =
    let rows = c.args.window.now.rows.now in
    let numbers = c.args.window.now.numbers.now in
    let n = get_or numbers c.loop-place.place 0 in
    let is = get_or_default numbers c.loop-place.place 0 n (omega (arith, length-map c.args.window.now.rows.now row_of, numbers-long (map row_of c.args.window.now.rows.now) c.args.window.now.numbers.now c.args.number c.args.cells.now c.requires)) in
    elim c.if-own-number.branch [
      | then-own-number w ↦
          subst (λ (cells : CellsState). HaveActed (part (take (c.loop-place.place + 1) numbers) c.args.number (take (c.loop-place.place + 1) (map row_of rows))) (take (c.loop-place.place + 1) (map row_of rows)) c.args.cells.now cells) (sym w.cells-is)
          (own-more rows c.loop-place.place c.index-rows-place.result (omega arith) c.index-rows-place.is numbers c.args.number n c.args.cells.now c.requires is c.loop-place.cells
          w.step.new.self w.step.result c.loop-place.invariant (eq-eqb n c.args.number w.if-own-number.true) w.step.ensures)
      | else-own-number w ↦
          subst (λ (cells : CellsState). HaveActed (part (take (c.loop-place.place + 1) numbers) c.args.number (take (c.loop-place.place + 1) (map row_of rows))) (take (c.loop-place.place + 1) (map row_of rows)) c.args.cells.now cells) (sym w.cells-is)
          (other-more rows c.loop-place.place c.index-rows-place.result (omega arith) c.index-rows-place.is numbers c.args.number n c.args.cells.now c.requires is c.loop-place.cells
          c.loop-place.invariant (ne_eqb n c.args.number w.if-own-number.false))
    ]

pub returns : goal.returns
returns g c =
    let rows = c.args.window.now.rows.now in
    let many = length-map rows row_of in
    all-own (map row_of rows) c.args.window.now.numbers.now c.args.number c.loop-place.place c.args.cells.now c.loop-place.cells (omega (arith, many))
    (omega (arith, many, numbers-long (map row_of rows) c.args.window.now.numbers.now c.args.number c.args.cells.now c.requires)) c.loop-place.invariant

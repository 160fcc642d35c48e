use Rattle.std.proofs.Common.{ℕ, map, Some, sym, ap, ◌∙◌}
use Rattle.dex_types.specs.declared.rows.Row.{Row}
use Rattle.dex_types.specs.Rows.{row_of}
use Rattle.dex_instruction.specs.Reading.{decoded}
use Rattle.dex_worth.specs.declared.amounts.TokenAmounts.{TokenAmounts}
use Rattle.dex_worth.specs.Entries.{entered, for_first}
use Rattle.dex_replay.specs.Told.{side_of}
use Rattle.dex_worth.proofs.Moving.{call-is, moved-are, no-call, nothing-moved}
use Rattle.dex_worth.proofs.entries.moved_by.Goals as goal

pub returns-then-is_nothing : goal.returns-then-is_nothing
returns-then-is_nothing c = λ script call are told.
    let both = c.is_nothing.ensures c.if-is_nothing.true in
    nothing-moved script c.args.market c.args.entry.now call told (sym c.debits_of-debits.ensures ∙ both.0) (sym c.settled_by-settled.ensures ∙ both.1)

pub returns-in-Some : goal.returns-in-Some
returns-in-Some c = λ script call are told.
    let r : Row = c.index-rows-place.result in
    let found = c.in-Some.ensures.1 r ∙ ap (λ (row : Row). Some (row_of row)) (sym c.index-rows-place.is) in
    moved-are script c.args.entry.now (row_of r) call c.moved_for.result
    (call-is script c.args.market c.args.entry.now call (map row_of c.args.rows.now) (row_of r) are told found)
    (λ owner. c.moved_for.ensures.deposited owner
    ∙ ap (λ (debits : ℕ). for_first owner (row_of r).named (entered (side_of (decoded (row_of r).bytes)) debits)) c.debits_of-debits.ensures)
    (λ owner. c.moved_for.ensures.settled owner ∙ ap (λ (amounts : TokenAmounts). for_first owner (row_of r).named amounts) c.settled_by-settled.ensures)

pub returns-in-None : goal.returns-in-None
returns-in-None c = λ script call are told. absurd (no-call script c.args.market c.args.entry.now call (map row_of c.args.rows.now) are told c.in-None.ensures)

use Rattle.std.proofs.Common.{◌≡◌, ◌∙◌, ℤ, [], ◌∷◌, Err, Ok, ap, of_z, rules, sym, to_z, w64}
use Rattle.std.proofs.lemmas.Int.{to_z-of_z}
use Rattle.std.proofs.lemmas.Result.{IfOk-weaker}
use Rattle.dex_dump.specs.DumpText.{dump_text}
use Rattle.dex_statement.specs.Words.{Fields}
use Rattle.dex_desk.specs.Asking.PlainAsked.{Instructs, Sets, Swaps}
use Rattle.dex_desk.specs.Asking.{asked_of}
use Rattle.dex_desk.specs.Blocks.{PlainBlock}
use Rattle.dex_desk.specs.Steps.{SaidIn, Went, fault_line, shown}
use Rattle.dex_desk.proofs.AskLaws.{book-in, dump-in, own-fault}
use Rattle.dex_desk.proofs.answering.take_row.Goals as goal

pub take_instruction-requires : goal.take_instruction-requires
take_instruction-requires c = (c.args.row.now, rw c.in-Ok-Instruction.field-0-is at c.in-Ok-Instruction.ensures)

pub returns-in-Ok-Instruction : goal.returns-in-Ok-Instruction
returns-in-Ok-Instruction c =
    let row = c.args.row.now in
    let block = c.args.block in
    let words = c.read_row.new.words in
    let old = c.args.buffers.now.text.items in
    let new = c.take_instruction.new.buffers.text.items in
    let asked : asked_of row ≡ Ok (Instructs words) = rw c.in-Ok-Instruction.field-0-is at c.in-Ok-Instruction.ensures in
    IfOk-weaker c.take_instruction.result (λ (after : PlainBlock). (row : Fields) → asked_of row ≡ Ok (Instructs words) → Went (row ∷ []) block after old new)
    (λ (after : PlainBlock). Went (row ∷ []) block after old new)
    (λ after went. went row asked)
    c.take_instruction.ensures

pub take_swap-requires : goal.take_swap-requires
take_swap-requires c = (c.args.row.now, rw c.in-Ok-Swap.field-0-is at c.in-Ok-Swap.ensures)

pub returns-in-Ok-Swap : goal.returns-in-Ok-Swap
returns-in-Ok-Swap c =
    let row = c.args.row.now in
    let block = c.args.block in
    let words = c.in-Ok-Swap.words in
    let old = c.args.buffers.now.text.items in
    let new = c.take_swap.new.buffers.text.items in
    let asked : asked_of row ≡ Ok (Swaps words) = rw c.in-Ok-Swap.field-0-is at c.in-Ok-Swap.ensures in
    IfOk-weaker c.take_swap.result (λ (after : PlainBlock). (row : Fields) → asked_of row ≡ Ok (Swaps words) → Went (row ∷ []) block after old new)
    (λ (after : PlainBlock). Went (row ∷ []) block after old new)
    (λ after went. went row asked)
    c.take_swap.ensures

pub answer_clock-requires : goal.answer_clock-requires
answer_clock-requires c =
    let now = c.in-Ok-Clock.now in
    let time : to_z w64 (of_z w64 now) ≡ now = search (rules, to_z-of_z) in
    let asked : asked_of c.args.row.now ≡ Ok (Sets now) = rw c.in-Ok-Clock.field-0-is at c.in-Ok-Clock.ensures in
    (c.args.row.now, asked ∙ ap (λ (t : ℤ). Ok (Sets t)) (sym time))

pub returns-in-Ok-Clock : goal.returns-in-Ok-Clock
returns-in-Ok-Clock c =
    let row = c.args.row.now in
    let block = c.args.block in
    let now = c.in-Ok-Clock.now in
    let old = c.args.buffers.now.text.items in
    let new = c.answer_clock.new.buffers.text.items in
    let time : to_z w64 (of_z w64 now) ≡ now = search (rules, to_z-of_z) in
    let asked : asked_of row ≡ Ok (Sets now) = rw c.in-Ok-Clock.field-0-is at c.in-Ok-Clock.ensures in
    IfOk-weaker c.answer_clock.result (λ (after : PlainBlock). (row : Fields) → asked_of row ≡ Ok (Sets (to_z w64 (of_z w64 now))) → Went (row ∷ []) block after old new)
    (λ (after : PlainBlock). Went (row ∷ []) block after old new)
    (λ after went. went row (asked ∙ ap (λ (t : ℤ). Ok (Sets t)) (sym time)))
    c.answer_clock.ensures

pub returns-in-Ok-Book : goal.returns-in-Ok-Book
returns-in-Ok-Book c =
    let row = c.args.row.now in
    let block = c.args.block in
    let market = c.in-Ok-Book.market in
    let depth = c.in-Ok-Book.depth in
    let old = c.args.buffers.now.text.items in
    let new = c.answer_book.new.buffers.text.items in
    let asked = rw c.in-Ok-Book.field-0-is at c.in-Ok-Book.ensures in
    IfOk-weaker c.answer_book.result (λ (after : PlainBlock). SaidIn block after (shown after market depth) old new)
    (λ (after : PlainBlock). Went (row ∷ []) block after old new)
    (λ after said. book-in row market depth block after old new asked said)
    c.answer_book.ensures

pub returns-in-Ok-Dump : goal.returns-in-Ok-Dump
returns-in-Ok-Dump c =
    let row = c.args.row.now in
    let block = c.args.block in
    let old = c.args.buffers.now.text.items in
    let new = c.answer_dump.new.buffers.text.items in
    let asked = rw c.in-Ok-Dump.field-0-is at c.in-Ok-Dump.ensures in
    IfOk-weaker c.answer_dump.result (λ (after : PlainBlock). SaidIn block after (dump_text after.draft.script.start) old new)
    (λ (after : PlainBlock). Went (row ∷ []) block after old new)
    (λ after said. dump-in row block after old new asked said)
    c.answer_dump.ensures

pub returns-in-Err-Fault : goal.returns-in-Err-Fault
returns-in-Err-Fault c =
    let row = c.args.row.now in
    let block = c.args.block in
    let kind = c.in-Err-Fault.kind in
    let old = c.args.buffers.now.text.items in
    let new = c.refuse.new.buffers.text.items in
    let asked : asked_of row ≡ Err kind = rw c.in-Err-Fault.field-0-is at c.in-Err-Fault.ensures in
    IfOk-weaker c.refuse.result (λ (after : PlainBlock). SaidIn block after (fault_line block kind) old new)
    (λ (after : PlainBlock). Went (row ∷ []) block after old new)
    (λ after said. own-fault row kind block after old new asked said)
    c.refuse.ensures

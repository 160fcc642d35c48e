use Rattle.std.proofs.Common.{◌≡◌, [], ◌∷◌, IfOk, Ok, subst}
use Rattle.std.proofs.lemmas.Result.{IfOk-weaker}
use Rattle.dex_statement.specs.Words.{Fields}
use Rattle.dex_desk.specs.Asking.{asked_of}
use Rattle.dex_desk.specs.Asking.PlainAsked.{Swaps}
use Rattle.dex_desk.specs.Blocks.{PlainBlock, with_both}
use Rattle.dex_desk.specs.Steps.{SaidIn, Went, fault_line}
use Rattle.dex_desk.proofs.AskLaws.{asked-swap, fault-in, taken-in}
use Rattle.dex_desk.proofs.answering.take_swap.Goals as goal

pub add_swap-requires : goal.add_swap-requires
add_swap-requires c = (c.requires.0, asked-swap c.requires.0 c.args.words c.requires.1)

pub returns-in-Ok : goal.returns-in-Ok
returns-in-Ok c =
    let block = c.args.block in
    let words = c.args.words in
    let mid = c.add_swap.new.self in
    let old = c.args.buffers.now.text.items in
    let new = c.with_room.new.buffers.text.items in
    IfOk-weaker c.with_room.result (λ (after : PlainBlock). Went [] mid after old new)
    (λ (after : PlainBlock). (row : Fields) → asked_of row ≡ Ok (Swaps words) → Went (row ∷ []) block after old new)
    (λ after went. λ row asked. taken-in row (Swaps words) (with_both block words) block mid after old new asked (λ added. added) c.in-Ok.ensures went)
    c.with_room.ensures

pub returns-in-Err-Fault : goal.returns-in-Err-Fault
returns-in-Err-Fault c =
    let block = c.args.block in
    let words = c.args.words in
    let kind = c.in-Err-Fault.kind in
    let old = c.args.buffers.now.text.items in
    let new = c.refuse.new.buffers.text.items in
    let mid = c.add_swap.new.self in
    let told = rw c.in-Err-Fault.field-0-is at c.in-Err-Fault.ensures in
    IfOk-weaker c.refuse.result (λ (after : PlainBlock). SaidIn block after (fault_line block kind) old new)
    (λ (after : PlainBlock). (row : Fields) → asked_of row ≡ Ok (Swaps words) → Went (row ∷ []) block after old new)
    (λ after said. λ row asked. fault-in row (Swaps words) (with_both block words) kind block after old new asked (λ text added. added) told.0 said)
    (subst (λ (b : PlainBlock). IfOk c.refuse.result (λ (after : PlainBlock). SaidIn b after (fault_line b kind) old new)) told.1 c.refuse.ensures)

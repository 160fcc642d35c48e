use Rattle.std.proofs.Common.{◌≡◌, ◌∙◌, ◌++◌, Ok, ℤ, ap, of_z, sym, to_z, w64}
use Rattle.std.proofs.lemmas.Int.{to_z-of_z}
use Rattle.dex_statement.specs.declared.statement.Statement.TheVariants as statement
use Rattle.dex_desk.specs.Blocks.{with_time}
use Rattle.dex_desk.specs.Steps.{clock_line}
use Rattle.dex_desk.proofs.AskLaws.{asked-clock, clock-in}
use Rattle.dex_desk.proofs.StepLaws.{said-behind}
use Rattle.dex_desk.proofs.answering.answer_clock.Goals as goal

pub set_clock-requires : goal.set_clock-requires
set_clock-requires c =
    let time : to_z w64 (of_z w64 c.args.now) ≡ c.args.now = to_z-of_z w64 c.args.now c.ranges.now in
    (c.requires.0, asked-clock c.requires.0 c.args.now c.requires.1 ∙ ap (λ (now : ℤ). Ok (statement.Clock now)) (sym time))

pub returns : goal.returns
returns c = λ row asked.
    let time : to_z w64 (of_z w64 c.args.now) ≡ c.args.now = to_z-of_z w64 c.args.now c.ranges.now in
    let block = c.args.block in
    let between = c.in_ok-block.block in
    let old = c.args.buffers.now.text.items in
    let mid = c.answer_all.new.buffers.text.items in
    let new = c.write_clock.new.text.items in
    clock-in row c.args.now block between c.set_clock.new.self old new asked
    (said-behind block between (clock_line c.args.now) old mid new c.in_ok-block.ensures.acted
    (c.in_ok-write_clock.ensures ∙ ap (λ (now : ℤ). mid ++ clock_line now) time))
    (c.set_clock.ensures ∙ ap (λ (now : ℤ). with_time between now) time)

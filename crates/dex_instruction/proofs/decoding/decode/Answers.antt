use Rattle.std.proofs.Common.{◌≡◌, None, Ok, ap, sym, subst, ◌∙◌, arith}
use Rattle.dex_instruction.specs.Reading.{decoded, instruction, unless_broken}
use Rattle.dex_instruction.specs.Rules.{broken}
use Rattle.dex_instruction.proofs.Again.{instruction-spelling}
use Rattle.dex_instruction.proofs.Whole.{spelling-instruction, IsTheirs}
use Rattle.dex_instruction.proofs.decoding.decode.Goals as goal

pub returns-in-Some-clause-value : goal.returns-in-Some-clause-value
unfolding decoded
returns-in-Some-clause-value c =
    ap (λ o. unless_broken o (instruction c.args.bytes.now)) (sym c.in-Some.is ∙ c.broken.ensures)

pub returns-in-None-clause-spelled : goal.returns-in-None-clause-spelled
returns-in-None-clause-spelled c =
    let bytes = c.args.bytes.now in
    let none : broken bytes ≡ None = sym c.broken.ensures ∙ c.in-None.is in
    let theirs : IsTheirs bytes (instruction bytes) = spelling-instruction bytes (λ i. omega (arith, c.type_inv.bytes i)) none in
    let read : IsTheirs bytes c.instruction.result = subst (IsTheirs bytes) (sym c.instruction.ensures) theirs in
    (sym read.0, none, read.1)

pub returns-in-None-clause-only : goal.returns-in-None-clause-only
returns-in-None-clause-only c =
    λ ix fits same none. ap Ok (c.instruction.ensures ∙ ap instruction same ∙ instruction-spelling ix fits)

pub returns-in-None-clause-value : goal.returns-in-None-clause-value
unfolding decoded
returns-in-None-clause-value c =
    let bytes = c.args.bytes.now in
    ap Ok c.instruction.ensures ∙ ap (λ o. unless_broken o (instruction bytes)) (sym c.in-None.is ∙ c.broken.ensures)

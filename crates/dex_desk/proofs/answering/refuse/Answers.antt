use Rattle.std.proofs.Common.{◌≡◌, ◌∙◌, ◌++◌, ℕ, List, ap}
use Rattle.dex_refusal_lines.specs.Lines.{script_refused}
use Rattle.dex_statement.specs.Faults.{code_of, kind_number}
use Rattle.dex_desk.specs.Steps.{fault_line}
use Rattle.dex_desk.proofs.StepLaws.{number-kept, said-behind}
use Rattle.dex_desk.proofs.answering.refuse.Goals as goal

pub returns : goal.returns
returns c =
    let block = c.args.block in
    let left = c.in_ok-block.block in
    let acted = c.in_ok-block.ensures.acted in
    let mid = c.answer_all.new.buffers.text.items in
    let kind = c.args.kind in
    let number : left.number ≡ block.number = number-kept block left acted.said acted.acted in
    let line : fault_line left kind ≡ fault_line block kind =
    ap (λ (n : ℕ). script_refused (record { row = n; kind = kind_number kind; code = code_of kind })) number in
    said-behind block left (fault_line block kind) c.args.buffers.now.text.items mid c.write_fault.new.text.items acted
    (c.in_ok-write_fault.ensures ∙ ap (λ (l : List ℕ). mid ++ l) line)

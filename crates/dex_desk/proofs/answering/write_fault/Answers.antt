use Rattle.std.proofs.Common.{◌≡◌, ◌∙◌, ◌++◌, ℕ, List, ap}
use Rattle.dex_refusal_lines.specs.Lines.{script_refused}
use Rattle.dex_statement.specs.Faults.{kind_number}
use Rattle.dex_desk.specs.Steps.{fault_line}
use Rattle.dex_desk.proofs.answering.write_fault.Goals as goal

pub returns-in-Ok-extend_from_slice : goal.returns-in-Ok-extend_from_slice
returns-in-Ok-extend_from_slice c =
    let block = c.args.block.now in
    let told : c.as_bytes.result.now ≡ fault_line block c.args.kind =
    c.as_bytes.ensures.value
    ∙ c.in-Ok.ensures
    ∙ ap (λ (n : ℕ). script_refused (record { row = n; kind = c.number-2.result; code = c.code.result })) c.number.ensures
    ∙ ap (λ (k : ℕ). script_refused (record { row = block.number; kind = k; code = c.code.result })) c.number-2.ensures
    ∙ ap (λ (d : ℕ). script_refused (record { row = block.number; kind = kind_number c.args.kind; code = d })) c.code.ensures in
    c.in-Ok-extend_from_slice.ensures.items ∙ ap (λ (l : List ℕ). c.args.text.now.items ++ l) told

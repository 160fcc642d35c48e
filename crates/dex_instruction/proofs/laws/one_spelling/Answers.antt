use Rattle.std.proofs.Common.{sym, ap, ◌∙◌}
use Rattle.dex_instruction.specs.Reading.{instruction}
use Rattle.dex_instruction.proofs.Again.{instruction-spelling}
use Rattle.dex_instruction.proofs.laws.one_spelling.Goals as goal

pub returns : goal.returns
returns c = λ a b fits_a fits_b e.
    sym (instruction-spelling a fits_a) ∙ ap instruction e ∙ instruction-spelling b fits_b

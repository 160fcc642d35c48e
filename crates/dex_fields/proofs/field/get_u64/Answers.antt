use Rattle.std.proofs.Common.{ap, ◌∙◌, arith}
use Rattle.dex_fields.specs.Bytes.{number_in, number_of_bytes}
use Rattle.dex_fields.proofs.Numbers.{sum_through-all}
use Rattle.dex_fields.proofs.field.get_u64.Goals as goal

pub returns : goal.returns
unfolding number_in
returns c =
    c.from_le_bytes.ensures
    ∙ sum_through-all 7 _ (omega arith)
    ∙ ap number_of_bytes (c.copy_from_slice.ensures.after ∙ c.piece.ensures.value)

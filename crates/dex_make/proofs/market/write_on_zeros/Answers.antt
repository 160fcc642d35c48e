use Rattle.std.proofs.Common.{List, ℕ, ap, ◌∙◌}
use Rattle.dex_fields.specs.declared.frame.TheConstants.{END_TEXT, FRONT, FRONT_TEXT}
use Rattle.dex_fields.specs.Bytes.{with_bytes, with_number}
use Rattle.dex_fields.specs.Empty.{empty_account, last_field}
use Rattle.dex_make.proofs.market.write_on_zeros.Goals as goal

pub returns : goal.returns
unfolding empty_account
returns c =
    c.put_u64.ensures.bytes
    ∙ ap (λ (b : List ℕ). with_number b (record { at = 5; len = 8 }) c.args.flags)
    (c.put_piece-2.ensures.bytes
    ∙ ap (λ (b : List ℕ). with_bytes b (last_field c.args.size) END_TEXT)
    (c.put_piece.ensures.bytes ∙ ap (λ (b : List ℕ). with_bytes b FRONT FRONT_TEXT) c.requires.zeros))

-- What stands in an account with nothing in it.
use Rattle.std.proofs.Common.{◌≡◌, ℕ, ◌+◌, ◌<◌, ◌≤◌, ◌^◌, List, length, replicate, refl, ap, ◌∙◌, arith, inl, inr}
use Rattle.std.proofs.lemmas.List.{length-replicate}
use Rattle.dex_fields.specs.declared.empty.TheConstants.{FLAGS}
use Rattle.dex_fields.specs.declared.field.Field.{Field}
use Rattle.dex_fields.specs.declared.frame.TheConstants.{END_TEXT, FRONT, FRONT_TEXT}
use Rattle.dex_fields.specs.Bytes.{bytes_in, end_of, number_in, number_of_bytes, with_bytes, with_number}
use Rattle.dex_fields.specs.Empty.{empty_account, last_field}
use Rattle.dex_fields.specs.Frame.{IsFramed}
use Rattle.dex_fields.proofs.Places.{bytes_in-replicate, number_of_bytes-zeros}
use Rattle.dex_fields.proofs.Writing.{bytes_in-with_bytes, bytes_in-with_bytes_apart, bytes_in-with_number_apart, length-with_bytes, length-with_number, number_in-with_number}

module _ (size flags : ℕ) (long : 20 ≤ size) where
  abbrev zeros : List ℕ
  zeros = replicate {A = ℕ} size 0

  abbrev fronted : List ℕ
  fronted = with_bytes zeros FRONT FRONT_TEXT

  abbrev ended : List ℕ
  ended = with_bytes fronted (last_field size) END_TEXT

  length-fronted : length fronted ≡ size
  length-fronted = length-with_bytes zeros FRONT FRONT_TEXT ∙ length-replicate {A = ℕ} size 0

  length-ended : length ended ≡ size
  length-ended = length-with_bytes fronted (last_field size) END_TEXT ∙ length-fronted

  -- it is as long as it is to be
  pub length-empty_account : length (empty_account size flags) ≡ size
  unfolding empty_account
  length-empty_account = length-with_number ended FLAGS flags ∙ length-ended

  -- its flags are these
  pub flags-empty_account : flags < 2 ^ 64 → number_in (empty_account size flags) FLAGS ≡ flags
  unfolding empty_account
  flags-empty_account fits = number_in-with_number ended FLAGS flags (omega (arith, length-ended)) fits

  -- a field between the flags and the last text is zero
  pub bytes_in-empty_account : (field : Field) → 13 ≤ field.at → end_of field + 7 ≤ size → bytes_in (empty_account size flags) field ≡ replicate field.len 0
  unfolding empty_account
  bytes_in-empty_account field behind before =
      bytes_in-with_number_apart ended field FLAGS flags (inr behind)
      ∙ bytes_in-with_bytes_apart fronted field (last_field size) END_TEXT (inl (omega arith))
      ∙ bytes_in-with_bytes_apart zeros field FRONT FRONT_TEXT (inr (omega arith))
      ∙ bytes_in-replicate size 0 field (omega arith)

  pub number_in-empty_account : (field : Field) → 13 ≤ field.at → end_of field + 7 ≤ size → number_in (empty_account size flags) field ≡ 0
  unfolding number_in
  number_in-empty_account field behind before = ap number_of_bytes (bytes_in-empty_account field behind before) ∙ number_of_bytes-zeros field.len

  -- its texts are where they must be
  pub IsFramed-empty_account : IsFramed (empty_account size flags)
  unfolding empty_account
  IsFramed-empty_account = record {
    front =
        bytes_in-with_number_apart ended FRONT FLAGS flags (inl (omega arith))
        ∙ bytes_in-with_bytes_apart fronted FRONT (last_field size) END_TEXT (inl (omega arith))
        ∙ bytes_in-with_bytes zeros FRONT FRONT_TEXT (omega (arith, length-replicate {A = ℕ} size 0)) refl;
    end =
        ap (λ (n : ℕ). bytes_in (with_number ended FLAGS flags) (last_field n)) (length-with_number ended FLAGS flags ∙ length-ended)
        ∙ bytes_in-with_number_apart ended (last_field size) FLAGS flags (inr (omega arith))
        ∙ bytes_in-with_bytes fronted (last_field size) END_TEXT (omega (arith, length-fronted)) refl;
  }

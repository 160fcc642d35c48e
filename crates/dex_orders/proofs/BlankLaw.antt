-- An account of zeros.
use Rattle.std.proofs.Common.{◌≡◌, ℕ, eqb, true, List, length, get_or, replicate, sym, ap, ◌∙◌, arith, inl, inr}
use Rattle.std.proofs.lemmas.Bool.{cases_lt, eq-eqb, eqb-true}
use Rattle.std.proofs.lemmas.Grind.{same_number_lists}
use Rattle.std.proofs.lemmas.List.{get_or-replicate, get_or_default, get_or_past, length-replicate}
use Rattle.std.proofs.lemmas.List.Sums.{AllPass-from_list_all, list_all-from_AllPass}
use Rattle.dex_fields.specs.declared.field.Field.{Field}
use Rattle.dex_fields.specs.Bytes.{IsWithin, bytes_in, number_in, number_of_bytes}
use Rattle.dex_fields.proofs.Places.{bytes_in-replicate, number_of_bytes-zeros}
use Rattle.dex_orders.specs.Faults.{are_zeros}
use Rattle.dex_orders.specs.OrdersAccount.{IsBlank}

module _ (bytes : List ℕ) where
  zeros_are : ((place : ℕ) → get_or bytes place 0 ≡ 0) → bytes ≡ replicate {A = ℕ} (length bytes) 0
  zeros_are zeros =
      same_number_lists bytes (replicate {A = ℕ} (length bytes) 0) (sym (length-replicate {A = ℕ} (length bytes) 0))
      (λ k lt. zeros k ∙ sym (get_or-replicate {A = ℕ} (length bytes) k 0 0 lt))

  pub number_in-zeros : ((place : ℕ) → get_or bytes place 0 ≡ 0) → (field : Field) → IsWithin field bytes → number_in bytes field ≡ 0
  unfolding number_in
  number_in-zeros zeros field within =
      ap (λ (l : List ℕ). number_of_bytes (bytes_in l field)) (zeros_are zeros)
      ∙ ap number_of_bytes (bytes_in-replicate (length bytes) 0 field within) ∙ number_of_bytes-zeros field.len

  pub zeros_from_test : are_zeros bytes ≡ true → (place : ℕ) → get_or bytes place 0 ≡ 0
  zeros_from_test h place =
      elim (cases_lt place (length bytes)) [
        | inl lt ↦ eqb-true (get_or bytes place 0) 0 (AllPass-from_list_all (λ (byte : ℕ). eqb byte 0) bytes h place 0 lt)
        | inr past ↦ get_or_past bytes place 0 past
      ]

  pub test_from_zeros : ((place : ℕ) → get_or bytes place 0 ≡ 0) → are_zeros bytes ≡ true
  test_from_zeros zeros =
      list_all-from_AllPass (λ (byte : ℕ). eqb byte 0) bytes (λ place d lt.
      let here : get_or bytes place d ≡ get_or bytes place 0 = get_or_default bytes place d 0 lt in
      eq-eqb (get_or bytes place d) 0 (here ∙ zeros place))

-- zeros of an account's length are a blank one
pub IsBlank-zeros : (count : ℕ) → count ≡ 3228 → IsBlank (replicate {A = ℕ} count 0)
IsBlank-zeros count size = record {
  size = length-replicate {A = ℕ} count 0 ∙ size;
  zeros = λ place.
      elim (cases_lt place count) [
        | inl lt ↦ get_or-replicate {A = ℕ} count place 0 0 lt
        | inr past ↦ get_or_past (replicate {A = ℕ} count 0) place 0 (omega (arith, length-replicate {A = ℕ} count 0))
      ];
}

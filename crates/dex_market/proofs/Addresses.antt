-- When no address of a market account stands before it.
use Rattle.std.proofs.Common.{◌≡◌, ℕ, zero, suc, ◌+◌, ◌-◌, ◌<◌, ◌≤◌, true, false, eqb, leb, ◌&&◌, List, [], ◌∷◌, ◌++◌, length, take, drop, get_or, Option, Some, None, refl, sym, ap, ◌∙◌, arith}
use Rattle.std.proofs.lemmas.Bool.{and_parts, both_ways, cond-false, cond-true, eqb-true, false_from_ne_true, leb-true}
use Rattle.std.proofs.lemmas.List.{append_assoc, drop_all, drop_more, take_more, get_or_append_left, get_or-drop, get_or-map, length-append}
use Rattle.std.proofs.lemmas.List.Folds.{list_any_at, list_any_none}
use Rattle.std.proofs.lemmas.List.Sums.{AllPass-from_list_all}
use Rattle.std.specs.List.{list_any}
use Rattle.dex_fields.specs.declared.field.Field.{Field}
use Rattle.dex_fields.specs.Bytes.{end_of}
use Rattle.dex_fields.proofs.Rules.{cond_none}
use Rattle.dex_types.specs.declared.faults.AccountFault.{AccountFault}
use Rattle.dex_types.specs.declared.addresses.Address.{Address}
use Rattle.dex_types.specs.Addresses.{is_same}
use Rattle.dex_market.specs.MarketAccount.{address_in, addresses_of, market_terms}
use Rattle.dex_market.specs.Faults.{address_fault, address_fields, addresses_rule, field_at, is_address_at, repeat_rule}

-- what stands past the last of the fields
abbrev pub no_field : Field
no_field = record { at = 0; len = 0 }

-- each address has its 32 bytes in the account
pub field_at_is_wide : (number : ℕ) → number < 9 → (end_of (field_at number) ≤ 388) × ((field_at number).len ≡ 32)
field_at_is_wide number lt =
    let tests : (leb (end_of (field_at number)) 388 && eqb (field_at number).len 32) ≡ true = AllPass-from_list_all (λ (f : Field). leb (end_of f) 388 && eqb f.len 32) address_fields refl number no_field lt in
    let both = and_parts (leb (end_of (field_at number)) 388) (eqb (field_at number).len 32) tests in
    (leb-true (end_of (field_at number)) 388 both.0, eqb-true (field_at number).len 32 both.1)

module _ (bytes : List ℕ) where
  -- one field more holds an address of its own
  pub repeat_more : (fields : List Field) (i : ℕ) (d : Field) (total : Option AccountFault) → i < length fields
      → list_any (is_address_at bytes (get_or fields i d)) (take i fields) ≡ false
      → repeat_rule bytes (take i fields) (drop i fields) ≡ total → repeat_rule bytes (take (i + 1) fields) (drop (i + 1) fields) ≡ total
  unfolding repeat_rule
  repeat_more fields i d total lt new so_far =
      let field : Field = get_or fields i d in
      let here : repeat_rule bytes (take i fields) (field ∷ drop (i + 1) fields) ≡ repeat_rule bytes (take i fields ++ field ∷ []) (drop (i + 1) fields) =
      cond-false (list_any (is_address_at bytes field) (take i fields)) (Some (address_fault bytes field)) (repeat_rule bytes (take i fields ++ field ∷ []) (drop (i + 1) fields)) new in
      ap (λ (l : List Field). repeat_rule bytes l (drop (i + 1) fields)) (take_more fields i d lt)
      ∙ sym here ∙ ap (repeat_rule bytes (take i fields)) (sym (drop_more fields i d lt)) ∙ so_far

  -- a field holds an address that stands before it
  pub repeat_found : (fields : List Field) (i : ℕ) (d : Field) (total : Option AccountFault) → i < length fields
      → list_any (is_address_at bytes (get_or fields i d)) (take i fields) ≡ true
      → repeat_rule bytes (take i fields) (drop i fields) ≡ total → Some (address_fault bytes (get_or fields i d)) ≡ total
  unfolding repeat_rule
  repeat_found fields i d total lt old so_far =
      let field : Field = get_or fields i d in
      sym (cond-true (list_any (is_address_at bytes field) (take i fields)) (Some (address_fault bytes field)) (repeat_rule bytes (take i fields ++ field ∷ []) (drop (i + 1) fields)) old)
      ∙ ap (repeat_rule bytes (take i fields)) (sym (drop_more fields i d lt)) ∙ so_far

  -- no field is left
  pub repeat_end : (fields : List Field) (i : ℕ) (total : Option AccountFault) → length fields ≤ i
      → repeat_rule bytes (take i fields) (drop i fields) ≡ total → None ≡ total
  unfolding repeat_rule
  repeat_end fields i total past so_far = sym (ap (repeat_rule bytes (take i fields)) (drop_all i fields past)) ∙ so_far

  -- where nothing repeats, each field holds another address than all before it
  pub repeat_none : (earlier fields : List Field) → repeat_rule bytes earlier fields ≡ None
      → (k i : ℕ) (d : Field) → k < length fields → i < length earlier + k
      → is_address_at bytes (get_or fields k d) (get_or (earlier ++ fields) i d) ≡ false
  unfolding repeat_rule
  repeat_none earlier [] none k i d lt before = absurd (omega arith)
  repeat_none earlier (field ∷ fields) none zero i d lt before =
      let parts = cond_none (list_any (is_address_at bytes field) earlier) (address_fault bytes field) (repeat_rule bytes (earlier ++ field ∷ []) fields) none in
      let inside : i < length earlier = omega arith in
      ap (is_address_at bytes field) (get_or_append_left earlier (field ∷ fields) d i inside)
      ∙ false_from_ne_true (is_address_at bytes field (get_or earlier i d)) (λ found.
      both_ways (list_any (is_address_at bytes field) earlier) parts.0 (list_any_at (is_address_at bytes field) earlier i d inside found))
  repeat_none earlier (field ∷ fields) none (suc k) i d lt before =
      let parts = cond_none (list_any (is_address_at bytes field) earlier) (address_fault bytes field) (repeat_rule bytes (earlier ++ field ∷ []) fields) none in
      let rest = repeat_none (earlier ++ field ∷ []) fields parts.1 k i d (omega arith) (omega (arith, length-append earlier (field ∷ []))) in
      ap (λ (l : List Field). is_address_at bytes (get_or fields k d) (get_or l i d)) (sym (append_assoc earlier (field ∷ []) fields)) ∙ rest

  -- the converse
  pub none_repeats : (earlier fields : List Field)
      → ((k i : ℕ) (d : Field) → k < length fields → i < length earlier + k → is_address_at bytes (get_or fields k d) (get_or (earlier ++ fields) i d) ≡ false)
      → repeat_rule bytes earlier fields ≡ None
  unfolding repeat_rule
  none_repeats earlier [] apart = refl
  none_repeats earlier (field ∷ fields) apart =
      let new : list_any (is_address_at bytes field) earlier ≡ false = list_any_none (is_address_at bytes field) earlier (λ i d lt.
      ap (is_address_at bytes field) (sym (get_or_append_left earlier (field ∷ fields) d i lt)) ∙ apart 0 i d (omega arith) (omega arith)) in
      let rest : repeat_rule bytes (earlier ++ field ∷ []) fields ≡ None = none_repeats (earlier ++ field ∷ []) fields (λ k i d lt before.
      ap (λ (l : List Field). is_address_at bytes (get_or fields k d) (get_or l i d)) (append_assoc earlier (field ∷ []) fields)
      ∙ apart (suc k) i d (omega arith) (omega (arith, length-append earlier (field ∷ [])))) in
      cond-false (list_any (is_address_at bytes field) earlier) (Some (address_fault bytes field)) (repeat_rule bytes (earlier ++ field ∷ []) fields) new ∙ rest

  -- the addresses of the terms are those of the fields
  address_at : (number : ℕ) (d : Address) (f : Field) → number < 9 → get_or (addresses_of (market_terms bytes)) number d ≡ address_in bytes (get_or address_fields number f)
  address_at number d f lt = get_or-map (address_in bytes) address_fields number f d lt

  -- no vault, queue or side has an address that stands before it
  abbrev pub AreFresh : Type 0
  AreFresh = (earlier later : ℕ) (d : Address) → earlier < later → 3 ≤ later → later < 9
      → is_same (get_or (addresses_of (market_terms bytes)) later d) (get_or (addresses_of (market_terms bytes)) earlier d) ≡ false

  pub fresh_from_none : addresses_rule bytes ≡ None → AreFresh
  fresh_from_none none earlier later d lt low high =
      let f : Field = no_field in
      let apart = repeat_none (take 3 address_fields) (drop 3 address_fields) none (later - 3) earlier f (omega arith) (omega arith) in
      let place : get_or (drop 3 address_fields) (later - 3) f ≡ get_or address_fields later f = get_or-drop 3 address_fields (later - 3) f ∙ ap (λ (n : ℕ). get_or address_fields n f) (omega arith) in
      ap (λ (a : Address). is_same a (get_or (addresses_of (market_terms bytes)) earlier d)) (address_at later d f high)
      ∙ ap (is_same (address_in bytes (get_or address_fields later f))) (address_at earlier d f (omega arith))
      ∙ ap (λ (field : Field). is_address_at bytes field (get_or address_fields earlier f)) (sym place) ∙ apart

  pub none_from_fresh : AreFresh → addresses_rule bytes ≡ None
  none_from_fresh fresh = none_repeats (take 3 address_fields) (drop 3 address_fields) (λ k i f lt before.
      let d : Address = address_in bytes f in
      let place : get_or (drop 3 address_fields) k f ≡ get_or address_fields (3 + k) f = get_or-drop 3 address_fields k f in
      ap (λ (field : Field). is_address_at bytes field (get_or address_fields i f)) place
      ∙ ap (is_same (address_in bytes (get_or address_fields (3 + k) f))) (sym (address_at i d f (omega arith)))
      ∙ ap (λ (a : Address). is_same a (get_or (addresses_of (market_terms bytes)) i d)) (sym (address_at (3 + k) d f (omega arith)))
      ∙ fresh i (3 + k) d (omega arith) (omega arith) (omega arith))

-- The row of a number on a market and what has an address are found, where none stands twice.
use Rattle.std.proofs.Common.{◌≡◌, ℕ, zero, suc, ◌<◌, ◌==◌, ◌&&◌, ⊎_elim, Bool, true, false, List, [], ◌∷◌, length, get_or, map, Some, refl, sym, ap, ◌∙◌, subst, arith, ap₂}
use Rattle.dex_world.proofs.Common.{Address, AllPairs, Contains, PlainRow, cases_Bool, cond-false, cond-true, eq-eqb, eqb-true, get_or-map, is_same, is_same-refl, is_same-sym, length-map}
use Rattle.dex_replay.proofs.Common.{first_of}
use Rattle.dex_replay.proofs.Orders.{AreLegsIfOne}
use Rattle.dex_script_types.proofs.Apart.{AreDistinct}
use Rattle.dex_replay.specs.EntryCalls.{is_row_on}

-- what is told of the first that passes a test
found-at : {A Y : Type 0} (test : A → Bool) (told : A → Y) (x : A) → test x ≡ true → (xs : List A) (k : ℕ) → k < length xs → get_or xs k x ≡ x
    → ((j : ℕ) → j < k → test (get_or xs j x) ≡ false) → first_of test told xs ≡ Some (told x)
found-at test told x is [] k within here before = absurd (omega (arith, within))
found-at test told x is (first ∷ others) zero within here before =
    cond-true (test first) (Some (told first)) (first_of test told others) (ap test here ∙ is) ∙ ap (λ one. Some (told one)) here
found-at test told x is (first ∷ others) (suc k) within here before =
    cond-false (test first) (Some (told first)) (first_of test told others) (before 0 (omega arith))
    ∙ found-at test told x is others k (omega (arith, within)) here (λ j less. before (suc j) (omega (arith, less)))

-- ---- a row

module _ {Y : Type 0} (told : PlainRow → Y) (row : PlainRow) where
  abbrev is_it : PlainRow → Bool
  is_it one = is_row_on row.market row.number one

  another : (one : PlainRow) → AreLegsIfOne one row → is_it one ≡ false
  another one legs =
      ⊎_elim
      (λ (same : (one.number == row.number) ≡ true).
      ap (λ (b : Bool). b && is_same one.market row.market) same ∙ (legs (eqb-true one.number row.number same)).apart.markets)
      (λ (other : (one.number == row.number) ≡ false). ap (λ (b : Bool). b && is_same one.market row.market) other)
      (cases_Bool (one.number == row.number))

  itself : is_it row ≡ true
  itself =
      ap (λ (b : Bool). b && is_same row.market row.market) (eq-eqb row.number row.number refl) ∙ is_same-refl row.market

  pub row-found : (rows : List PlainRow) → AllPairs AreLegsIfOne rows → Contains rows row → first_of is_it told rows ≡ Some (told row)
  row-found rows legs here =
      found-at is_it told row itself rows here.0 here.1 here.2
      (λ j before. another (get_or rows j row) (subst (AreLegsIfOne (get_or rows j row)) here.2 (legs j here.0 row before here.1)))

-- ---- what has an address

module _ {A Y : Type 0} (key : A → Address) (told : A → Y) (x : A) where
  pub one-found : (xs : List A) → AreDistinct (map key xs) → Contains xs x → first_of (λ (one : A). is_same (key x) (key one)) told xs ≡ Some (told x)
  one-found xs distinct here =
      let address : Address = key x in
      found-at (λ (one : A). is_same address (key one)) told x (is_same-refl address) xs here.0 here.1 here.2
      (λ j before.
      is_same-sym address (key (get_or xs j x))
      ∙ ap₂ is_same (sym (get_or-map key xs j x address (omega (arith, before, here.1)))) (sym (get_or-map key xs here.0 x address here.1 ∙ ap key here.2))
      ∙ distinct j here.0 address before (omega (arith, here.1, length-map xs key)))

-- Items that are dealt into piles, and gathered.
use Rattle.std.proofs.Common.{◌≡◌, ℕ, ◌+◌, ◌<◌, true, false, cond, eqb, List, [], ◌∷◌, ◌++◌, drop, get_or, length, set, take, refl, sym, ap, ◌∙◌, arith, ⊎_elim}
use Rattle.std.proofs.lemmas.Bool.{cases_Bool, cond-false, cond-true, eq-eqb, eqb-true, false≢true}
use Rattle.std.proofs.lemmas.List.{append-nil, append_assoc, drop_more, get_or-set_other, get_or-set_same, length-append, length-set, length-take-le, take_more}
use Rattle.dex_batch.specs.Parts.{AreAsLong, part}
use Rattle.dex_batch.proofs.PartLaws.{part-append}

-- so many piles have the items of their numbers
abbrev pub AreDealt : {A : Type 0} → ℕ → List ℕ → List A → List (List A) → Type 0
AreDealt {A} count numbers items piles = (number : ℕ) (d : List A) → number < count → get_or piles number d ≡ part numbers number items

-- with these items behind them they have what they had
abbrev pub AreTaken : {A : Type 0} → List ℕ → List A → List (List A) → List (List A) → Type 0
AreTaken {A} numbers items before piles =
    (number : ℕ) (d : List A) → number < length before → get_or piles number d ++ part numbers number items ≡ get_or before number d

-- a pile changes at its number alone
module _ {A : Type 0} (old new : List (List A)) (n : ℕ) (pile : List A) (is : new ≡ set old n pile) (k : ℕ) (d : List A) where
  here : n < length old → eqb n k ≡ true → get_or new k d ≡ pile
  here within same =
      ap (λ (piles : List (List A)). get_or piles k d) is
      ∙ ap (λ (m : ℕ). get_or (set old n pile) m d) (sym (eqb-true n k same))
      ∙ get_or-set_same old n pile d within

  there : eqb n k ≡ false → get_or new k d ≡ get_or old k d
  there other =
      ap (λ (piles : List (List A)). get_or piles k d) is
      ∙ get_or-set_other old n k pile d (λ same. false≢true (sym other ∙ eq-eqb n k (sym same)))

-- one number more
more-of : {A : Type 0} (numbers : List ℕ) (place n k : ℕ) (xs : List A) (x : A) → place < length numbers → n ≡ get_or numbers place n → length xs ≡ place
    → part (take (place + 1) numbers) k (xs ++ x ∷ []) ≡ part (take place numbers) k xs ++ cond (eqb n k) (x ∷ []) []
more-of numbers place n k xs x within is long =
    ap (λ (ns : List ℕ). part ns k (xs ++ x ∷ [])) (take_more numbers place n within ∙ ap (λ (m : ℕ). take place numbers ++ m ∷ []) (sym is))
    ∙ part-append (take place numbers) (n ∷ []) k xs (x ∷ []) (length-take-le place numbers (omega (arith, within)) ∙ sym long)

pub dealt-more : {A : Type 0} (count place n : ℕ) (numbers : List ℕ) (xs : List A) (x : A) (old new : List (List A)) → place < length numbers → n ≡ get_or numbers place n
    → length xs ≡ place → length old ≡ count → n < count → AreDealt count (take place numbers) xs old → ((d : List A) → new ≡ set old n (get_or old n d ++ x ∷ []))
    → AreDealt count (take (place + 1) numbers) (xs ++ x ∷ []) new
dealt-more count place n numbers xs x old new within is long many below dealt put = λ k d inside.
    let pile : List _ = get_or old n d ++ x ∷ [] in
    ⊎_elim
    (λ same.
    here old new n pile (put d) k d (omega (arith, below, many)) same
    ∙ ap (λ (m : ℕ). get_or old m d ++ x ∷ []) (eqb-true n k same)
    ∙ ap (λ ys. ys ++ x ∷ []) (dealt k d inside)
    ∙ sym (more-of numbers place n k xs x within is long ∙ ap (λ ys. part (take place numbers) k xs ++ ys) (cond-true (eqb n k) (x ∷ []) [] same)))
    (λ other.
    there old new n pile (put d) k d other
    ∙ dealt k d inside
    ∙ sym (more-of numbers place n k xs x within is long ∙ ap (λ ys. part (take place numbers) k xs ++ ys) (cond-false (eqb n k) (x ∷ []) [] other) ∙ append-nil (part (take place numbers) k xs)))
    (cases_Bool (eqb n k))

-- ---- an item is taken

module _ {A : Type 0} (numbers : List ℕ) (place n : ℕ) (before now : List (List A)) (within : place < length numbers) (is : n ≡ get_or numbers place n)
    (below : n < length now) (long : AreAsLong (take (place + 1) numbers) now) where
  longer : (k : ℕ) → length (part (take (place + 1) numbers) k (take (place + 1) numbers))
      ≡ length (part (take place numbers) k (take place numbers)) + length (cond (eqb n k) (n ∷ []) [])
  longer k =
      ap (λ ns. length (part (take (place + 1) numbers) k ns)) (take_more numbers place n within ∙ ap (λ (m : ℕ). take place numbers ++ m ∷ []) (sym is))
      ∙ ap length (more-of numbers place n k (take place numbers) n within is (length-take-le place numbers (omega (arith, within))))
      ∙ length-append (part (take place numbers) k (take place numbers)) (cond (eqb n k) (n ∷ []) [])

  -- there is one
  pub some-left : ((d : List A) → get_or now n d ≡ []) → ⊥
  some-left none =
      let one : length (cond (eqb n n) (n ∷ []) []) ≡ 1 = ap length (cond-true (eqb n n) (n ∷ []) [] (eq-eqb n n refl)) in
      let zero-long : length (get_or now n []) ≡ 0 = ap length (none []) in
      omega (arith, one, zero-long, long n [] below, longer n)

  module _ (item : A) (left : List A) (new : List (List A)) (taken : new ≡ set now n left) (last : (d : List A) → get_or now n d ≡ left ++ item ∷ []) where
    pub left-long : AreAsLong (take place numbers) new
    left-long k d inside =
        let inside_now : k < length now = omega (arith, inside, ap length taken, length-set now n left) in
        ⊎_elim
        (λ (same : eqb n k ≡ true).
        let shorter : length (get_or now k d) ≡ length left + 1 = ap (λ (m : ℕ). length (get_or now m d)) (sym (eqb-true n k same)) ∙ ap length (last d) ∙ length-append left (item ∷ []) in
        let one : length (cond (eqb n k) (n ∷ []) []) ≡ 1 = ap length (cond-true (eqb n k) (n ∷ []) [] same) in
        ap length (here now new n left taken k d below same) ∙ omega (arith, shorter, one, long k d inside_now, longer k))
        (λ (other : eqb n k ≡ false).
        let none : length (cond (eqb n k) (n ∷ []) []) ≡ 0 = ap length (cond-false (eqb n k) (n ∷ []) [] other) in
        ap length (there now new n left taken k d other) ∙ omega (arith, none, long k d inside_now, longer k))
        (cases_Bool (eqb n k))

    pub taken-more : (items : List A) → AreTaken (drop (place + 1) numbers) items before now → AreTaken (drop place numbers) (item ∷ items) before new
    taken-more items so k d inside =
        let rest : List A = part (drop (place + 1) numbers) k items in
        let split : part (drop place numbers) k (item ∷ items) ≡ cond (eqb n k) (item ∷ rest) rest =
        ap (λ ns. part ns k (item ∷ items)) (drop_more numbers place n within ∙ ap (λ (m : ℕ). m ∷ drop (place + 1) numbers) (sym is)) in
        ⊎_elim
        (λ (same : eqb n k ≡ true).
        ap (λ ys. ys ++ part (drop place numbers) k (item ∷ items)) (here now new n left taken k d below same)
        ∙ ap (λ ys. left ++ ys) (split ∙ cond-true (eqb n k) (item ∷ rest) rest same)
        ∙ sym (append_assoc left (item ∷ []) rest)
        ∙ ap (λ ys. ys ++ rest) (sym (last d) ∙ ap (λ (m : ℕ). get_or now m d) (eqb-true n k same))
        ∙ so k d inside)
        (λ (other : eqb n k ≡ false).
        ap (λ ys. ys ++ part (drop place numbers) k (item ∷ items)) (there now new n left taken k d other)
        ∙ ap (λ ys. get_or now k d ++ ys) (split ∙ cond-false (eqb n k) (item ∷ rest) rest other)
        ∙ so k d inside)
        (cases_Bool (eqb n k))

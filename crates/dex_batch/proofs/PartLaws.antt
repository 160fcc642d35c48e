-- Lists in parts.
use Rattle.std.proofs.Common.{◌≡◌, ℕ, zero, suc, ◌+◌, ◌<◌, Bool, true, false, cond, eqb, List, [], ◌∷◌, ◌++◌, drop, get_or, length, map, take, refl, sym, ap, ◌∙◌, subst, arith, All, eq-eqb, filter}
use Rattle.dex_world.proofs.Common.{AllZip, AllZip-long, cond_both, false≢true}
use Rattle.std.proofs.lemmas.List.Elements.{All-cons, All-head, All-tail, same_from_all_zip}
use Rattle.dex_parts.proofs.AlikeWorlds.{cond-of}
use Rattle.dex_batch.specs.Parts.{part}

-- a part of what is made of a list is made of its part
pub part-map : {A B : Type 0} (f : A → B) (numbers : List ℕ) (number : ℕ) (xs : List A) → part numbers number (map f xs) ≡ map f (part numbers number xs)
part-map f [] number xs = refl
part-map f (n ∷ numbers) number [] = refl
part-map f (n ∷ numbers) number (x ∷ xs) =
    ap (λ ys. cond (eqb n number) (f x ∷ ys) ys) (part-map f numbers number xs) ∙ cond-of (map f) (eqb n number) (x ∷ part numbers number xs) (part numbers number xs)

-- by numbers that a function gives it is what passes its test
pub part-filter : {A : Type 0} (f : A → ℕ) (number : ℕ) (xs : List A) → part (map f xs) number xs ≡ filter (λ x. eqb (f x) number) xs
part-filter f number [] = refl
part-filter f number (x ∷ xs) = ap (λ ys. cond (eqb (f x) number) (x ∷ ys) ys) (part-filter f number xs)

pub part-append : {A : Type 0} (numbers more : List ℕ) (number : ℕ) (xs ys : List A) → length numbers ≡ length xs
    → part (numbers ++ more) number (xs ++ ys) ≡ part numbers number xs ++ part more number ys
part-append [] more number [] ys long = refl
part-append (n ∷ numbers) more number (x ∷ xs) ys long =
    ap (λ zs. cond (eqb n number) (x ∷ zs) zs) (part-append numbers more number xs ys (omega (arith, long)))
    ∙ cond-of (λ zs. zs ++ part more number ys) (eqb n number) (x ∷ part numbers number xs) (part numbers number xs)
part-append _ more number _ ys long = absurd (omega (arith, long))

-- what holds of all holds of a part
pub part-all : {A : Type 0} (P : A → Type 0) (numbers : List ℕ) (number : ℕ) (xs : List A) → All P xs → All P (part numbers number xs)
part-all P [] number xs all = λ k d within. absurd (omega (arith, within))
part-all P (n ∷ numbers) number [] all = λ k d within. absurd (omega (arith, within))
part-all P (n ∷ numbers) number (x ∷ xs) all =
    let rest = part-all P numbers number xs (All-tail P x xs all) in
    cond_both (eqb n number) (x ∷ part numbers number xs) (part numbers number xs) (All P) (λ own. All-cons P x (part numbers number xs) (All-head P x xs all) rest) (λ away. rest)

-- and side by side
pub part-zip : {A B : Type 0} (R : A → B → Type 0) (numbers : List ℕ) (number : ℕ) (xs : List A) (ys : List B) → AllZip R xs ys
    → AllZip R (part numbers number xs) (part numbers number ys)
part-zip R [] number xs ys all = tt
part-zip R (n ∷ numbers) number [] [] all = tt
part-zip R (n ∷ numbers) number (x ∷ xs) (y ∷ ys) all = either (eqb n number) (part-zip R numbers number xs ys all.1)
  where
    either : (b : Bool) → AllZip R (part numbers number xs) (part numbers number ys) → AllZip R (cond b (x ∷ part numbers number xs) (part numbers number xs)) (cond b (y ∷ part numbers number ys) (part numbers number ys))
    either true rest = (all.0, rest)
    either false rest = rest
part-zip R (n ∷ numbers) number _ _ all = absurd all

-- ---- a whole is determined by its parts

abbrev AreBelow : ℕ → List ℕ → Type 0
AreBelow count numbers = All (λ (n : ℕ). n < count) numbers

module _ {A B : Type 0} (R : A → B → Type 0) (count : ℕ) where
  -- what holds of the parts side by side holds of the wholes
  pub parts-zip : (numbers : List ℕ) (xs : List A) (ys : List B) → AreBelow count numbers → length xs ≡ length numbers → length ys ≡ length numbers
      → ((number : ℕ) → number < count → AllZip R (part numbers number xs) (part numbers number ys)) → AllZip R xs ys
  parts-zip [] [] [] below long also each = tt
  parts-zip (n ∷ numbers) (x ∷ xs) (y ∷ ys) below long also each = (
    (own (eqb n n) (eq-eqb n n refl) (each n (All-head (λ (m : ℕ). m < count) n numbers below))).0,
    parts-zip numbers xs ys (All-tail (λ (m : ℕ). m < count) n numbers below) (omega (arith, long)) (omega (arith, also))
        (λ number within. behind number (eqb n number) (each number within)),
  )
    where
      own : (b : Bool) → b ≡ true → AllZip R (cond b (x ∷ part numbers n xs) (part numbers n xs)) (cond b (y ∷ part numbers n ys) (part numbers n ys))
          → R x y × AllZip R (part numbers n xs) (part numbers n ys)
      own true is all = all
      own false is all = absurd (false≢true is)

      behind : (number : ℕ) (b : Bool)
          → AllZip R (cond b (x ∷ part numbers number xs) (part numbers number xs)) (cond b (y ∷ part numbers number ys) (part numbers number ys))
          → AllZip R (part numbers number xs) (part numbers number ys)
      behind number true all = all.1
      behind number false all = all
  parts-zip _ _ _ below long also each = absurd (omega (arith, long, also))

same-zip : {A : Type 0} (xs ys : List A) → xs ≡ ys → AllZip (λ x y. x ≡ y) xs ys
same-zip {A} xs ys same = subst (AllZip (λ (x y : A). x ≡ y) xs) same (own xs)
  where
    own : (zs : List A) → AllZip (λ x y. x ≡ y) zs zs
    own [] = tt
    own (z ∷ zs) = (refl, own zs)

-- wholes of the same parts are one
pub parts-same : {A : Type 0} (count : ℕ) (numbers : List ℕ) (xs ys : List A) → AreBelow count numbers → length xs ≡ length numbers → length ys ≡ length numbers
    → ((number : ℕ) → number < count → part numbers number xs ≡ part numbers number ys) → xs ≡ ys
parts-same {A} count numbers xs ys below long also each =
    sym (same_from_all_zip (λ (x y : A). x ≡ y) xs ys
    (parts-zip (λ (x y : A). x ≡ y) count numbers xs ys below long also (λ number within. same-zip (part numbers number xs) (part numbers number ys) (each number within)))
    (λ x y same. sym same))

-- ---- side by side

pub zip-of : {A B : Type 0} (R : A → B → Type 0) (xs : List A) (ys : List B) → length ys ≡ length xs
    → ((k : ℕ) (d : A) (e : B) → k < length xs → R (get_or xs k d) (get_or ys k e)) → AllZip R xs ys
zip-of R [] [] long each = tt
zip-of R (x ∷ xs) (y ∷ ys) long each = (each 0 x y (omega arith), zip-of R xs ys (omega (arith, long)) (λ k d e within. each (suc k) d e (omega (arith, within))))
zip-of R _ _ long each = absurd (omega (arith, long))

-- parts by the same numbers are as long
pub part-long : {A : Type 0} (numbers : List ℕ) (number : ℕ) (xs : List A) → length xs ≡ length numbers → length (part numbers number xs) ≡ length (part numbers number numbers)
part-long {A} numbers number xs long =
    let Any : ℕ → A → Type 0 = λ n x. Unit {0} in
    AllZip-long Any (part numbers number numbers) (part numbers number xs) (part-zip Any numbers number numbers xs (zip-of Any numbers xs long (λ k d e within. tt)))

pub zip-take : {A B : Type 0} (R : A → B → Type 0) (n : ℕ) (xs : List A) (ys : List B) → AllZip R xs ys → AllZip R (take n xs) (take n ys)
zip-take R zero xs ys all = tt
zip-take R (suc n) [] [] all = tt
zip-take R (suc n) (x ∷ xs) (y ∷ ys) all = (all.0, zip-take R n xs ys all.1)
zip-take R (suc n) _ _ all = absurd all

pub zip-drop : {A B : Type 0} (R : A → B → Type 0) (n : ℕ) (xs : List A) (ys : List B) → AllZip R xs ys → AllZip R (drop n xs) (drop n ys)
zip-drop R zero xs ys all = all
zip-drop R (suc n) [] [] all = tt
zip-drop R (suc n) (x ∷ xs) (y ∷ ys) all = zip-drop R n xs ys all.1
zip-drop R (suc n) _ _ all = absurd all

-- what is told of each of some elements by its place, and of one more
pub each-more : {A : Type 0} (told : ℕ → A) (xs : List A) (x : A) → ((k : ℕ) (d : A) → k < length xs → get_or xs k d ≡ told k) → x ≡ told (length xs)
    → (k : ℕ) (d : A) → k < length xs + 1 → get_or (xs ++ x ∷ []) k d ≡ told k
each-more told [] x each is zero d within = is
each-more told [] x each is (suc k) d within = absurd (omega (arith, within))
each-more told (y ∷ xs) x each is zero d within = each 0 d (omega arith)
each-more told (y ∷ xs) x each is (suc k) d within =
    each-more (λ j. told (suc j)) xs x (λ j e inside. each (suc j) e (omega (arith, inside))) is k d (omega (arith, within))

-- Facts of lists that are made of others, element by element.
use Rattle.std.proofs.Common.{◌≡◌, ℕ, zero, suc, ◌<◌, Bool, true, false, ◌||◌, cond, List, [], ◌∷◌, ◌++◌, length, get_or, map, refl, sym, ap, ◌∙◌, subst, arith}
use Rattle.dex_world.proofs.Common.{All-cons, All-head, All-map, All-nil, All-tail, AllZip, cond-false, cond-true, filter, filter-append, flat_map, get_or-map, length-map, list_any}
use Rattle.std.specs.List.{All, Any}
use Rattle.std.proofs.lemmas.List.{append-nil}
use Rattle.dex_world.specs.Lists.{AllThree}

pub map-map : {A B C : Type 0} (f : A → B) (g : B → C) (xs : List A) → map g (map f xs) ≡ map (λ x. g (f x)) xs
map-map f g [] = refl
map-map f g (x ∷ xs) = ap (λ ys. g (f x) ∷ ys) (map-map f g xs)

-- two functions that agree at each element
pub map-agree : {A B : Type 0} (f g : A → B) (xs : List A) → All (λ x. f x ≡ g x) xs → map f xs ≡ map g xs
map-agree f g [] agree = refl
map-agree f g (x ∷ xs) agree =
    ap (λ y. y ∷ map f xs) (All-head (λ x. f x ≡ g x) x xs agree) ∙ ap (λ ys. g x ∷ ys) (map-agree f g xs (All-tail (λ x. f x ≡ g x) x xs agree))

pub flat_map-agree : {A B : Type 0} (f g : A → List B) (xs : List A) → All (λ x. f x ≡ g x) xs → flat_map f xs ≡ flat_map g xs
flat_map-agree f g [] agree = refl
flat_map-agree f g (x ∷ xs) agree =
    ap (λ ys. ys ++ flat_map f xs) (All-head (λ x. f x ≡ g x) x xs agree) ∙ ap (λ ys. g x ++ ys) (flat_map-agree f g xs (All-tail (λ x. f x ≡ g x) x xs agree))

pub list_any-map : {A B : Type 0} (p : B → Bool) (f : A → B) (xs : List A) → list_any p (map f xs) ≡ list_any (λ x. p (f x)) xs
list_any-map p f [] = refl
list_any-map p f (x ∷ xs) = ap (λ b. p (f x) || b) (list_any-map p f xs)

-- two tests that agree at each element
pub list_any-agree : {A : Type 0} (p q : A → Bool) (xs : List A) → All (λ x. p x ≡ q x) xs → list_any p xs ≡ list_any q xs
list_any-agree p q [] same = refl
list_any-agree p q (x ∷ xs) same =
    ap (λ (b : Bool). b || list_any p xs) (All-head (λ y. p y ≡ q y) x xs same) ∙ ap (λ (b : Bool). q x || b) (list_any-agree p q xs (All-tail (λ y. p y ≡ q y) x xs same))

-- what holds of what is made of the elements holds of what is made of each
pub All-unmap : {A B : Type 0} (P : B → Type 0) (f : A → B) (xs : List A) → All P (map f xs) → All (λ x. P (f x)) xs
All-unmap P f [] all = All-nil (λ x. P (f x))
All-unmap P f (x ∷ xs) all = All-cons (λ x. P (f x)) x xs (All-head P (f x) (map f xs) all) (All-unmap P f xs (All-tail P (f x) (map f xs) all))

-- two lists that are made into the same
pub All-across : {A B C : Type 0} (P : C → Type 0) (f : A → C) (g : B → C) (xs : List A) (ys : List B) → map f xs ≡ map g ys
    → All (λ y. P (g y)) ys → All (λ x. P (f x)) xs
All-across P f g xs ys same all = All-unmap P f xs (subst (λ zs. All P zs) (sym same) (All-map P g ys all))

pub AllZip-maps : {A B C : Type 0} (R : B → C → Type 0) (f : A → B) (g : A → C) (xs : List A) → All (λ x. R (f x) (g x)) xs → AllZip R (map f xs) (map g xs)
AllZip-maps R f g [] all = tt
AllZip-maps R f g (x ∷ xs) all = (All-head (λ x. R (f x) (g x)) x xs all, AllZip-maps R f g xs (All-tail (λ x. R (f x) (g x)) x xs all))

-- what is made of the second elements is what is made of the first
pub zip-map : {A B C : Type 0} (R : A → B → Type 0) (f : A → C) (g : B → C) → ((x : A) (y : B) → R x y → g y ≡ f x) → (xs : List A) (ys : List B)
    → AllZip R xs ys → map g ys ≡ map f xs
zip-map R f g same [] [] all = refl
zip-map R f g same (x ∷ xs) (y ∷ ys) all = ap (λ z. z ∷ map g ys) (same x y all.0) ∙ ap (λ zs. f x ∷ zs) (zip-map R f g same xs ys all.1)
zip-map R f g same _ _ all = absurd all

pub head-same : {A : Type 0} {x y : A} {xs ys : List A} → x ∷ xs ≡ y ∷ ys → x ≡ y
head-same same = cc

pub tail-same : {A : Type 0} {x y : A} {xs ys : List A} → x ∷ xs ≡ y ∷ ys → xs ≡ ys
tail-same same = cc

-- two things that are made of two lists alike
pub both-same : {A B C D : Type 0} (f : A → C) (g : B → C) (h : A → D) (i : B → D) (xs : List A) (ys : List B) → map f xs ≡ map g ys → map h xs ≡ map i ys
    → map {B = C × D} (λ x. (f x, h x)) xs ≡ map (λ y. (g y, i y)) ys
both-same f g h i [] [] one other = refl
both-same {A} {B} {C} {D} f g h i (x ∷ xs) (y ∷ ys) one other =
    let first : f x ≡ g y = head-same one in
    let second : h x ≡ i y = head-same other in
    ap (λ (c : C). (c, h x) ∷ map (λ z. (f z, h z)) xs) first
    ∙ ap (λ (d : D). (g y, d) ∷ map (λ z. (f z, h z)) xs) second
    ∙ ap (λ (rest : List (C × D)). (g y, i y) ∷ rest) (both-same f g h i xs ys (tail-same one) (tail-same other))
both-same f g h i _ _ one other = absurd (cc)

-- ---- one of a list

pub any-here : {A : Type 0} (P : A → Type 0) (x : A) (xs : List A) → P x → Any P (x ∷ xs)
any-here P x xs is = (0, x, omega arith, refl, is)

pub any-there : {A : Type 0} (P : A → Type 0) (x : A) (xs : List A) → Any P xs → Any P (x ∷ xs)
any-there P x xs any = (suc any.0, any.1, omega (arith, any.2), any.3, any.4)

pub Any-map : {A B : Type 0} (P : A → Type 0) (Q : B → Type 0) (f : A → B) → ((x : A) → P x → Q (f x)) → (xs : List A) → Any P xs → Any Q (map f xs)
Any-map P Q f each xs any =
    (any.0, f any.1, subst (λ n. any.0 < n) (sym (length-map xs f)) any.2, get_or-map f xs any.0 any.1 (f any.1) any.2 ∙ ap f any.3, each any.1 any.4)

-- one of two lists that are made into the same
pub Any-across : {A B C : Type 0} (P : C → Type 0) (f : A → C) (g : B → C) (xs : List A) (ys : List B) → map f xs ≡ map g ys
    → Any (λ x. P (f x)) xs → Any (λ y. P (g y)) ys
Any-across P f g [] ys same any = absurd (omega (arith, any.2))
Any-across P f g (x ∷ xs) [] same any = absurd (cc)
Any-across {A} P f g (x ∷ xs) (y ∷ ys) same any = at (Any-across P f g xs ys (tail-same same)) any.0 any.1 any.2 any.3 any.4
  where
    at : (Any (λ one. P (f one)) xs → Any (λ one. P (g one)) ys) → (k : ℕ) (z : A) → k < length (x ∷ xs) → get_or (x ∷ xs) k z ≡ z → P (f z) → Any (λ one. P (g one)) (y ∷ ys)
    at rest zero z within is holds = any-here (λ one. P (g one)) y ys (subst P (ap f (sym is) ∙ head-same same) holds)
    at rest (suc k) z within is holds = any-there (λ one. P (g one)) y ys (rest (k, z, omega (arith, within), is, holds))

-- ---- what a filter keeps of one element more

pub filter-push_yes : {A : Type 0} (p : A → Bool) (xs : List A) (x : A) → p x ≡ true → filter p (xs ++ x ∷ []) ≡ filter p xs ++ x ∷ []
filter-push_yes p xs x passes = filter-append p xs (x ∷ []) ∙ ap (λ ys. filter p xs ++ ys) (cond-true (p x) (x ∷ []) [] passes)

pub filter-push_no : {A : Type 0} (p : A → Bool) (xs : List A) (x : A) → p x ≡ false → filter p (xs ++ x ∷ []) ≡ filter p xs
filter-push_no p xs x fails = filter-append p xs (x ∷ []) ∙ ap (λ ys. filter p xs ++ ys) (cond-false (p x) (x ∷ []) [] fails) ∙ append-nil (filter p xs)

-- two tests, one after the other
pub filter-swap : {A : Type 0} (p q : A → Bool) (xs : List A) → filter p (filter q xs) ≡ filter q (filter p xs)
filter-swap p q [] = refl
filter-swap {A} p q (x ∷ xs) = either (p x) (q x) refl refl (filter-swap p q xs)
  where
    either : (b c : Bool) → p x ≡ b → q x ≡ c → filter p (filter q xs) ≡ filter q (filter p xs)
        → filter p (cond c (x ∷ filter q xs) (filter q xs)) ≡ filter q (cond b (x ∷ filter p xs) (filter p xs))
    either true true is_p is_q rest =
        cond-true (p x) (x ∷ filter p (filter q xs)) (filter p (filter q xs)) is_p ∙ ap (λ ys. x ∷ ys) rest ∙ sym (cond-true (q x) (x ∷ filter q (filter p xs)) (filter q (filter p xs)) is_q)
    either true false is_p is_q rest = rest ∙ sym (cond-false (q x) (x ∷ filter q (filter p xs)) (filter q (filter p xs)) is_q)
    either false true is_p is_q rest = cond-false (p x) (x ∷ filter p (filter q xs)) (filter p (filter q xs)) is_p ∙ rest
    either false false is_p is_q rest = rest

-- lists that are made into the same have the same where a test of what is made passes
pub filter-of : {A B : Type 0} (f : A → B) (test : B → Bool) (xs : List A) → map f (filter (λ x. test (f x)) xs) ≡ filter test (map f xs)
filter-of f test [] = refl
filter-of f test (x ∷ xs) = either (test (f x)) (filter-of f test xs)
  where
    either : (b : Bool) → map f (filter (λ y. test (f y)) xs) ≡ filter test (map f xs)
        → map f (cond b (x ∷ filter (λ y. test (f y)) xs) (filter (λ y. test (f y)) xs)) ≡ cond b (f x ∷ filter test (map f xs)) (filter test (map f xs))
    either true rest = ap (λ ys. f x ∷ ys) rest
    either false rest = rest

pub filter-across : {A B C : Type 0} (f : A → C) (g : B → C) (test : C → Bool) (xs : List A) (ys : List B) → map f xs ≡ map g ys
    → map f (filter (λ x. test (f x)) xs) ≡ map g (filter (λ y. test (g y)) ys)
filter-across f g test xs ys same = filter-of f test xs ∙ ap (λ zs. filter test zs) same ∙ sym (filter-of g test ys)

-- as many pass among what is made of elements as elements of which what is made passes
pub length-filter_map : {A B : Type 0} (q : B → Bool) (f : A → B) (xs : List A) → length (filter q (map f xs)) ≡ length (filter (λ (x : A). q (f x)) xs)
length-filter_map {A} q f xs = ap length (sym (filter-of f q xs)) ∙ length-map (filter (λ (x : A). q (f x)) xs) f

-- ---- two lists, place by place

module _ {A B : Type 0} (R : A → B → Type 0) where
  -- what holds at each place holds at one
  pub zip-at : (xs : List A) (ys : List B) (place : ℕ) (d : A) (e : B) → AllZip R xs ys → place < length xs → R (get_or xs place d) (get_or ys place e)
  zip-at (x ∷ xs) (y ∷ ys) zero d e all within = all.0
  zip-at (x ∷ xs) (y ∷ ys) (suc place) d e all within = zip-at xs ys place d e all.1 (omega (arith, within))
  zip-at [] ys place d e all within = absurd (omega (arith, within))
  zip-at (x ∷ xs) [] place d e all within = absurd all

  pub zip-weaker : (S : A → B → Type 0) → ((x : A) (y : B) → R x y → S x y) → (xs : List A) (ys : List B) → AllZip R xs ys → AllZip S xs ys
  zip-weaker S each [] [] all = tt
  zip-weaker S each (x ∷ xs) (y ∷ ys) all = (each x y all.0, zip-weaker S each xs ys all.1)
  zip-weaker S each _ _ all = absurd all

  -- what R gives of the first holds of all the first ones
  pub All-first : (P : A → Type 0) → ((x : A) (y : B) → R x y → P x) → (xs : List A) (ys : List B) → AllZip R xs ys → All P xs
  All-first P each [] [] all = All-nil P
  All-first P each (x ∷ xs) (y ∷ ys) all = All-cons P x xs (each x y all.0) (All-first P each xs ys all.1)
  All-first P each _ _ all = absurd all

module _ {A B C : Type 0} (R : A → B → C → Type 0) where
  pub three-weaker : (S : A → B → C → Type 0) → ((x : A) (y : B) (z : C) → R x y z → S x y z)
      → (xs : List A) (ys : List B) (zs : List C) → AllThree R xs ys zs → AllThree S xs ys zs
  three-weaker S each [] [] [] all = tt
  three-weaker S each (x ∷ xs) (y ∷ ys) (z ∷ zs) all = (each x y z all.0, three-weaker S each xs ys zs all.1)
  three-weaker S each _ _ _ all = absurd all

  pub three-long : (xs : List A) (ys : List B) (zs : List C) → AllThree R xs ys zs → (length ys ≡ length xs) × (length zs ≡ length xs)
  three-long [] [] [] all = (refl, refl)
  three-long (x ∷ xs) (y ∷ ys) (z ∷ zs) all = let rest = three-long xs ys zs all.1 in (ap suc rest.0, ap suc rest.1)
  three-long _ _ _ all = absurd all

  pub three-at : (xs : List A) (ys : List B) (zs : List C) (place : ℕ) (d : A) (e : B) (f : C) → AllThree R xs ys zs → place < length xs
      → R (get_or xs place d) (get_or ys place e) (get_or zs place f)
  three-at (x ∷ xs) (y ∷ ys) (z ∷ zs) zero d e f all within = all.0
  three-at (x ∷ xs) (y ∷ ys) (z ∷ zs) (suc place) d e f all within = three-at xs ys zs place d e f all.1 (omega (arith, within))
  three-at [] ys zs place d e f all within = absurd (omega (arith, within))
  three-at (x ∷ xs) _ _ place d e f all within = absurd all

-- what R gives of the second holds of all the second ones
pub All-second : {A B : Type 0} (R : A → B → Type 0) (P : B → Type 0) → ((x : A) (y : B) → R x y → P y) → (xs : List A) (ys : List B) → AllZip R xs ys → All P ys
All-second R P each [] [] all = All-nil P
All-second R P each (x ∷ xs) (y ∷ ys) all = All-cons P y ys (each x y all.0) (All-second R P each xs ys all.1)
All-second R P each _ _ all = absurd all

-- what stands at a place that is within
pub item_at : {A : Type 0} (items : List A) (place : ℕ) → place < length items → A
item_at [] place within = absurd (omega (arith, within))
item_at (item ∷ items) zero within = item
item_at (item ∷ items) (suc place) within = item_at items place (omega (arith, within))

pub item-at : {A : Type 0} (items : List A) (place : ℕ) (within : place < length items)
    → item_at items place within ≡ get_or items place (item_at items place within)
unfolding item_at
item-at [] place within = absurd (omega (arith, within))
item-at (item ∷ items) zero within = refl
item-at (item ∷ items) (suc place) within = item-at items place (omega (arith, within))

-- whatever stands for what is not there
pub same-get : {A : Type 0} (xs : List A) (place : ℕ) (d e : A) → place < length xs → get_or xs place d ≡ get_or xs place e
same-get [] place d e within = absurd (omega (arith, within))
same-get (x ∷ xs) zero d e within = refl
same-get (x ∷ xs) (suc place) d e within = same-get xs place d e (omega (arith, within))

-- what holds of all holds of those in front
pub All-front : {A : Type 0} (P : A → Type 0) (xs ys : List A) → All P (xs ++ ys) → All P xs
All-front P [] ys all = All-nil P
All-front P (x ∷ xs) ys all = All-cons P x xs (All-head P x (xs ++ ys) all) (All-front P xs ys (All-tail P x (xs ++ ys) all))

-- and of those behind
pub All-behind : {A : Type 0} (P : A → Type 0) (xs ys : List A) → All P (xs ++ ys) → All P ys
All-behind P [] ys all = all
All-behind P (x ∷ xs) ys all = All-behind P xs ys (All-tail P x (xs ++ ys) all)

module _ {A B : Type 0} (R : A → B → Type 0) where
  pub none-left : (x : A) (xs : List A) → AllZip R (xs ++ x ∷ []) [] → ⊥
  none-left x [] all = all
  none-left x (y ∷ xs) all = all

  none-right : (y : B) (ys : List B) → AllZip R [] (ys ++ y ∷ []) → ⊥
  none-right y [] all = all
  none-right y (z ∷ ys) all = all

  -- the last of each, and those before
  pub AllZip-last : (xs : List A) (ys : List B) (x : A) (y : B) → AllZip R (xs ++ x ∷ []) (ys ++ y ∷ []) → AllZip R xs ys × R x y
  AllZip-last [] [] x y all = (tt, all.0)
  AllZip-last [] (z ∷ ys) x y all = absurd (none-right y ys all.1)
  AllZip-last (z ∷ xs) [] x y all = absurd (none-left x xs all.1)
  AllZip-last (z ∷ xs) (w ∷ ys) x y all = let rest = AllZip-last xs ys x y all.1 in ((all.0, rest.0), rest.1)

-- lists in groups
use Rattle.std.proofs.Common.{◌≡◌, ℕ, ◌+◌, ◌<◌, ◌≤◌, Bool, true, false, cond, eqb, List, [], ◌∷◌, ◌++◌, length, map, refl, sym, ap, ◌∙◌, subst, arith}
use Rattle.std.specs.List.{All, flat_map}
use Rattle.std.proofs.lemmas.Bool.{cond-false, cond-true, cond_both, eq-eqb}
use Rattle.std.proofs.lemmas.List.Elements.{All-nil, All-cons, All-head, All-tail, All-weaker}
use Rattle.dex_world.specs.Groups.{Group, alone, grouped, joined, map_group, members}

-- ---- one after the other, the groups are the list

module _ {A : Type 0} (key : A → ℕ) where
  joined-flat : (x : A) (groups : List (Group A)) → flat_map members (joined key x groups) ≡ x ∷ flat_map members groups
  joined-flat x [] = refl
  joined-flat x (group ∷ groups) =
      cond_both (eqb (key x) (key group.first)) (record { first = x; others = members group } ∷ groups) (alone x ∷ group ∷ groups)
      (λ (some : List (Group A)). flat_map members some ≡ x ∷ flat_map members (group ∷ groups)) (λ same. refl) (λ apart. refl)

  pub grouped-flat : (xs : List A) → flat_map members (grouped key xs) ≡ xs
  grouped-flat [] = refl
  grouped-flat (x ∷ xs) = joined-flat x (grouped key xs) ∙ ap (λ (some : List A). x ∷ some) (grouped-flat xs)

  -- there are no more groups than elements
  joined-few : (x : A) (groups : List (Group A)) → length (joined key x groups) ≤ length groups + 1
  joined-few x [] = omega arith
  joined-few x (group ∷ groups) =
      cond_both (eqb (key x) (key group.first)) (record { first = x; others = members group } ∷ groups) (alone x ∷ group ∷ groups)
      (λ (some : List (Group A)). length some ≤ length (group ∷ groups) + 1) (λ same. omega arith) (λ apart. omega arith)

  pub grouped-few : (xs : List A) → length (grouped key xs) ≤ length xs
  grouped-few [] = omega arith
  grouped-few (x ∷ xs) = omega (arith, joined-few x (grouped key xs), grouped-few xs)

  -- what holds of all holds of the first of each group
  joined-firsts : (P : A → Type 0) (x : A) (groups : List (Group A)) → P x → All (λ (group : Group A). P group.first) groups
      → All (λ (group : Group A). P group.first) (joined key x groups)
  joined-firsts P x [] here all = All-cons (λ (group : Group A). P group.first) (alone x) [] here all
  joined-firsts P x (group ∷ groups) here all =
      let First : Group A → Type 0 = λ (one : Group A). P one.first in
      cond_both (eqb (key x) (key group.first)) (record { first = x; others = members group } ∷ groups) (alone x ∷ group ∷ groups) (All First)
      (λ same. All-cons First (record { first = x; others = members group }) groups here (All-tail First group groups all))
      (λ apart. All-cons First (alone x) (group ∷ groups) here all)

  pub grouped-firsts : (P : A → Type 0) (xs : List A) → All P xs → All (λ (group : Group A). P group.first) (grouped key xs)
  grouped-firsts P [] all = All-nil (λ (group : Group A). P group.first)
  grouped-firsts P (x ∷ xs) all = joined-firsts P x (grouped key xs) (All-head P x xs all) (grouped-firsts P xs (All-tail P x xs all))

-- ---- what is made of the elements

pub grouped-map : {A B : Type 0} (key : B → ℕ) (f : A → B) (xs : List A) → grouped key (map f xs) ≡ map (map_group f) (grouped (λ x. key (f x)) xs)
grouped-map key f [] = refl
grouped-map {A} {B} key f (x ∷ xs) = ap (joined key (f x)) (grouped-map key f xs) ∙ one (grouped (λ y. key (f y)) xs)
  where
    one : (groups : List (Group A)) → joined key (f x) (map (map_group f) groups) ≡ map (map_group f) (joined (λ y. key (f y)) x groups)
    one [] = refl
    one (group ∷ groups) = either (eqb (key (f x)) (key (f group.first)))
      where
        either : (b : Bool)
            → cond b (record { first = f x; others = members (map_group f group) } ∷ map (map_group f) groups) (alone (f x) ∷ map_group f group ∷ map (map_group f) groups)
            ≡ map (map_group f) (cond b (record { first = x; others = members group } ∷ groups) (alone x ∷ group ∷ groups))
        either true = refl
        either false = refl

-- two numberings that agree make the same groups
pub grouped-agree : {A : Type 0} (key other : A → ℕ) → ((x : A) → key x ≡ other x) → (xs : List A) → grouped key xs ≡ grouped other xs
grouped-agree key other same [] = refl
grouped-agree {A} key other same (x ∷ xs) = ap (joined key x) (grouped-agree key other same xs) ∙ one (grouped other xs)
  where
    one : (groups : List (Group A)) → joined key x groups ≡ joined other x groups
    one [] = refl
    one (group ∷ groups) =
        ap (λ (n : ℕ). cond (eqb n (key group.first)) (record { first = x; others = members group } ∷ groups) (alone x ∷ group ∷ groups)) (same x)
        ∙ ap (λ (n : ℕ). cond (eqb (other x) n) (record { first = x; others = members group } ∷ groups) (alone x ∷ group ∷ groups)) (same group.first)

-- ---- stamps that rise from group to group

-- R holds of each two elements
abbrev pub EachTwo : {A : Type 0} → (A → A → Type 0) → List A → Type 0
EachTwo R [] = Unit {0}
EachTwo R (x ∷ xs) = All (R x) xs × EachTwo R xs

-- the numbers rise
abbrev pub Rise : {A : Type 0} → (A → ℕ) → List A → Type 0
Rise key [] = Unit {0}
Rise key (x ∷ xs) = All (λ y. key x < key y) xs × Rise key xs

-- of two elements those of one number have one stamp, and else the later one has the higher stamp
pub record Goes {A : Type 0} (key stamp : A → ℕ) (one other : A) : Type 0 where
  pub together : eqb (key one) (key other) ≡ true → stamp one ≡ stamp other
  pub later : eqb (key one) (key other) ≡ false → stamp one < stamp other

module _ {A : Type 0} (key stamp : A → ℕ) where
  -- the elements of a group have one stamp
  abbrev pub IsOneStamp : Group A → Type 0
  IsOneStamp group = All (λ (y : A). stamp y ≡ stamp group.first) (members group)

  abbrev pub FirstStamp : Group A → ℕ
  FirstStamp group = stamp group.first

  First : A → Group A → Type 0
  First x group = Goes key stamp x group.first

  joined-stamps : (x : A) (groups : List (Group A)) → All (λ (group : Group A). Goes key stamp x group.first) groups → All IsOneStamp groups
      → All IsOneStamp (joined key x groups)
  joined-stamps x [] goes all = All-cons IsOneStamp (alone x) [] (All-cons (λ (y : A). stamp y ≡ stamp x) x [] refl (All-nil (λ (y : A). stamp y ≡ stamp x))) all
  joined-stamps x (group ∷ groups) goes all =
      let head : Goes key stamp x group.first = All-head (λ (one : Group A). Goes key stamp x one.first) group groups goes in
      cond_both (eqb (key x) (key group.first)) (record { first = x; others = members group } ∷ groups) (alone x ∷ group ∷ groups) (All IsOneStamp)
      (λ same.
      let one : stamp x ≡ stamp group.first = head.together same in
      All-cons IsOneStamp (record { first = x; others = members group }) groups
      (All-cons (λ (y : A). stamp y ≡ stamp x) x (members group) refl
      (All-weaker (λ (y : A). stamp y ≡ stamp group.first) (λ (y : A). stamp y ≡ stamp x) (λ y is. is ∙ sym one) (members group) (All-head IsOneStamp group groups all)))
      (All-tail IsOneStamp group groups all))
      (λ apart.
      All-cons IsOneStamp (alone x) (group ∷ groups) (All-cons (λ (y : A). stamp y ≡ stamp x) x [] refl (All-nil (λ (y : A). stamp y ≡ stamp x))) all)

  pub grouped-stamps : (xs : List A) → EachTwo (Goes key stamp) xs → All IsOneStamp (grouped key xs)
  grouped-stamps [] each = All-nil IsOneStamp
  grouped-stamps (x ∷ xs) each = joined-stamps x (grouped key xs) (grouped-firsts key (Goes key stamp x) xs each.0) (grouped-stamps xs each.1)

  -- and these rise
  joined-rise : (x : A) (groups : List (Group A)) → All (λ (group : Group A). Goes key stamp x group.first) groups → Rise FirstStamp groups
      → Rise FirstStamp (joined key x groups)
  joined-rise x [] goes rise = (All-nil (λ (group : Group A). stamp x < stamp group.first), tt)
  joined-rise x (group ∷ groups) goes rise =
      let head : Goes key stamp x group.first = All-head (λ (one : Group A). Goes key stamp x one.first) group groups goes in
      cond_both (eqb (key x) (key group.first)) (record { first = x; others = members group } ∷ groups) (alone x ∷ group ∷ groups) (Rise FirstStamp)
      (λ same.
      let one : stamp x ≡ stamp group.first = head.together same in (
        All-weaker (λ (g : Group A). stamp group.first < stamp g.first) (λ (g : Group A). stamp x < stamp g.first) (λ g less. omega (arith, one, less)) groups rise.0,
        rise.1,
      ))
      (λ apart.
      let less : stamp x < stamp group.first = head.later apart in (
        All-cons (λ (g : Group A). stamp x < stamp g.first) group groups less
            (All-weaker (λ (g : Group A). stamp group.first < stamp g.first) (λ (g : Group A). stamp x < stamp g.first) (λ g more. omega (arith, less, more)) groups rise.0),
        rise,
      ))

  pub grouped-rise : (xs : List A) → EachTwo (Goes key stamp) xs → Rise FirstStamp (grouped key xs)
  grouped-rise [] each = tt
  grouped-rise (x ∷ xs) each = joined-rise x (grouped key xs) (grouped-firsts key (Goes key stamp x) xs each.0) (grouped-rise xs each.1)

-- ---- one list behind the other

module _ {A : Type 0} (key : A → ℕ) where
  -- all of one number are one group
  pub grouped-one : (x : A) (xs : List A) → All (λ (y : A). key y ≡ key x) xs → grouped key (x ∷ xs) ≡ record { first = x; others = xs } ∷ []
  grouped-one x [] all = refl
  grouped-one x (y ∷ ys) all =
      let here : key y ≡ key x = All-head (λ (z : A). key z ≡ key x) y ys all in
      let rest : All (λ (z : A). key z ≡ key y) ys =
      All-weaker (λ (z : A). key z ≡ key x) (λ (z : A). key z ≡ key y) (λ z is. is ∙ sym here) ys (All-tail (λ (z : A). key z ≡ key x) y ys all) in
      ap (joined key x) (grouped-one y ys rest)
      ∙ cond-true (eqb (key x) (key y)) (record { first = x; others = y ∷ ys } ∷ []) (alone x ∷ record { first = y; others = ys } ∷ []) (eq-eqb (key x) (key y) (sym here))

  -- after some groups, groups of other numbers
  joined-behind : (x : A) (groups more : List (Group A)) → All (λ (group : Group A). eqb (key x) (key group.first) ≡ false) more
      → joined key x (groups ++ more) ≡ joined key x groups ++ more
  joined-behind x [] [] apart = refl
  joined-behind x [] (group ∷ more) apart = cond-false _ _ _ (All-head (λ (one : Group A). eqb (key x) (key one.first) ≡ false) group more apart)
  joined-behind x (group ∷ groups) more apart =
      cond_both (eqb (key x) (key group.first)) (record { first = x; others = members group } ∷ groups ++ more) (alone x ∷ group ∷ groups ++ more)
      (λ (all : List (Group A)). all ≡ joined key x (group ∷ groups) ++ more)
      (λ same. ap (λ (all : List (Group A)). all ++ more) (sym (cond-true _ _ _ same)))
      (λ apart_here. ap (λ (all : List (Group A)). all ++ more) (sym (cond-false _ _ _ apart_here)))

  -- lists of other numbers are grouped each by itself
  pub grouped-behind : (xs ys : List A) → All (λ (x : A). All (λ (y : A). eqb (key x) (key y) ≡ false) ys) xs → grouped key (xs ++ ys) ≡ grouped key xs ++ grouped key ys
  grouped-behind [] ys apart = refl
  grouped-behind (x ∷ xs) ys apart =
      let Apart : A → Type 0 = λ (one : A). All (λ (y : A). eqb (key one) (key y) ≡ false) ys in
      ap (joined key x) (grouped-behind xs ys (All-tail Apart x xs apart))
      ∙ joined-behind x (grouped key xs) (grouped key ys)
      (grouped-firsts key (λ (y : A). eqb (key x) (key y) ≡ false) ys (All-head Apart x xs apart))

  -- an element of a number of its own stands alone
  pub grouped-apart : (x : A) (xs : List A) → All (λ (y : A). eqb (key x) (key y) ≡ false) xs → grouped key (x ∷ xs) ≡ alone x ∷ grouped key xs
  grouped-apart x xs apart = grouped-behind (x ∷ []) xs (All-cons (λ (one : A). All (λ (y : A). eqb (key one) (key y) ≡ false) xs) x [] apart (All-nil _))

  -- and two of one number are a group
  pub grouped-pair : (x y : A) (xs : List A) → key y ≡ key x → All (λ (z : A). eqb (key x) (key z) ≡ false) xs
      → grouped key (x ∷ y ∷ xs) ≡ record { first = x; others = y ∷ [] } ∷ grouped key xs
  grouped-pair x y xs same apart =
      let Apart : A → Type 0 = λ (one : A). All (λ (z : A). eqb (key one) (key z) ≡ false) xs in
      grouped-behind (x ∷ y ∷ []) xs
      (All-cons Apart x (y ∷ []) apart (All-cons Apart y [] (subst (λ (n : ℕ). All (λ (z : A). eqb n (key z) ≡ false) xs) (sym same) apart) (All-nil Apart)))
      ∙ ap (λ (groups : List (Group A)). groups ++ grouped key xs) (grouped-one x (y ∷ []) (All-cons (λ (z : A). key z ≡ key x) y [] same (All-nil _)))

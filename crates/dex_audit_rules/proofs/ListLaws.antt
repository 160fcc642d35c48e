-- lists of findings in which there are none
use Rattle.std.proofs.Common.{◌≡◌, ℕ, zero, suc, ◌+◌, ◌<◌, Bool, true, false, List, [], ◌∷◌, ◌++◌, length, get_or, take, refl, sym, ap, ◌∙◌, subst, arith}
use Rattle.std.specs.List.{All, flat_map}
use Rattle.std.proofs.lemmas.List.Elements.{All-nil, All-cons}
use Rattle.std.proofs.lemmas.List.{append_assoc, append-nil, flat_map_more, length-append, length-take, take_more}
use Rattle.dex_audit_rules.specs.declared.finding.Finding.{Finding}
use Rattle.dex_audit_rules.specs.Lists.{numbered, unless}

pub append-none : {X : Type 0} (xs ys : List X) → xs ++ ys ≡ [] → (xs ≡ []) × (ys ≡ [])
append-none [] ys none = (refl, none)
append-none (x ∷ xs) ys none = absurd (cc)

pub unless-none : (holds : Bool) (finding : Finding) → unless holds finding ≡ [] → holds ≡ true
unless-none true finding none = refl
unless-none false finding none = absurd (cc)

pub flat_map-none : {X Y : Type 0} (f : X → List Y) (xs : List X) → flat_map f xs ≡ [] → All (λ x. f x ≡ []) xs
flat_map-none f [] none = All-nil (λ x. f x ≡ [])
flat_map-none f (x ∷ xs) none =
    let parts = append-none (f x) (flat_map f xs) none in
    All-cons (λ x. f x ≡ []) x xs parts.0 (flat_map-none f xs parts.1)

-- each item with its number gives nothing
pub numbered-none : {X Y : Type 0} (f : ℕ → X → List Y) (first : ℕ) (xs : List X) (i j : ℕ) (d : X) → numbered f first xs ≡ [] → i < length xs → j ≡ first + i
    → f j (get_or xs i d) ≡ []
numbered-none f first [] i j d none lt at = absurd (omega arith)
numbered-none f first (x ∷ xs) zero j d none lt at =
    let here : j ≡ first = omega arith in
    subst (λ (n : ℕ). f n x ≡ []) (sym here) (append-none (f first x) (numbered f (first + 1) xs) none).0
numbered-none f first (x ∷ xs) (suc i) j d none lt at =
    numbered-none f (first + 1) xs i j d (append-none (f first x) (numbered f (first + 1) xs) none).1 (omega arith) (omega arith)

-- where giving nothing says something whatever the number, it holds of each
pub numbered-each : {X Y : Type 0} (f : ℕ → X → List Y) (P : X → Type 0) → ((n : ℕ) (x : X) → f n x ≡ [] → P x) → (first : ℕ) (xs : List X) → numbered f first xs ≡ [] → All P xs
numbered-each f P says first [] none = All-nil P
numbered-each f P says first (x ∷ xs) none =
    let parts = append-none (f first x) (numbered f (first + 1) xs) none in
    All-cons P x xs (says first x parts.0) (numbered-each f P says (first + 1) xs parts.1)

-- ---- an item at some place of a list

pub record Among {X : Type 0} (x : X) (xs : List X) : Type 0 where
  pub place : ℕ
  pub within : place < length xs
  pub here : (d : X) → get_or xs place d ≡ x

pub Among-head : {X : Type 0} (x : X) (xs : List X) → Among x (x ∷ xs)
Among-head x xs = record { place = 0; within = omega arith; here = λ d. refl }

pub Among-tail : {X : Type 0} (x y : X) (xs : List X) → Among x xs → Among x (y ∷ xs)
Among-tail x y xs among = record { place = suc among.place; within = omega (arith, among.within); here = among.here }

Among-left-at : {X : Type 0} (x : X) (xs ys : List X) (place : ℕ) → place < length xs → ((d : X) → get_or xs place d ≡ x) → Among x (xs ++ ys)
Among-left-at x [] ys place lt here = absurd (omega arith)
Among-left-at x (y ∷ xs) ys zero lt here = record { place = 0; within = omega (arith, length-append xs ys); here = here }
Among-left-at x (y ∷ xs) ys (suc place) lt here = Among-tail x y (xs ++ ys) (Among-left-at x xs ys place (omega arith) here)

pub Among-left : {X : Type 0} (x : X) (xs ys : List X) → Among x xs → Among x (xs ++ ys)
Among-left x xs ys among = Among-left-at x xs ys among.place among.within among.here

pub Among-right : {X : Type 0} (x : X) (xs ys : List X) → Among x ys → Among x (xs ++ ys)
Among-right x [] ys among = among
Among-right x (y ∷ xs) ys among = Among-tail x y (xs ++ ys) (Among-right x xs ys among)

-- ---- findings so far, and one item more

numbered-snoc : {X Y : Type 0} (f : ℕ → X → List Y) (first at : ℕ) (xs : List X) (x : X) → at ≡ first + length xs → numbered f first (xs ++ x ∷ []) ≡ numbered f first xs ++ f at x
numbered-snoc f first at [] x is =
    let same : at ≡ first = omega arith in
    append-nil (f first x) ∙ ap (λ (n : ℕ). f n x) (sym same)
numbered-snoc f first at (y ∷ xs) x is =
    ap (λ (l : List _). f first y ++ l) (numbered-snoc f (first + 1) at xs x (omega arith)) ∙ sym (append_assoc (f first y) (numbered f (first + 1) xs) (f at x))

numbered-more : {X Y : Type 0} (f : ℕ → X → List Y) (xs : List X) (i : ℕ) (d : X) → i < length xs
    → numbered f 0 (take (i + 1) xs) ≡ numbered f 0 (take i xs) ++ f i (get_or xs i d)
numbered-more f xs i d lt =
    ap (numbered f 0) (take_more xs i d lt) ∙ numbered-snoc f 0 i (take i xs) (get_or xs i d) (omega (arith, length-take i xs))

pub told-more : {X Y : Type 0} (f : ℕ → X → List Y) (xs : List X) (i : ℕ) (d : X) (before now after : List Y) → i < length xs
    → now ≡ before ++ numbered f 0 (take i xs) → after ≡ now ++ f i (get_or xs i d) → after ≡ before ++ numbered f 0 (take (i + 1) xs)
told-more f xs i d before now after lt told one =
    one ∙ ap (λ (l : List _). l ++ f i (get_or xs i d)) told
    ∙ append_assoc before (numbered f 0 (take i xs)) (f i (get_or xs i d))
    ∙ ap (λ (l : List _). before ++ l) (sym (numbered-more f xs i d lt))

pub joined-more : {X Y : Type 0} (f : X → List Y) (xs : List X) (i : ℕ) (d : X) (before now after : List Y) → i < length xs
    → now ≡ before ++ flat_map f (take i xs) → after ≡ now ++ f (get_or xs i d) → after ≡ before ++ flat_map f (take (i + 1) xs)
joined-more f xs i d before now after lt told one =
    one ∙ ap (λ (l : List _). l ++ f (get_or xs i d)) told
    ∙ flat_map_more f before (take i xs) (get_or xs i d)
    ∙ ap (λ (l : List _). before ++ flat_map f l) (sym (take_more xs i d lt))

-- two told after one another
pub both : {X : Type 0} (before first second now after : List X) → now ≡ before ++ first → after ≡ now ++ second → after ≡ before ++ (first ++ second)
both before first second now after one two = two ∙ ap (λ (l : List _). l ++ second) one ∙ append_assoc before first second

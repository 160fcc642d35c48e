-- Texts that are read back whatever follows them, one after another.
use Rattle.std.proofs.Common.{◌≡◌, ◌∙◌, ℕ, ◌++◌, ◌∷◌, ◌==◌, [], List, Bool, true, false, All, length, refl, sym, ap, append_assoc, arith}
use Rattle.std.specs.List.{flat_map}
use Rattle.dex_dump.proofs.EachRow.{first_of, others_of}

-- what such a text was written from, and what follows it, are told by the whole
abbrev pub IsReadBack : (A : Type 0) → (A → Type 0) → (A → List ℕ) → Type 0
IsReadBack A P text = (a b : A) (x y : List ℕ) → P a → P b → text a ++ x ≡ text b ++ y → (a ≡ b) × (x ≡ y)

same-cons : (A : Type 0) (a b : A) (s t : List A) → a ≡ b → s ≡ t → a ∷ s ≡ b ∷ t
same-cons A a b s t p q = cc

-- one text in front of others
behind : (A : Type 0) (text : A → List ℕ) (a b : A) (s t : List A) (x y : List ℕ) → flat_map text (a ∷ s) ++ x ≡ flat_map text (b ∷ t) ++ y
    → text a ++ (flat_map text s ++ x) ≡ text b ++ (flat_map text t ++ y)
behind A text a b s t x y e = sym (append_assoc (text a) (flat_map text s) x) ∙ e ∙ append_assoc (text b) (flat_map text t) y

-- this many of them
pub so-many : (A : Type 0) (P : A → Type 0) (text : A → List ℕ) → IsReadBack A P text → (s t : List A) (x y : List ℕ) → All P s → All P t
    → length s ≡ length t → flat_map text s ++ x ≡ flat_map text t ++ y → (s ≡ t) × (x ≡ y)
so-many A P text each [] [] x y ps pt same e = (refl, e)
so-many A P text each [] (b ∷ t) x y ps pt same e = absurd (omega arith)
so-many A P text each (a ∷ s) [] x y ps pt same e = absurd (omega arith)
so-many A P text each (a ∷ s) (b ∷ t) x y ps pt same e =
    let first = each a b _ _ (first_of P a s ps) (first_of P b t pt) (behind A text a b s t x y e) in
    let fewer : length s ≡ length t = omega arith in
    let others = so-many A P text each s t x y (others_of P a s ps) (others_of P b t pt) fewer first.1 in
    (same-cons A a b s t first.0 others.0, others.1)

-- the first character of a text
abbrev pub begins : ℕ → List ℕ → Bool
begins c [] = false
begins c (d ∷ rest) = d == c

not-both : (b : Bool) → b ≡ true → b ≡ false → ⊥
not-both b p q = cc

-- what ends a list of texts that begin with this character begins with another
no-more : (A : Type 0) (text : A → List ℕ) (c : ℕ) → ((a : A) (x : List ℕ) → begins c (text a ++ x) ≡ true) → (a : A) (s : List A) (x y : List ℕ)
    → begins c y ≡ false → y ≡ flat_map text (a ∷ s) ++ x → ⊥
no-more A text c first a s x y other e =
    not-both (begins c y) (ap (begins c) (e ∙ append_assoc (text a) (flat_map text s) x) ∙ first a (flat_map text s ++ x)) other

-- all that begin with this character
pub all-that : (A : Type 0) (P : A → Type 0) (text : A → List ℕ) (c : ℕ) → IsReadBack A P text → ((a : A) (x : List ℕ) → begins c (text a ++ x) ≡ true)
    → (s t : List A) (x y : List ℕ) → All P s → All P t → begins c x ≡ false → begins c y ≡ false
    → flat_map text s ++ x ≡ flat_map text t ++ y → (s ≡ t) × (x ≡ y)
all-that A P text c each first [] [] x y ps pt ex ey e = (refl, e)
all-that A P text c each first [] (b ∷ t) x y ps pt ex ey e = absurd (no-more A text c first b t y x ex e)
all-that A P text c each first (a ∷ s) [] x y ps pt ex ey e = absurd (no-more A text c first a s x y ey (sym e))
all-that A P text c each first (a ∷ s) (b ∷ t) x y ps pt ex ey e =
    let one = each a b _ _ (first_of P a s ps) (first_of P b t pt) (behind A text a b s t x y e) in
    let others = all-that A P text c each first s t x y (others_of P a s ps) (others_of P b t pt) ex ey one.1 in
    (same-cons A a b s t one.0 others.0, others.1)

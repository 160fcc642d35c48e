-- Lists of gates and of the passes for them.
use Rattle.std.proofs.Common.{◌≡◌, ℕ, ◌+◌, ◌<◌, ◌≤◌, List, [], ◌∷◌, ◌++◌, length, get_or, map, take, drop, refl, sym, ap, ◌∙◌, subst, arith, Some, All}
use Rattle.dex_world.proofs.Common.{All-map, AllZip, length-map}
use Rattle.dex_world.proofs.MappedLists.{map-map}
use Rattle.dex_run.proofs.Common.{GateView, PassView, first_passes, fresh_pass, next_pass, passes_of, split_once}
use Rattle.std.proofs.lemmas.List.{append-nil, drop_all, drop_more, get_or_at, length-append, length-drop, length-take, length-take-le, map-append, map_more, take_all}
use Rattle.std.proofs.lemmas.Slice.Zip.{all_zipped_more}
use Rattle.dex_gate.specs.PassView.{first_pass}

-- ---- two lists, place by place

pub zip-map : {A B C : Type 0} (P : A → B → Type 0) (Q : A → C → Type 0) (f : B → C) → ((x : A) (y : B) → P x y → Q x (f y))
    → (xs : List A) (ys : List B) → AllZip P xs ys → AllZip Q xs (map f ys)
zip-map P Q f each [] [] all = tt
zip-map P Q f each (x ∷ xs) (y ∷ ys) all = (each x y all.0, zip-map P Q f each xs ys all.1)
zip-map P Q f each _ _ all = absurd all

-- ---- a list that is changed from its first place on

-- the first n items are mapped
abbrev pub half : {A : Type 0} → (A → A) → ℕ → List A → List A
half f n xs = map f (take n xs) ++ drop n xs

pub length-half : {A : Type 0} (f : A → A) (i : ℕ) (xs : List A) → length (half f i xs) ≡ length xs
length-half f i xs = length-append (map f (take i xs)) (drop i xs) ∙ omega (arith, length-map (take i xs) f, length-take i xs, length-drop i xs)

pub half-all : {A : Type 0} (f : A → A) (i : ℕ) (xs : List A) → length xs ≤ i → half f i xs ≡ map f xs
half-all f i xs over = (λ k. map f (take_all i xs over k) ++ drop_all i xs over k) ∙ append-nil (map f xs)

-- the item at the place that is reached is as it was
pub half-at : {A : Type 0} (f : A → A) (i : ℕ) (xs now : List A) (x : A) → now ≡ half f i xs → x ≡ get_or now i x → i < length xs → x ≡ get_or xs i x
half-at f i xs now x is at within =
    at
    ∙ ap (λ l. get_or l i x) (is ∙ ap (λ l. map f (take i xs) ++ l) (drop_more xs i x within))
    ∙ get_or_at (map f (take i xs)) (get_or xs i x) (drop (i + 1) xs) x i (length-map (take i xs) f ∙ length-take-le i xs (omega (arith, within)))

-- what is made of the items so far, and of one more
pub mapped-more : {A B : Type 0} (f : A → B) (i : ℕ) (xs : List A) (old new : List B) (x : A) (y : B) → old ≡ map f (take i xs) → new ≡ old ++ y ∷ []
    → x ≡ get_or xs i x → y ≡ f x → i < length xs → new ≡ map f (take (i + 1) xs)
mapped-more f i xs old new x y before added at made within = added ∙ (λ k. before k ++ (made ∙ ap f at) k ∷ []) ∙ sym (map_more f xs i x within)

-- ---- gates and their first passes

pub zip-more : {A B : Type 0} (R : A → B → Type 0) (xs : List A) (ys more : List B) (x : A) (y : B) → AllZip R xs ys → R x y → more ≡ ys ++ y ∷ []
    → AllZip R (xs ++ x ∷ []) more
zip-more R xs ys more x y all one added = subst (AllZip R (xs ++ x ∷ [])) (sym added) (all_zipped_more R xs ys x y all one)

pub firsts-more : {E O : Type 0} (gates gates' : List (GateView E O)) (passes passes' : List (PassView E O)) (gate : GateView E O) (pass : PassView E O)
    → passes ≡ first_passes 1 gates → pass ≡ first_pass gate → gates' ≡ gates ++ gate ∷ [] → passes' ≡ passes ++ pass ∷ []
    → passes' ≡ first_passes 1 gates'
firsts-more {E} {O} gates gates' passes passes' gate pass before first gates_are passes_are =
    passes_are
    ∙ (λ k. before k ++ first k ∷ [])
    ∙ sym (map-append (fresh_pass 0 1) gates (gate ∷ []))
    ∙ ap (first_passes 1) (sym gates_are)

-- the passes that were made for gates are of these gates
pub passes-of_gates : {E O : Type 0} (f : GateView E O → PassView E O) → ((gate : GateView E O) → (f gate).gate ≡ Some gate) → (gates : List (GateView E O))
    → AllZip (λ gate pass. pass.gate ≡ Some gate) gates (map f gates)
passes-of_gates f is [] = tt
passes-of_gates f is (gate ∷ gates) = (is gate, passes-of_gates f is gates)

-- each of the first passes is of its gate
pub firsts-gates : {E O : Type 0} (next : ℕ) (gates : List (GateView E O)) (passes : List (PassView E O)) → passes ≡ first_passes next gates
    → AllZip (λ gate pass. pass.gate ≡ Some gate) gates passes
firsts-gates next gates passes is =
    subst (AllZip (λ gate pass. pass.gate ≡ Some gate) gates) (sym is) (passes-of_gates (fresh_pass 0 next) (λ gate. refl) gates)

-- ---- what holds of items that are mapped

pub zip-unmap : {A B C : Type 0} (Q : B → C → Type 0) (P : A → C → Type 0) (f : A → B) → ((x : A) (y : C) → Q (f x) y → P x y) → (xs : List A) (ys : List C)
    → AllZip Q (map f xs) ys → AllZip P xs ys
zip-unmap Q P f each [] [] all = tt
zip-unmap Q P f each (x ∷ xs) (y ∷ ys) all = (each x y all.0, zip-unmap Q P f each xs ys all.1)
zip-unmap Q P f each _ _ all = absurd all

pub all-mapped : {A B : Type 0} (P : B → Type 0) (f : A → B) → ((x : A) → P (f x)) → (xs : List A) (ys : List B) → ys ≡ map f xs → All P ys
all-mapped P f each xs ys is = subst (All P) (sym is) (All-map P f xs (λ k d within. each (get_or xs k d)))

-- what is handed out of the first passes, and what is left
pub given-are : {E O : Type 0} (next : ℕ) (gates : List (GateView E O)) (passes given : List (PassView E O)) → passes ≡ first_passes next gates
    → given ≡ map next_pass passes → given ≡ passes_of next gates
given-are {E} {O} next gates passes given is made = made ∙ ap (map next_pass) is ∙ map-map (λ (gate : GateView E O). fresh_pass 0 next gate) next_pass gates

pub kept-are : {E O : Type 0} (next : ℕ) (gates : List (GateView E O)) (passes kept : List (PassView E O)) → passes ≡ first_passes next gates
    → kept ≡ map split_once passes → kept ≡ first_passes (next + 1) gates
kept-are {E} {O} next gates passes kept is made = made ∙ ap (map split_once) is ∙ map-map (λ (gate : GateView E O). fresh_pass 0 next gate) split_once gates

-- Sums for each owner, one item more; and what is found from a place on.
use Rattle.std.proofs.Common.{ℕ, zero, suc, ◌+◌, ◌≡◌, ◌<◌, Bool, true, false, List, [], ◌∷◌, length, map, get_or, set, take, drop, Some, refl, sym, ap, ◌∙◌, arith}
use Rattle.std.proofs.lemmas.Bool.{cond-true, cond-false}
use Rattle.std.proofs.lemmas.List.{drop_more, get_or-map, length-map}
use Rattle.dex_types.specs.declared.addresses.Address.{Address}
use Rattle.dex_script_types.specs.Firsts.{first_of}
use Rattle.dex_worth.specs.declared.amounts.TokenAmounts.{TokenAmounts}
use Rattle.dex_worth.specs.Amounts.{added, with_own}

-- one owner more
pub added-more : (owner : Address) (more : TokenAmounts) (owners : List Address) (sums : List TokenAmounts) (i : ℕ) (a : Address) (d : TokenAmounts) → i < length owners → length sums ≡ length owners
    → added owner more (take (suc i) owners) sums ≡ set (added owner more (take i owners) sums) i (with_own owner more (get_or owners i a) (get_or (added owner more (take i owners) sums) i d))
added-more owner more [] sums i a d lt long = absurd (omega arith)
added-more owner more (of ∷ owners) [] i a d lt long = absurd (omega arith)
added-more owner more (of ∷ owners) (sum ∷ sums) zero a d lt long = refl
added-more owner more (of ∷ owners) (sum ∷ sums) (suc i) a d lt long =
    ap (λ (rest : List TokenAmounts). with_own owner more of sum ∷ rest) (added-more owner more owners sums i a d (omega arith) (omega arith))

-- at a place
pub first-here : {X Y : Type 0} (test : X → Bool) (told : X → Y) (xs : List X) (i : ℕ) (d : X) → i < length xs → test (get_or xs i d) ≡ true
    → first_of test told (drop i xs) ≡ Some (told (get_or xs i d))
first-here test told xs i d lt passes =
    ap (first_of test told) (drop_more xs i d lt) ∙ cond-true (test (get_or xs i d)) (Some (told (get_or xs i d))) (first_of test told (drop (i + 1) xs)) passes

pub first-later : {X Y : Type 0} (test : X → Bool) (told : X → Y) (xs : List X) (i : ℕ) (d : X) → i < length xs → test (get_or xs i d) ≡ false
    → first_of test told (drop i xs) ≡ first_of test told (drop (i + 1) xs)
first-later test told xs i d lt fails =
    ap (first_of test told) (drop_more xs i d lt) ∙ cond-false (test (get_or xs i d)) (Some (told (get_or xs i d))) (first_of test told (drop (i + 1) xs)) fails

-- what is told of two lists alike is told alike at a place
pub at-same : {X Y Z : Type 0} (f : X → Z) (g : Y → Z) (xs : List X) (ys : List Y) (k : ℕ) (x : X) (y : Y) → map f xs ≡ map g ys → k < length xs
    → f (get_or xs k x) ≡ g (get_or ys k y)
at-same {Z = Z} f g xs ys k x y same lt =
    sym (get_or-map f xs k x (f x) lt)
    ∙ ap (λ (zs : List Z). get_or zs k (f x)) same
    ∙ get_or-map g ys k y (f x) (omega (arith, lt, ap (λ (zs : List Z). length zs) same, length-map xs f, length-map ys g))

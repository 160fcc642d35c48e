-- The first and the last of two lists of orders, and the order found in them, or after one of theirs.
use Rattle.std.proofs.Common.{◌≡◌, ◌≢◌, ℕ, true, false, cond, eqb, ⊎_elim, List, [], ◌∷◌, ◌++◌, Option, Some, None, refl, sym, ap, ◌∙◌, subst}
use Rattle.std.specs.Option.{IsSome, option_or}
use Rattle.std.proofs.lemmas.Bool.{cases_Bool, cond-true, cond-false, ne_eqb, false≢true}
use Rattle.dex_types.specs.declared.orders.Order.{Order}
use Rattle.dex_types.specs.BookSide.{best_of, order_after}
use Rattle.dex_types.specs.Cancel.{order_with}
use Rattle.dex_types.specs.Posting.{last_of}
use Rattle.dex_slab.proofs.IdLists.{AllIds}

-- the first of both, and the last
pub best-append : (xs ys : List Order) → best_of (xs ++ ys) ≡ option_or (best_of xs) (best_of ys)
best-append [] ys = refl
best-append (x ∷ xs) ys = refl

pub last-append : (xs ys : List Order) → last_of (xs ++ ys) ≡ option_or (last_of ys) (last_of xs)
last-append [] ys = or-none (last_of ys)
  where
    or-none : (a : Option Order) → a ≡ option_or a None
    or-none None = refl
    or-none (Some a) = refl
last-append (x ∷ []) [] = refl
last-append (x ∷ []) (y ∷ ys) = last-behind x y ys
  where
    last-behind : (x y : Order) (ys : List Order) → last_of (x ∷ y ∷ ys) ≡ option_or (last_of (y ∷ ys)) (Some x)
    last-behind x y [] = refl
    last-behind x y (z ∷ zs) = last-behind x z zs
last-append (x ∷ y ∷ xs) ys = last-append (y ∷ xs) ys

-- an id that only one of two lists has is found there
pub order_with-back : (id : ℕ) (xs ys : List Order) → AllIds (λ other. other ≢ id) xs → order_with id (xs ++ ys) ≡ order_with id ys
order_with-back id [] ys apart = refl
order_with-back id (x ∷ xs) ys apart = cond-false _ _ _ (ne_eqb x.id id apart.0) ∙ order_with-back id xs ys apart.1

pub order_with-none : (id : ℕ) (xs : List Order) → AllIds (λ other. other ≢ id) xs → order_with id xs ≡ None
order_with-none id [] apart = refl
order_with-none id (x ∷ xs) apart = cond-false _ _ _ (ne_eqb x.id id apart.0) ∙ order_with-none id xs apart.1

pub order_with-front : (id : ℕ) (xs ys : List Order) → AllIds (λ other. other ≢ id) ys → order_with id (xs ++ ys) ≡ order_with id xs
order_with-front id [] ys apart = order_with-none id ys apart
order_with-front id (x ∷ xs) ys apart = ap (λ rest. cond (eqb x.id id) (Some x) rest) (order_with-front id xs ys apart)

-- the order after one of the second list is there; after one of the first it is there too, or the first of the second
pub order_after-back : (id : ℕ) (xs ys : List Order) → AllIds (λ other. other ≢ id) xs → order_after id (xs ++ ys) ≡ order_after id ys
order_after-back id [] ys apart = refl
order_after-back id (x ∷ xs) ys apart = cond-false _ _ _ (ne_eqb x.id id apart.0) ∙ order_after-back id xs ys apart.1

pub order_after-front : (id : ℕ) (xs ys : List Order) → IsSome (order_with id xs) → order_after id (xs ++ ys) ≡ option_or (order_after id xs) (best_of ys)
order_after-front id [] ys rests = absurd (false≢true rests)
order_after-front id (x ∷ xs) ys rests =
    ⊎_elim
    (λ (same : eqb x.id id ≡ true). cond-true _ _ _ same ∙ best-append xs ys ∙ sym (ap (λ o. option_or o (best_of ys)) (cond-true _ _ _ same)))
    (λ (apart : eqb x.id id ≡ false).
    cond-false _ _ _ apart ∙ order_after-front id xs ys (subst IsSome (cond-false _ _ _ apart) rests)
    ∙ sym (ap (λ o. option_or o (best_of ys)) (cond-false _ _ _ apart)))
    (cases_Bool (eqb x.id id))

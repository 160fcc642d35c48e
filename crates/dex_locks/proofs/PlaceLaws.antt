-- Putting addresses in places keeps them from the front, by rising address.
use Rattle.std.proofs.Common.{◌≡◌, ℕ, zero, suc, ◌+◌, ◌<◌, ◌≤◌, true, false, cond, List, [], ◌∷◌, length, get_or, set, Option, Some, None, refl, sym, ap, ◌∙◌, arith}
use Rattle.dex_types.specs.declared.addresses.Address.{Address}
use Rattle.dex_types.specs.Addresses.{is_same}
use Rattle.dex_types.specs.Wallets.{is_lower, with_address, with_role}
use Rattle.dex_locks.specs.declared.insert.Carry.{Carry}
use Rattle.dex_locks.specs.declared.insert.Carry.TheVariants.{Nothing, New, Moved}
use Rattle.dex_locks.specs.Places.{AreFree, StandInFront, carry_of, front, put}

-- this many places with addresses from the front
abbrev pub padded : ℕ → List Address → List (Option Address)
padded zero addresses = []
padded (suc n) [] = None ∷ padded n []
padded (suc n) (address ∷ addresses) = Some address ∷ padded n addresses

put-moved : (n : ℕ) (address : Address) (addresses : List Address) → length addresses < n
    → put (Moved address) (padded n addresses) ≡ padded n (address ∷ addresses)
unfolding put
put-moved zero address addresses lt = absurd (omega arith)
put-moved (suc n) address [] lt = refl
put-moved (suc n) address (first ∷ others) lt = ap (λ (l : List (Option Address)). Some address ∷ l) (put-moved n first others (omega arith))

put-new : (n : ℕ) (address : Address) (addresses : List Address) → length addresses < n
    → put (New address) (padded n addresses) ≡ padded n (with_address address addresses)
unfolding put
put-new zero address addresses lt = absurd (omega arith)
put-new (suc n) address [] lt = refl
put-new (suc n) address (first ∷ others) lt =
    let others_put = put-new n address others (omega arith) in
    let behind = put-moved n first others (omega arith) in
    elim (is_same address first) as (λ s.
    cond s (Some first ∷ padded n others) (cond (is_lower address first) (Some address ∷ put (Moved first) (padded n others)) (Some first ∷ put (New address) (padded n others)))
    ≡ padded (suc n) (cond s (first ∷ others) (cond (is_lower address first) (address ∷ first ∷ others) (first ∷ with_address address others)))) [
      | true ↦ refl
      | false ↦ elim (is_lower address first) as (λ s.
          cond s (Some address ∷ put (Moved first) (padded n others)) (Some first ∷ put (New address) (padded n others))
          ≡ padded (suc n) (cond s (address ∷ first ∷ others) (first ∷ with_address address others))) [
            | true ↦ ap (λ (l : List (Option Address)). Some address ∷ l) behind
            | false ↦ ap (λ (l : List (Option Address)). Some first ∷ l) others_put
          ]
    ]

put-role : (n : ℕ) (role : Option Address) (addresses : List Address) → length addresses < n
    → put (carry_of role) (padded n addresses) ≡ padded n (with_role role addresses)
unfolding put
put-role n None addresses lt = refl
put-role n (Some address) addresses lt = put-new n address addresses lt

length-with_address : (address : Address) (addresses : List Address) → length (with_address address addresses) ≤ length addresses + 1
length-with_address address [] = omega arith
length-with_address address (first ∷ others) =
    let more = length-with_address address others in
    elim (is_same address first) as (λ s. length (cond s (first ∷ others) (cond (is_lower address first) (address ∷ first ∷ others) (first ∷ with_address address others))) ≤ suc (length others) + 1) [
      | true ↦ omega arith
      | false ↦ elim (is_lower address first) as (λ s. length (cond s (address ∷ first ∷ others) (first ∷ with_address address others)) ≤ suc (length others) + 1) [
        | true ↦ omega arith
        | false ↦ omega arith
      ]
    ]

length-with_role : (role : Option Address) (addresses : List Address) → length (with_role role addresses) ≤ length addresses + 1
length-with_role None addresses = omega arith
length-with_role (Some address) addresses = length-with_address address addresses

-- four roles, one after another
module _ (coin pc discount referrer : Option Address) where
  abbrev one : List Address
  one = with_role referrer []

  abbrev two : List Address
  two = with_role discount one

  abbrev three : List Address
  three = with_role pc two

  pub put-roles : put (carry_of coin) (put (carry_of pc) (put (carry_of discount) (put (carry_of referrer) (None ∷ None ∷ None ∷ None ∷ [])))) ≡ padded 4 (with_role coin three)
  put-roles =
      let first : length one ≤ 1 = length-with_role referrer [] in
      let second : length two ≤ length one + 1 = length-with_role discount one in
      let third : length three ≤ length two + 1 = length-with_role pc two in
      ap (λ (l : List (Option Address)). put (carry_of coin) (put (carry_of pc) (put (carry_of discount) l))) (put-role 4 referrer [] (omega arith))
      ∙ ap (λ (l : List (Option Address)). put (carry_of coin) (put (carry_of pc) l)) (put-role 4 discount one (omega arith))
      ∙ ap (put (carry_of coin)) (put-role 4 pc two (omega arith))
      ∙ put-role 4 coin three (omega arith)

  pub length-roles : length (with_role coin three) ≤ 4
  length-roles =
      let first : length one ≤ 1 = length-with_role referrer [] in
      let second : length two ≤ length one + 1 = length-with_role discount one in
      let third : length three ≤ length two + 1 = length-with_role pc two in
      let fourth : length (with_role coin three) ≤ length three + 1 = length-with_role coin three in
      omega arith

pub front-padded : (n : ℕ) (addresses : List Address) → length addresses ≤ n → front (padded n addresses) ≡ addresses
front-padded zero [] le = refl
front-padded zero (address ∷ addresses) le = absurd (omega arith)
front-padded (suc n) [] le = refl
front-padded (suc n) (address ∷ addresses) le = ap (λ (l : List Address). address ∷ l) (front-padded n addresses (omega arith))

free-padded : (n : ℕ) → AreFree (padded n [])
free-padded zero = tt
free-padded (suc n) = free-padded n

pub stand-padded : (n : ℕ) (addresses : List Address) → StandInFront (padded n addresses)
stand-padded zero addresses = tt
stand-padded (suc n) [] = free-padded n
stand-padded (suc n) (address ∷ addresses) = stand-padded n addresses

-- where there is no place, nothing is put
put-none : (carry : Carry) → put carry [] ≡ []
unfolding put
put-none Nothing = refl
put-none (New address) = refl
put-none (Moved address) = refl

-- the four places, once one after the other is done
pub put-four : (places : List (Option Address)) (first second third fourth left : Carry) (a b x y : Option Address) → length places ≡ 4
    → ((others : List (Option Address)) → put first (get_or places 0 None ∷ others) ≡ a ∷ put second others)
    → ((others : List (Option Address)) → put second (get_or (set places 0 a) 1 None ∷ others) ≡ b ∷ put third others)
    → ((others : List (Option Address)) → put third (get_or (set (set places 0 a) 1 b) 2 None ∷ others) ≡ x ∷ put fourth others)
    → ((others : List (Option Address)) → put fourth (get_or (set (set (set places 0 a) 1 b) 2 x) 3 None ∷ others) ≡ y ∷ put left others)
    → set (set (set (set places 0 a) 1 b) 2 x) 3 y ≡ put first places
put-four [] first second third fourth left a b x y whole one two three four = absurd (omega arith)
put-four (p ∷ []) first second third fourth left a b x y whole one two three four = absurd (omega arith)
put-four (p ∷ q ∷ []) first second third fourth left a b x y whole one two three four = absurd (omega arith)
put-four (p ∷ q ∷ r ∷ []) first second third fourth left a b x y whole one two three four = absurd (omega arith)
put-four (p ∷ q ∷ r ∷ s ∷ []) first second third fourth left a b x y whole one two three four =
    let then : Option Address → List (Option Address) → List (Option Address) = λ o l. o ∷ l in
    sym (one (q ∷ r ∷ s ∷ []) ∙ ap (then a) (two (r ∷ s ∷ []) ∙ ap (then b) (three (s ∷ []) ∙ ap (then x) (four [] ∙ ap (then y) (put-none left)))))
put-four (p ∷ q ∷ r ∷ s ∷ z ∷ more) first second third fourth left a b x y whole one two three four = absurd (omega arith)

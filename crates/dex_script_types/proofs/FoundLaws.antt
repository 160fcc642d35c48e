-- The wallets of four roles, found by their addresses: where each stands, and which of them each role names.
use Rattle.std.proofs.Common.{◌≡◌, ◌∙◌, ℕ, zero, suc, ◌+◌, ◌<◌, ◌≤◌, ◌&&◌, Bool, true, false, cond, List, [], ◌∷◌, Option, None, Some, IfSome, MatchOption, ap, arith, get_or, is_some, length, refl, replicate, rules, sym, subst, unwrap_or}
use Rattle.dex_world.proofs.Common.{Address, false_from_ne_true, false≢true, is_role, is_same, is_same-true}
use Rattle.std.specs.List.{All, list_any, position, position_from}
use Rattle.std.proofs.lemmas.Iterator.Adapters.{position_from-zero}
use Rattle.std.proofs.lemmas.List.Elements.{All-head, All-nil, All-replicate, All-tail}
use Rattle.std.proofs.lemmas.List.Quantifiers.{position-Some}
use Rattle.std.proofs.lemmas.Option.{MatchOption-at_none, MatchOption-at_some}
use Rattle.dex_locks.specs.Places.{AreFree, StandInFront, front}
use Rattle.dex_locks.proofs.PlaceLaws.{length-roles}
use Rattle.dex_world.specs.declared.places.RowWallets.{RowWallets}
use Rattle.dex_world.specs.Places.{ArePlacesOf, AreWalletsAt, IsIndexOf, wallets_of_roles}
use Rattle.dex_world.proofs.NameLaws.{roles-among, roles-each}
use Rattle.dex_script_types.specs.Found.{are_found, index_among, is_found, places_by, with_place}
use Rattle.dex_script_types.specs.Places.{IsMarked}

-- at this place no wallet stands
abbrev IsNone : ℕ → Type 0
IsNone place = place ≡ 65535

-- ---- places that are found

module _ (place_of : Address → Option ℕ) where
  -- a wallet is found
  abbrev IsFound : Address → Type 0
  IsFound address = is_some (place_of address) ≡ true

  free-places : (wallets : List (Option Address)) → AreFree wallets → places_by place_of wallets ≡ Some (replicate (length wallets) 65535)
  free-places [] free = refl
  free-places (None ∷ wallets) free = ap (with_place (Some 65535)) (free-places wallets free)
  free-places ((Some address) ∷ wallets) free = absurd free

  -- what is told are the places of the wallets in front; where nothing is, not all of these are found
  told : (wallets : List (Option Address)) → StandInFront wallets
      → MatchOption (places_by place_of wallets) (All IsFound (front wallets) → ⊥) (ArePlacesOf place_of (front wallets))
  told [] stand = All-nil IsNone
  told (None ∷ wallets) stand = rw (free-places wallets stand) (All-replicate IsNone (suc (length wallets)) 65535 refl)
  told ((Some address) ∷ wallets) stand = one (place_of address) refl (places_by place_of wallets) (told wallets stand)
    where
      one : (place : Option ℕ) → place_of address ≡ place → (rest : Option (List ℕ))
          → MatchOption rest (All IsFound (front wallets) → ⊥) (ArePlacesOf place_of (front wallets))
          → MatchOption (with_place place rest) (All IsFound (address ∷ front wallets) → ⊥) (ArePlacesOf place_of (address ∷ front wallets))
      one None is rest told = λ all. false≢true (ap is_some (sym is) ∙ All-head IsFound address (front wallets) all)
      one (Some place) is None told = λ all. told (All-tail IsFound address (front wallets) all)
      one (Some place) is (Some places) told = (is, told)

  role-found : (role : Option Address) → is_found place_of role ≡ true → IfSome role IsFound
  role-found None found = tt
  role-found (Some address) found = found

  -- ---- each of some addresses at its place

  there : (addresses : List Address) (places : List ℕ) (index : ℕ) (address : Address)
      → ArePlacesOf place_of addresses places → index < length addresses
      → place_of (get_or addresses index address) ≡ Some (get_or places index 65535)
  there [] places index address are within = absurd (omega (arith, within))
  there (first ∷ others) [] index address are within = absurd are
  there (first ∷ others) (place ∷ places) zero address are within = are.0
  there (first ∷ others) (place ∷ places) (suc index) address are within =
      there others places index address are.1 (omega (arith, within))

  -- so is the one of this index
  pub found-at : (addresses : List Address) (places : List ℕ) (index : ℕ) (address : Address)
      → ArePlacesOf place_of addresses places
      → position (is_same address) addresses ≡ Some index → place_of address ≡ Some (get_or places index 65535)
  found-at addresses places index address are is =
      let at = position-Some (is_same address) addresses index address is in
      ap place_of (is_same-true address (get_or addresses index address) at.1)
      ∙ there addresses places index address are at.0

  behind : (addresses : List Address) (places : List ℕ) (index : ℕ) → ArePlacesOf place_of addresses places
      → length addresses ≤ index
      → get_or places index 65535 ≡ 65535
  behind [] [] index are far = refl
  behind [] (place ∷ places) zero are far = All-head IsNone place places are
  behind [] (place ∷ places) (suc index) are far = behind [] places index (All-tail IsNone place places are) (omega arith)
  behind (first ∷ others) [] index are far = absurd are
  behind (first ∷ others) (place ∷ places) zero are far = absurd (omega (arith, far))
  behind (first ∷ others) (place ∷ places) (suc index) are far = behind others places index are.1 (omega (arith, far))

  -- a role that names none has a place at which none stands
  pub role-marked : (coin pc discount referrer role : Option Address) (places : List ℕ) (index : ℕ)
      → ArePlacesOf place_of (wallets_of_roles coin pc discount referrer) places
      → IsIndexOf (wallets_of_roles coin pc discount referrer) role index
      → IsMarked role (get_or places index 65535)
  role-marked coin pc discount referrer None places index are is =
      behind (wallets_of_roles coin pc discount referrer) places index are
      (omega (arith, is, length-roles coin pc discount referrer))
  role-marked coin pc discount referrer (Some address) places index are is = tt

-- ---- who finds each wallet at the place at which another finds it

-- what one finds another finds there
pub wallets-weaker : (one other : Address → Option ℕ) → ((address : Address) (place : ℕ) → one address ≡ Some place → other address ≡ Some place)
    → (coin pc discount referrer : Option Address) (at : RowWallets) → AreWalletsAt one coin pc discount referrer at → AreWalletsAt other coin pc discount referrer at
wallets-weaker one other right coin pc discount referrer at is = record {
  places = places-weaker (wallets_of_roles coin pc discount referrer) at.places is.places;
  of_coin = is.of_coin;
  of_pc = is.of_pc;
  of_discount = is.of_discount;
  of_referrer = is.of_referrer;
}
  where
    places-weaker : (addresses : List Address) (places : List ℕ) → ArePlacesOf one addresses places → ArePlacesOf other addresses places
    places-weaker [] places are = are
    places-weaker (address ∷ addresses) [] are = are
    places-weaker (address ∷ addresses) (place ∷ places) (is, are) = (right address place is, places-weaker addresses places are)

module _ (one other : Address → Option ℕ) (same : (address : Address) → one address ≡ other address) where
  pub is_found-same : (role : Option Address) → is_found one role ≡ is_found other role
  is_found-same None = refl
  is_found-same (Some address) = ap is_some (same address)

  pub wallets-same : (coin pc discount referrer : Option Address) (at : RowWallets)
      → AreWalletsAt one coin pc discount referrer at
      → AreWalletsAt other coin pc discount referrer at
  wallets-same = wallets-weaker one other (λ address place is. sym (same address) ∙ is)

-- wallets that stand somewhere are found
module _
    (place_of : Address → Option ℕ) (coin pc discount referrer : Option Address) (at : RowWallets)
    (is : AreWalletsAt place_of coin pc discount referrer at)
  where
    found-role : (role : Option Address) (index : ℕ) → IsIndexOf (wallets_of_roles coin pc discount referrer) role index
        → is_found place_of role ≡ true
    found-role None index of = refl
    found-role (Some address) index of =
        ap is_some (found-at place_of (wallets_of_roles coin pc discount referrer) at.places index address is.places of)

    pub all-found : are_found place_of coin pc discount referrer ≡ true
    all-found =
        rw (
          found-role coin at.coin is.of_coin,
          found-role pc at.pc is.of_pc,
          found-role discount at.discount is.of_discount,
          found-role referrer at.referrer is.of_referrer,
        ) refl

-- ---- the index of a role

some-any : {X : Type 0} (test : X → Bool) (i : ℕ) (xs : List X) → is_some (position_from test i xs) ≡ list_any test xs
some-any test i [] = refl
some-any test i (x ∷ xs) = let rest = some-any test (i + 1) xs in search (rules, rest)

-- a place is found where a test passes
pub position-any : {X : Type 0} (test : X → Bool) (xs : List X) → is_some (position test xs) ≡ list_any test xs
position-any test xs = ap is_some (position_from-zero test xs) ∙ some-any test 0 xs

free-from : (address : Address) (i : ℕ) (wallets : List (Option Address)) → AreFree wallets → position_from (λ wallet. is_role wallet address) i wallets ≡ None
free-from address i [] free = refl
free-from address i (None ∷ wallets) free = free-from address (i + 1) wallets free
free-from address i ((Some wallet) ∷ wallets) free = absurd free

front-from : (address : Address) (i : ℕ) (wallets : List (Option Address)) → StandInFront wallets
    → position_from (λ wallet. is_role wallet address) i wallets ≡ position_from (is_same address) i (front wallets)
front-from address i [] stand = refl
front-from address i (None ∷ wallets) stand = free-from address (i + 1) wallets stand
front-from address i ((Some wallet) ∷ wallets) stand =
    ap (λ (behind : Option ℕ). cond (is_same address wallet) (Some i) behind) (front-from address (i + 1) wallets stand)

-- an address stands where it stands in front
pub front-position : (address : Address) (wallets : List (Option Address)) → StandInFront wallets
    → position (λ wallet. is_role wallet address) wallets ≡ position (is_same address) (front wallets)
front-position address wallets stand =
    position_from-zero (λ wallet. is_role wallet address) wallets
    ∙ front-from address 0 wallets stand ∙ sym (position_from-zero (is_same address) (front wallets))

-- ---- what is found of the wallets that are planned

module _
    (place_of : Address → Option ℕ) (coin pc discount referrer : Option Address) (wallets : List (Option Address))
    (are : front wallets ≡ wallets_of_roles coin pc discount referrer) (stand : StandInFront wallets)
  where
    abbrev all : List Address
    all = wallets_of_roles coin pc discount referrer

    abbrev Index : Option Address → ℕ → Type 0
    Index role told = told ≡ index_among wallets role

    -- the index that is told of a role is its own
    index-told : (role : Option Address) (told : ℕ) → IfSome role (λ address. list_any (is_same address) all ≡ true) → Index role told → IsIndexOf all role told
    index-told None told among is = is
    index-told (Some address) told among is =
        one (position (is_same address) all) (position-any (is_same address) all ∙ among)
        ∙ ap Some (sym (is ∙ ap (λ (found : Option ℕ). unwrap_or found 4)
        (front-position address wallets stand ∙ ap (λ (list : List Address). position (is_same address) list) are)))
      where
        one : (found : Option ℕ) → is_some found ≡ true → found ≡ Some (unwrap_or found 4)
        one None some = absurd (false≢true some)
        one (Some index) some = refl

    pub found-where : (at : RowWallets) → places_by place_of wallets ≡ Some at.places
        → Index coin at.coin → Index pc at.pc → Index discount at.discount → Index referrer at.referrer
        → AreWalletsAt place_of coin pc discount referrer at
    found-where at found c p d r =
        let among = roles-among coin pc discount referrer in
        record {
          places = subst (λ (list : List Address). ArePlacesOf place_of list at.places) are
              (MatchOption-at_some _ _ at.places found (told place_of wallets stand));
          of_coin = index-told coin at.coin among.0 c;
          of_pc = index-told pc at.pc among.1 p;
          of_discount = index-told discount at.discount among.2 d;
          of_referrer = index-told referrer at.referrer among.3 r;
        }

    -- where none is told, not all are found
    pub not-found : places_by place_of wallets ≡ None → are_found place_of coin pc discount referrer ≡ false
    not-found none =
        false_from_ne_true (are_found place_of coin pc discount referrer) (λ all.
        let each = four (is_found place_of coin) (is_found place_of pc) (is_found place_of discount) (is_found place_of referrer) all in
        let found = role-found place_of in
        MatchOption-at_none _ _ none (told place_of wallets stand)
        (subst (All (IsFound place_of)) (sym are)
        (roles-each coin pc discount referrer (IsFound place_of) (found coin each.0, found pc each.1, found discount each.2, found referrer each.3))))
      where
        four : (a b c d : Bool) → (a && b && c && d) ≡ true → (a ≡ true) × (b ≡ true) × (c ≡ true) × (d ≡ true)
        four true true true true all = (refl, refl, refl, refl)
        four _ _ _ _ all = absurd (cc)

-- What rows join, as links: all within, and what agrees with the rows agrees with them.
use Rattle.std.proofs.Common.{◌≡◌, ◌<◌, ◌+◌, ℕ, zero, suc, true, eqb, ltb, List, [], ◌∷◌, ◌++◌, Some, get_or, length, refl, sym, ap, ◌∙◌, subst, arith, ⊎_elim}
use Rattle.dex_world.proofs.Common.{Address, All-append, All-cons, All-head, All-nil, All-tail, EachTwo, PlainAccounts, PlainRow, cond_both, eqb-true, is_same, is_same-refl, list_any, names, or_left, or_right, row_wallets}
use Rattle.dex_parts.proofs.Common.{All, All-second, AreBeside, ArePlaced, ArePlacesOf, IsBeside, IsPlaced, RowPlaces, cases_eq, get_or-append-add, get_or_append_left, length-append, market_place, wallet_place}
use Rattle.dex_script_types.proofs.PlacedLaws.{market-within, wallet-within}
use Rattle.dex_parts.specs.Joins.{IsWithin, Link, leg_links, links_of, place_links, row_links, wallet_links}
use Rattle.dex_parts.specs.Numbers.{labels_of, numbers_to}
use Rattle.dex_parts.proofs.JoinLaws.{Agrees, joined-all-long}

-- ---- how many numbers there are

pub numbers-long : (count : ℕ) → length (numbers_to count) ≡ count
numbers-long zero = refl
numbers-long (suc count) = omega (arith, length-append (numbers_to count) (count ∷ []), numbers-long count)

-- what is within is within the first numbers
pub within-numbers : (markets wallets : ℕ) (labels : List ℕ) (links : List Link) → labels ≡ numbers_to (markets + wallets) → All (IsWithin (markets + wallets)) links
    → All (IsWithin (length labels)) links
within-numbers markets wallets labels links is within =
    subst (λ (count : ℕ). All (IsWithin count) links) (sym (ap (λ (all : List ℕ). length all) is ∙ numbers-long (markets + wallets))) within

pub labels-long : (markets wallets : ℕ) (places : List RowPlaces) → length (labels_of markets wallets places) ≡ markets + wallets
labels-long markets wallets places = joined-all-long (numbers_to (markets + wallets)) (links_of markets places) ∙ numbers-long (markets + wallets)

-- what holds of a market and of each of these wallets at its place holds of their links
each-link : (P : Link → Type 0) (start : PlainAccounts) (markets market : ℕ) (addresses : List Address) (places : List ℕ)
    → ArePlacesOf (λ (a : Address). wallet_place a start.wallets) addresses places
    → ((address : Address) → list_any (is_same address) addresses ≡ true → (place : ℕ) → wallet_place address start.wallets ≡ Some place → P (market, markets + place))
    → All P (wallet_links markets market places)
each-link P start markets market [] [] are each = All-nil P
each-link P start markets market [] (place ∷ places) are each =
    subst (λ (n : ℕ). All P (place_links markets market n ++ wallet_links markets market places)) (sym (All-head (λ (n : ℕ). n ≡ 65535) place places are))
    (each-link P start markets market [] places (All-tail (λ (n : ℕ). n ≡ 65535) place places are) each)
each-link P start markets market (first ∷ others) [] are each = absurd are
each-link P start markets market (first ∷ others) (place ∷ places) are each =
    All-append P (place_links markets market place) (wallet_links markets market places)
    (cond_both (ltb place 65535) ((market, markets + place) ∷ []) [] (All P)
    (λ some. All-cons P (market, markets + place) [] (each first (or_left (is_same first first) (list_any (is_same first) others) (is_same-refl first)) place are.0) (All-nil P))
    (λ none. All-nil P))
    (each-link P start markets market others places are.1 (λ address among. each address (or_right (is_same address first) (list_any (is_same address) others) among)))

module _ (start : PlainAccounts) where
  abbrev markets : ℕ
  markets = length start.markets

  abbrev wallets : ℕ
  wallets = length start.wallets

  -- ---- what rows join is within

  row-links-within : (row : PlainRow) (at : RowPlaces) → IsPlaced start row at → All (IsWithin (markets + wallets)) (row_links markets at)
  row-links-within row at placed =
      let on : at.market < markets = market-within row.market start.markets at.market placed.market in
      each-link (IsWithin (markets + wallets)) start markets at.market (row_wallets row) at.wallets.places placed.wallets.places
      (λ address named place is. (omega (arith, on), omega (arith, wallet-within address start.wallets place is)))

  leg-links-within : (at : RowPlaces) (others : List RowPlaces) (rows : List PlainRow) → at.market < markets → ArePlaced start rows others
      → All (IsWithin (markets + wallets)) (leg_links at others)
  leg-links-within at [] rows on placed = All-nil (IsWithin (markets + wallets))
  leg-links-within at (next ∷ others) [] on placed = absurd placed
  leg-links-within at (next ∷ others) (row ∷ rows) on placed =
      let behind : next.market < markets = market-within row.market start.markets next.market placed.0.market in
      cond_both (eqb at.number next.number) ((at.market, next.market) ∷ []) [] (All (IsWithin (markets + wallets)))
      (λ same. All-cons (IsWithin (markets + wallets)) (at.market, next.market) [] (omega (arith, on), omega (arith, behind)) (All-nil (IsWithin (markets + wallets))))
      (λ apart. All-nil (IsWithin (markets + wallets)))

  pub links-within : (rows : List PlainRow) (places : List RowPlaces) → ArePlaced start rows places → All (IsWithin (markets + wallets)) (links_of markets places)
  links-within [] [] placed = All-nil (IsWithin (markets + wallets))
  links-within (row ∷ rows) (at ∷ places) placed =
      let Within : Link → Type 0 = IsWithin (markets + wallets) in
      let on : at.market < markets = market-within row.market start.markets at.market placed.0.market in
      All-append Within (row_links markets at) (leg_links at places ++ links_of markets places) (row-links-within row at placed.0)
      (All-append Within (leg_links at places) (links_of markets places) (leg-links-within at places rows on placed.1) (links-within rows places placed.1))
  links-within _ _ placed = absurd placed

  pub markets-on : (rows : List PlainRow) (places : List RowPlaces) → ArePlaced start rows places → All (λ (at : RowPlaces). at.market < markets) places
  markets-on rows places placed =
      All-second (IsPlaced start) (λ (at : RowPlaces). at.market < markets) (λ row at is. market-within row.market start.markets at.market is.market)
      rows places placed

-- ---- numbers of markets and wallets that agree with rows

pub numbers-at : (count place : ℕ) → place < count → get_or (numbers_to count) place 0 ≡ place
numbers-at zero place within = absurd (omega (arith, within))
numbers-at (suc count) place within =
    let long : length (numbers_to count) ≡ count = numbers-long count in
    ⊎_elim
    (λ (here : place ≡ count).
    let end : place ≡ length (numbers_to count) + 0 = omega (arith, here, long) in
    ap (λ (n : ℕ). get_or (numbers_to count ++ count ∷ []) n 0) end
    ∙ get_or-append-add (numbers_to count) (count ∷ []) 0 0 ∙ sym here)
    (λ (before : place ≡ count → ⊥).
    get_or_append_left (numbers_to count) (count ∷ []) 0 place (omega (arith, within, before, long)) ∙ numbers-at count place (omega (arith, within, before)))
    (cases_eq place count)

module _ (start : PlainAccounts) (tell : ℕ → ℕ) where
  abbrev many : ℕ
  many = length start.markets

  -- a row's market and each of its wallets have one number
  abbrev pub RowAgrees : PlainRow → Type 0
  RowAgrees row = (market place : ℕ) (wallet : Address) → market_place row.market start.markets ≡ Some market → names row wallet ≡ true
      → wallet_place wallet start.wallets ≡ Some place → tell market ≡ tell (many + place)

  -- rows of one number have markets of one
  abbrev pub LegsAgree : PlainRow → PlainRow → Type 0
  LegsAgree one other = one.number ≡ other.number → (market other_market : ℕ) → market_place one.market start.markets ≡ Some market
      → market_place other.market start.markets ≡ Some other_market → tell market ≡ tell other_market

  row-agrees : (row : PlainRow) (at : RowPlaces) → RowAgrees row → IsPlaced start row at → All (Agrees tell) (row_links many at)
  row-agrees row at agrees placed =
      each-link (Agrees tell) start many at.market (row_wallets row) at.wallets.places placed.wallets.places
      (λ wallet named place is. agrees at.market place wallet placed.market named is)

  leg-agrees : (row : PlainRow) (at : RowPlaces) (rows : List PlainRow) (places : List RowPlaces) → All (LegsAgree row) rows → IsPlaced start row at → IsBeside row at
      → ArePlaced start rows places → AreBeside rows places → All (Agrees tell) (leg_links at places)
  leg-agrees row at rows [] legs placed beside places_are besides = All-nil (Agrees tell)
  leg-agrees row at [] (next ∷ places) legs placed beside places_are besides = absurd places_are
  leg-agrees row at (other ∷ rows) (next ∷ places) legs placed beside places_are besides =
      cond_both (eqb at.number next.number) ((at.market, next.market) ∷ []) [] (All (Agrees tell))
      (λ same.
      let numbers : row.number ≡ other.number = sym beside.number ∙ eqb-true at.number next.number same ∙ besides.0.number in
      All-cons (Agrees tell) (at.market, next.market) []
      (All-head (LegsAgree row) other rows legs numbers at.market next.market placed.market places_are.0.market) (All-nil (Agrees tell)))
      (λ apart. All-nil (Agrees tell))

  pub links-agree : (rows : List PlainRow) (places : List RowPlaces) → All RowAgrees rows → EachTwo LegsAgree rows → ArePlaced start rows places → AreBeside rows places
      → All (Agrees tell) (links_of many places)
  links-agree [] [] agree legs placed beside = All-nil (Agrees tell)
  links-agree (row ∷ rows) (at ∷ places) agree legs placed beside =
      All-append (Agrees tell) (row_links many at) (leg_links at places ++ links_of many places)
      (row-agrees row at (All-head RowAgrees row rows agree) placed.0)
      (All-append (Agrees tell) (leg_links at places) (links_of many places)
      (leg-agrees row at rows places legs.0 placed.0 beside.0 placed.1 beside.1)
      (links-agree rows places (All-tail RowAgrees row rows agree) legs.1 placed.1 beside.1))
  links-agree _ _ agree legs placed beside = absurd placed

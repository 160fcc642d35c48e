-- How many rows name the market or the wallet at each place of a list.
use Rattle.std.proofs.Common.{◌≡◌, ◌≢◌, ℕ, suc, ◌+◌, ◌<◌, ◌≤◌, ◌^◌, Bool, true, false, List, [], ◌∷◌, ◌++◌, Some, count_by, eqb, get_or, length, map, take, refl, sym, ap, subst, ◌∙◌, arith, ⊎_elim}
use Rattle.dex_bank.proofs.Common.{All, IsStart, Limits, RowPlaces, item_at, position}
use Rattle.dex_world.proofs.Common.{Address, All-head, All-tail, PlainAccount, PlainAccounts, PlainMarketAccounts, PlainRow, Row, is_same, is_same-sym, is_same-true, length-map, names, row_of, row_wallets, sum_by-append, sum_by-cons, take_all, take_more}
use Rattle.std.proofs.lemmas.Bool.{cases_lt}
use Rattle.std.proofs.lemmas.Bool.Decides.{eqb_tells}
use Rattle.std.proofs.lemmas.List.{get_or-map, length-take-le}
use Rattle.std.proofs.lemmas.List.Quantifiers.{position-Some}
use Rattle.std.proofs.lemmas.List.Sums.{count_by-le-length, sum_by_more}
use Rattle.dex_history.proofs.AddressOrder.{times}
use Rattle.dex_world.specs.Places.{ArePlacesOf}
use Rattle.dex_world.proofs.OnceLaws.{roles-once, times-any}
use Rattle.dex_script_types.specs.Places.{IsPlaced, wallet_place}
use Rattle.dex_script_types.proofs.Apart.{AreDistinct, markets-distinct, wallets-distinct}
use Rattle.dex_script_types.proofs.PlacedLaws.{position-map}
use Rattle.dex_bank.specs.Counts.{AreCounted, HaveSpare, one, times_told}

-- ---- the place of an address

-- among addresses that differ an address is that of its own place alone
at-place : (addresses : List Address) → AreDistinct addresses → (address : Address) (there place : ℕ) (d : Address) → position (is_same address) addresses ≡ Some there
    → place < length addresses → eqb place there ≡ is_same address (get_or addresses place d)
at-place addresses distinct address there place d is within =
    ⊎_elim
    (λ same. same.0 ∙ sym (ap (λ (n : ℕ). is_same address (get_or addresses n d)) same.1 ∙ found.1))
    (λ other. other.0 ∙ sym (ap (λ (a : Address). is_same a (get_or addresses place d)) own ∙ apart other.1))
    (eqb_tells place there)
  where
    found : (there < length addresses) × (is_same address (get_or addresses there d) ≡ true)
    found = let at = position-Some (is_same address) addresses there d is in (at.0, at.1)

    own : address ≡ get_or addresses there d
    own = is_same-true address (get_or addresses there d) found.1

    apart : place ≢ there → is_same (get_or addresses there d) (get_or addresses place d) ≡ false
    apart differ =
        ⊎_elim
        (λ (before : place < there). is_same-sym (get_or addresses there d) (get_or addresses place d) ∙ distinct place there d before found.0)
        (λ after. distinct there place d (omega (arith, after, differ)) within)
        (cases_lt place there)

-- ---- what a row tells

-- the addresses of these markets
abbrev pub markets_at : List PlainMarketAccounts → List Address
markets_at markets = map (λ (accounts : PlainMarketAccounts). accounts.address) markets

-- and of these wallets
abbrev pub wallets_at : List PlainAccount → List Address
wallets_at wallets = map (λ (account : PlainAccount). account.address) wallets

-- a row is on the market of an address
abbrev pub on : PlainRow → Address → Bool
on row address = is_same row.market address

-- what a row names is counted once at its place, and nothing at others
abbrev pub Tells : List Address → (PlainRow → Address → Bool) → PlainRow → (ℕ → ℕ) → Type 0
Tells addresses names row more = (place : ℕ) (d : Address) → place < length addresses → more place ≡ one (names row (get_or addresses place d))

module _ {limits : Limits} (start : PlainAccounts) (is : IsStart limits start) (row : PlainRow) (places : RowPlaces) (placed : IsPlaced start row places) where
  pub market-tells : Tells (markets_at start.markets) on row (λ (place : ℕ). one (eqb place places.market))
  market-tells place d within =
      ap one (at-place (markets_at start.markets) (markets-distinct start is.accepted) row.market places.market place d
      (position-map (λ (accounts : PlainMarketAccounts). accounts.address) row.market start.markets ∙ placed.market) within)

  pub wallet-tells : Tells (wallets_at start.wallets) names row (λ (place : ℕ). times_told place places.wallets.places)
  wallet-tells place d within =
      told (row_wallets row) places.wallets.places placed.wallets.places
      ∙ times-any (get_or (wallets_at start.wallets) place d) (row_wallets row) (roles-once row.coin row.pc row.discount row.referrer)
    where
      beyond : (there : ℕ) → there ≡ 65535 → eqb place there ≡ false
      beyond there is_beyond =
          ⊎_elim
          (λ same. absurd (omega (arith, same.1, is_beyond, within, length-map start.wallets (λ (account : PlainAccount). account.address), is.accepted.few_wallets, is.accepted.within.wallets)))
          (λ apart. apart.0)
          (eqb_tells place there)

      none : (rest : List ℕ) → All (λ (there : ℕ). there ≡ 65535) rest → times_told place rest ≡ 0
      none [] all = refl
      none (there ∷ rest) all =
          omega (
            arith,
            sum_by-cons (λ (other : ℕ). one (eqb place other)) there rest,
            ap one (beyond there (All-head (λ (n : ℕ). n ≡ 65535) there rest all)),
            none rest (All-tail (λ (n : ℕ). n ≡ 65535) there rest all),
          )

      told : (addresses : List Address) (rest : List ℕ) → ArePlacesOf (λ (a : Address). wallet_place a start.wallets) addresses rest
          → times_told place rest ≡ times (get_or (wallets_at start.wallets) place d) addresses
      told [] rest are = none rest are
      told (first ∷ others) [] are = absurd are
      told (first ∷ others) (there ∷ rest) are =
          sum_by-cons (λ (other : ℕ). one (eqb place other)) there rest
          ∙ ap (λ (b : Bool). one b + times_told place rest)
          (at-place (wallets_at start.wallets) (wallets-distinct start is.accepted) first there place d
          (position-map (λ (account : PlainAccount). account.address) first start.wallets ∙ are.0) within
          ∙ is_same-sym first (get_or (wallets_at start.wallets) place d))
          ∙ ap (λ (n : ℕ). one (is_same (get_or (wallets_at start.wallets) place d) first) + n) (told others rest are.1)

-- ---- counts by place

-- one place more is counted
pub counted-more : (told : List ℕ) (i : ℕ) (start counts new : List ℕ) → i < length told
    → AreCounted (λ (place : ℕ). times_told place (take i told)) start counts → AreCounted (λ (place : ℕ). one (eqb place (get_or told i 0))) counts new
    → AreCounted (λ (place : ℕ). times_told place (take (i + 1) told)) start new
counted-more told i start counts new inside so more = record {
  long = more.long ∙ so.long;
  each = λ place less.
      omega (
        arith,
        so.each place less,
        more.each place (omega (arith, less, so.long)),
        sum_by_more (λ (other : ℕ). one (eqb place other)) told i 0 inside,
      );
}

-- and there is room for it
pub spare-more : (told : List ℕ) (i : ℕ) (start counts : List ℕ) → i < length told → HaveSpare (length told) start
    → AreCounted (λ (place : ℕ). times_told place (take i told)) start counts → HaveSpare 1 counts
spare-more told i start counts inside spare so place less =
    omega (
      arith,
      inside,
      spare place (omega (arith, less, so.long)),
      so.each place (omega (arith, less, so.long)),
      count_by-le-length (λ (other : ℕ). eqb place other) (take i told),
      length-take-le i told (omega (arith, inside)),
    )

-- ---- counts of rows

-- at each place stands how many of these rows name what is there
pub record AreRowsOf (names : PlainRow → Address → Bool) (addresses : List Address) (rows : List PlainRow) (counts : List ℕ) : Type 0 where
  pub long : length counts ≡ length addresses
  pub each : (place : ℕ) (d : Address) → place < length addresses
      → get_or counts place 0 ≡ count_by (λ (row : PlainRow). names row (get_or addresses place d)) rows

module _ {names : PlainRow → Address → Bool} {addresses : List Address} where
  -- no count is higher than there are rows
  pub rows-spare : {rows : List PlainRow} {counts : List ℕ} (more : ℕ) → AreRowsOf names addresses rows counts → length rows + more < 2 ^ 64 → HaveSpare more counts
  rows-spare {rows} more so few place less =
      let d : Address = item_at addresses place (omega (arith, less, so.long)) in
      omega (arith, few, so.each place d (omega (arith, less, so.long)), count_by-le-length (λ (one : PlainRow). names one (get_or addresses place d)) rows)

  -- a row more
  row-counted : {rows : List PlainRow} (row : PlainRow) {told : ℕ → ℕ} {before after : List ℕ} → Tells addresses names row told
      → AreRowsOf names addresses rows before → AreCounted told before after → AreRowsOf names addresses (rows ++ row ∷ []) after
  row-counted {rows} row tells so more = record {
    long = more.long ∙ so.long;
    each = λ place d less.
        let test : PlainRow → Bool = λ one. names one (get_or addresses place d) in
        let counted : PlainRow → ℕ = λ one_row. one (test one_row) in
        omega (
          arith,
          so.each place d less,
          more.each place (omega (arith, less, so.long)),
          tells place d less,
          sum_by-append counted rows (row ∷ []),
          sum_by-cons counted row [],
        );
  }

  -- one of a script's
  pub row-more : (rows : List Row) (i : ℕ) (row : Row) {told : ℕ → ℕ} {before after : List ℕ} → i < length rows → row ≡ get_or rows i row
      → Tells addresses names (row_of row) told → AreRowsOf names addresses (take i (map row_of rows)) before → AreCounted told before after
      → AreRowsOf names addresses (take (i + 1) (map row_of rows)) after
  row-more rows i row {after = after} inside at tells so more =
      subst (λ (some : List PlainRow). AreRowsOf names addresses some after)
      (sym (take_more (map row_of rows) i (row_of row) (omega (arith, inside, length-map rows row_of))
      ∙ ap (λ (one : PlainRow). take i (map row_of rows) ++ one ∷ []) (get_or-map row_of rows i row (row_of row) inside ∙ ap row_of (sym at))))
      (row-counted (row_of row) tells so more)

-- the counts of all of them
all-counted : {A : Type 0} (names : PlainRow → Address → Bool) (address_in : A → Address) (rows : List PlainRow) (items : List A) (counts : List ℕ)
    → AreRowsOf names (map address_in items) rows counts → counts ≡ map (λ (item : A). count_by (λ (row : PlainRow). names row (address_in item)) rows) items
all-counted names address_in rows [] [] so = refl
all-counted names address_in rows (item ∷ items) (count ∷ counts) so =
    let rest = all-counted names address_in rows items counts (record { long = omega (arith, so.long); each = λ place d less. so.each (suc place) d (omega (arith, less)) }) in
    λ i. so.each 0 (address_in item) (omega arith) i ∷ rest i
all-counted names address_in rows _ _ so = absurd (omega (arith, so.long))

pub rooms-told : {A : Type 0} (names : PlainRow → Address → Bool) (address_in : A → Address) (rows : List PlainRow) (items : List A) (i : ℕ) (counts : List ℕ) → length rows ≤ i
    → AreRowsOf names (map address_in items) (take i rows) counts → counts ≡ map (λ (item : A). count_by (λ (row : PlainRow). names row (address_in item)) rows) items
rooms-told names address_in rows items i counts past so =
    all-counted names address_in rows items counts (subst (λ (some : List PlainRow). AreRowsOf names (map address_in items) some counts) (take_all i rows past) so)

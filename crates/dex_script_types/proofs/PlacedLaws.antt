-- Places of rows, read off a list of them.
use Rattle.std.proofs.Common.{◌≡◌, ℕ, ◌+◌, ◌<◌, cond, List, [], ◌∷◌, ◌++◌, Option, None, Some, get_or, length, map, arith, refl, sym, ap, subst, ◌∙◌}
use Rattle.dex_world.proofs.Common.{Address, PlainAccount, PlainAccounts, PlainMarketAccounts, PlainRow, Row, get_or-map, is_same, is_same-true, length-map, row_of, row_wallets}
use Rattle.std.specs.List.{AllZip, position, position_from}
use Rattle.std.proofs.lemmas.Iterator.Adapters.{position_from-zero}
use Rattle.std.proofs.lemmas.List.Quantifiers.{position-Some}
use Rattle.std.proofs.lemmas.Slice.Zip.{AllZip-long, all_zipped_more}
use Rattle.dex_world.specs.declared.places.RowPlaces.{RowPlaces}
use Rattle.dex_world.specs.Places.{AreWalletsAt, IsIndexOf, place_at}
use Rattle.dex_world.proofs.MappedLists.{zip-at}
use Rattle.dex_script_types.specs.PlainScript.{PlainScript}
use Rattle.dex_script_types.specs.Places.{AreBeside, ArePlaced, IsBeside, IsMarked, IsPlace, IsPlaced, IsRolePlaced, market_addresses, market_place, wallet_addresses, wallet_place}
use Rattle.dex_script_types.proofs.FoundLaws.{found-at, role-marked}

-- each row has places
pub placed-long : (start : PlainAccounts) (rows : List PlainRow) (places : List RowPlaces) → ArePlaced start rows places
    → length places ≡ length rows
placed-long start rows places are = AllZip-long (IsPlaced start) rows places are

-- what holds of each row and what stands beside it holds at one index
pub row-at : (R : PlainRow → RowPlaces → Type 0) (rows : List Row) (places : List RowPlaces) → AllZip R (map row_of rows) places
    → (index : ℕ) (row : Row) (at : RowPlaces) → index < length rows → R (row_of (get_or rows index row)) (get_or places index at)
row-at R rows places are index row at within =
    subst (λ (one : PlainRow). R one (get_or places index at)) (get_or-map row_of rows index row (row_of row) within)
    (zip-at R (map row_of rows) places index (row_of row) at are (omega (arith, within, length-map rows row_of)))

-- what stands beside no row
abbrev pub nowhere : RowPlaces
nowhere = record { number = 0; lane = 0; market = 0; wallets = record { places = []; coin = 0; pc = 0; discount = 0; referrer = 0 } }

-- one row more, with its places
pub placed-push : (start : PlainAccounts) (rows : List PlainRow) (places : List RowPlaces) (row : PlainRow) (at : RowPlaces)
    → ArePlaced start rows places → IsPlaced start row at → ArePlaced start (rows ++ row ∷ []) (places ++ at ∷ [])
placed-push start rows places row at are is = all_zipped_more (IsPlaced start) rows places row at are is

-- and with what stands beside it
pub beside-push : (rows : List PlainRow) (places : List RowPlaces) (row : PlainRow) (at : RowPlaces)
    → AreBeside rows places → IsBeside row at → AreBeside (rows ++ row ∷ []) (places ++ at ∷ [])
beside-push rows places row at are is = all_zipped_more IsBeside rows places row at are is

-- ---- the places of a row's roles

-- the wallet of a role that has an index stands where this tells
pub role-placed : (start : PlainAccounts) (row : PlainRow) (at : RowPlaces) → IsPlaced start row at → (role : Option Address) (index : ℕ)
    → IsIndexOf (row_wallets row) role index → IsRolePlaced start.wallets role (place_at at.wallets index)
role-placed start row at is None index of = tt
role-placed start row at is (Some address) index of =
    found-at (λ (wallet : Address). wallet_place wallet start.wallets) (row_wallets row) at.wallets.places index address is.wallets.places of

-- what stands beside a row whose wallets stand somewhere
pub stands-beside : (place_of : Address → Option ℕ) (row : PlainRow) (at : RowPlaces)
    → AreWalletsAt place_of row.coin row.pc row.discount row.referrer at.wallets
    → at.number ≡ row.number → at.lane ≡ row.lane → IsBeside row at
stands-beside place_of row at is number lane =
    let marked : (role : Option Address) (index : ℕ) → IsIndexOf (row_wallets row) role index
    → IsMarked role (place_at at.wallets index) = λ role index of.
    role-marked place_of row.coin row.pc row.discount row.referrer role at.wallets.places index is.places of in
    record {
      number = number;
      lane = lane;
      coin = marked row.coin at.wallets.coin is.of_coin;
      pc = marked row.pc at.wallets.pc is.of_pc;
      discount = marked row.discount at.wallets.discount is.of_discount;
      referrer = marked row.referrer at.wallets.referrer is.of_referrer;
    }

-- ---- places among addresses

module _ {A : Type 0} (key : A → Address) (address : Address) where
  from-map : (i : ℕ) (xs : List A) → position_from (is_same address) i (map key xs) ≡ position_from (λ x. is_same address (key x)) i xs
  from-map i [] = refl
  from-map i (x ∷ xs) = ap (λ (found : Option ℕ). cond (is_same address (key x)) (Some i) found) (from-map (i + 1) xs)

  pub position-map : (xs : List A) → position (is_same address) (map key xs) ≡ position (λ x. is_same address (key x)) xs
  position-map xs = position_from-zero (is_same address) (map key xs) ∙ from-map 0 xs ∙ sym (position_from-zero (λ x. is_same address (key x)) xs)

  placed : (xs : List A) (place : ℕ) → position (λ x. is_same address (key x)) xs ≡ Some place → IsPlace address (map key xs) place
  placed xs place is =
      let at = λ (d : Address). position-Some (is_same address) (map key xs) place d (position-map xs ∙ is) in
      record { within = (at address).0; here = λ default. sym (is_same-true address _ (at default).1) }

  within : (xs : List A) (place : ℕ) → position (λ x. is_same address (key x)) xs ≡ Some place → place < length xs
  within xs place is = subst (λ (n : ℕ). place < n) (length-map xs key) (placed xs place is).within

  here : (xs : List A) (place : ℕ) (default : A) → position (λ x. is_same address (key x)) xs ≡ Some place → key (get_or xs place default) ≡ address
  here xs place default is = sym (is_same-true address _ (position-Some (λ x. is_same address (key x)) xs place default is).1)

pub market-placed : (script : PlainScript) (address : Address) (place : ℕ) → market_place address script.start.markets ≡ Some place
    → IsPlace address (market_addresses script) place
market-placed script address place is = placed (λ (accounts : PlainMarketAccounts). accounts.address) address script.start.markets place is

pub wallet-placed : (script : PlainScript) (address : Address) (place : ℕ) → wallet_place address script.start.wallets ≡ Some place
    → IsPlace address (wallet_addresses script) place
wallet-placed script address place is = placed (λ (account : PlainAccount). account.address) address script.start.wallets place is

-- a market stands at its place, and a wallet
pub market-within : (address : Address) (markets : List PlainMarketAccounts) (place : ℕ) → market_place address markets ≡ Some place → place < length markets
market-within = within (λ (accounts : PlainMarketAccounts). accounts.address)

pub wallet-within : (address : Address) (wallets : List PlainAccount) (place : ℕ) → wallet_place address wallets ≡ Some place → place < length wallets
wallet-within = within (λ (account : PlainAccount). account.address)

pub market-here : (address : Address) (markets : List PlainMarketAccounts) (place : ℕ) (default : PlainMarketAccounts)
    → market_place address markets ≡ Some place → (get_or markets place default).address ≡ address
market-here = here (λ (accounts : PlainMarketAccounts). accounts.address)

pub wallet-here : (address : Address) (wallets : List PlainAccount) (place : ℕ) (default : PlainAccount)
    → wallet_place address wallets ≡ Some place → (get_or wallets place default).address ≡ address
wallet-here = here (λ (account : PlainAccount). account.address)

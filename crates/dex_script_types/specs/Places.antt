-- Where the markets and the wallets of rows stand among those with which a script starts.
use Rattle.std.specs.Prelude.{◌≡◌, ◌<◌, ℕ, List, Option, Some, None, length, map, slice_index_or}
use Rattle.std.specs.List.{AllZip, position}
use Rattle.dex_types.specs.declared.addresses.Address.{Address}
use Rattle.dex_world.specs.declared.places.RowPlaces.{RowPlaces}
use Rattle.dex_types.specs.Accounts.{PlainAccount, PlainAccounts, PlainMarketAccounts}
use Rattle.dex_types.specs.Addresses.{is_same}
use Rattle.dex_types.specs.Rows.{PlainRow}
use Rattle.dex_world.specs.Groups.{grouped}
use Rattle.dex_world.specs.Places.{AreWalletsAt, coin_at, discount_at, pc_at, referrer_at}
use Rattle.dex_script_types.specs.PlainScript.{PlainScript}

-- the place of the first market of an address
abbrev pub market_place : Address → List PlainMarketAccounts → Option ℕ
market_place address markets = position (λ (market : PlainMarketAccounts). is_same address market.address) markets

-- the place of the first wallet of an address
abbrev pub wallet_place : Address → List PlainAccount → Option ℕ
wallet_place address wallets = position (λ (wallet : PlainAccount). is_same address wallet.address) wallets

-- the wallet of a role stands at this place; of a role that names none the place says nothing
abbrev pub IsRolePlaced : List PlainAccount → Option Address → ℕ → Type 0
IsRolePlaced wallets None place = Unit {0}
IsRolePlaced wallets (Some address) place = wallet_place address wallets ≡ Some place

-- the market and the wallets of a row stand at these places
pub record IsPlaced (start : PlainAccounts) (row : PlainRow) (places : RowPlaces) : Type 0 where
  pub market : market_place row.market start.markets ≡ Some places.market
  pub wallets :
      AreWalletsAt (λ (address : Address). wallet_place address start.wallets)
      row.coin row.pc row.discount row.referrer places.wallets

-- each row has its places beside it
abbrev pub ArePlaced : PlainAccounts → List PlainRow → List RowPlaces → Type 0
ArePlaced start rows places = AllZip (IsPlaced start) rows places

-- a role that names no wallet is marked by the highest number of 16 bits
abbrev pub IsMarked : Option Address → ℕ → Type 0
IsMarked None place = place ≡ 65535
IsMarked (Some address) place = Unit {0}

-- beside the row stand its number and its lane, and each role that names no wallet is marked
pub record IsBeside (row : PlainRow) (at : RowPlaces) : Type 0 where
  pub number : at.number ≡ row.number
  pub lane : at.lane ≡ row.lane
  pub coin : IsMarked row.coin (coin_at at)
  pub pc : IsMarked row.pc (pc_at at)
  pub discount : IsMarked row.discount (discount_at at)
  pub referrer : IsMarked row.referrer (referrer_at at)

-- this stands beside each row
abbrev pub AreBeside : List PlainRow → List RowPlaces → Type 0
AreBeside rows places = AllZip IsBeside rows places

-- how many items rows with this beside them are: neighbours of one number are one
abbrev pub items_at : List RowPlaces → ℕ
items_at places = length (grouped (λ (at : RowPlaces). at.number) places)

-- the addresses of a script's markets, in declared order
abbrev pub market_addresses : PlainScript → List Address
market_addresses script = map (λ (accounts : PlainMarketAccounts). accounts.address) script.start.markets

-- the addresses of a script's wallets, in declared order
abbrev pub wallet_addresses : PlainScript → List Address
wallet_addresses script = map (λ (account : PlainAccount). account.address) script.start.wallets

-- the address stands at this place
pub record IsPlace (address : Address) (addresses : List Address) (place : ℕ) : Type 0 where
  pub within : place < length addresses
  pub here : (default : Address) → slice_index_or addresses place default ≡ address

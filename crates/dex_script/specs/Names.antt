-- The places of markets and wallets, kept for look-ups.
use Rattle.std.specs.Prelude.{◌≡◌, ◌&&◌, ℕ, ◌≤◌, Bool, false, List, [], Option, Some, None, is_some, length}
use Rattle.std.specs.HashMap as hash
use Rattle.std.specs.List.{position}
use Rattle.dex_types.specs.declared.addresses.Address.{Address}
use Rattle.dex_world.specs.declared.places.RowPlaces.{RowPlaces}
use Rattle.dex_types.specs.Accounts.{PlainAccounts, PlainMarketAccounts}
use Rattle.dex_types.specs.Addresses.{is_same}
use Rattle.dex_statement.specs.Stated.{PlainParties}
use Rattle.dex_types.specs.declared.limits.Limits.{Limits}
use Rattle.dex_types.specs.Limits.{AreLimits}
use Rattle.dex_world.specs.Places.{AreWalletsAt}
use Rattle.dex_script_types.specs.Found.{are_found}
use Rattle.dex_script_types.specs.Places.{AreBeside, ArePlaced, market_place, wallet_place}
use Rattle.dex_script.specs.declared.names.Names.{Names}
use Rattle.dex_script.specs.declared.names.Stand.{Stand}
use Rattle.dex_script.specs.Drafts.{PlainDraft}

-- they are those of these accounts
pub record AreNames (names : Names) (start : PlainAccounts) : Type 0 where
  pub markets : (address : Address) → hash.get is_same names.markets address ≡ market_place address start.markets
  pub wallets : (address : Address) → hash.get is_same names.wallets address ≡ wallet_place address start.wallets

-- the address of a market
abbrev pub market_address : PlainMarketAccounts → Address
market_address accounts = accounts.address

-- they are those of markets and wallets at these addresses
pub record AreAt (names : Names) (of_markets of_wallets : List Address) : Type 0 where
  pub markets : (address : Address) → hash.get is_same names.markets address ≡ position (is_same address) of_markets
  pub wallets : (address : Address) → hash.get is_same names.wallets address ≡ position (is_same address) of_wallets

-- the market and the wallets that an instruction row names stand there, as whoever finds them by their addresses says
pub record StandBy (market_of wallet_of : Address → Option ℕ) (parties : PlainParties) (places : Stand) : Type 0 where
  pub market : market_of parties.market ≡ Some places.market
  pub wallets : AreWalletsAt wallet_of parties.coin parties.pc parties.discount parties.referrer places.wallets

-- all of them are found
abbrev pub are_here : (Address → Option ℕ) → (Address → Option ℕ) → PlainParties → Bool
are_here market wallet parties =
    is_some (market parties.market) && are_found wallet parties.coin parties.pc parties.discount parties.referrer

-- where they stand, if all are found
abbrev pub FindsBy : (Address → Option ℕ) → (Address → Option ℕ) → PlainParties → Option Stand → Type 0
FindsBy market wallet parties None = are_here market wallet parties ≡ false
FindsBy market wallet parties (Some places) = StandBy market wallet parties places

-- by the names
abbrev pub FindsIn : Names → PlainParties → Option Stand → Type 0
FindsIn names parties found = FindsBy (hash.get is_same names.markets) (hash.get is_same names.wallets) parties found

-- where a market and a wallet stand among the accounts
abbrev pub market_among : PlainAccounts → Address → Option ℕ
market_among start address = market_place address start.markets

abbrev pub wallet_among : PlainAccounts → Address → Option ℕ
wallet_among start address = wallet_place address start.wallets

-- where the market and the wallets that an instruction row names stand among the accounts, if all do
abbrev pub FindsAmong : PlainAccounts → PlainParties → Option Stand → Type 0
FindsAmong start parties found = FindsBy (market_among start) (wallet_among start) parties found

-- they stand at these places
abbrev pub StandAt : PlainAccounts → PlainParties → Stand → Type 0
StandAt start parties places = StandBy (market_among start) (wallet_among start) parties places

-- so few that a place is a number of 16 bits
pub record AreFew (limits : Limits) (start : PlainAccounts) : Type 0 where
  pub within : AreLimits limits
  pub markets : length start.markets ≤ limits.markets
  pub wallets : length start.wallets ≤ limits.wallets

-- what a reader knows: each row has its places, its number and its lane beside it, and none was read where setup rows
-- do not come too late
pub record IsReading (draft : PlainDraft) (places : List RowPlaces) : Type 0 where
  pub placed : ArePlaced draft.script.start draft.script.rows places
  pub beside : AreBeside draft.script.rows places
  pub quiet : draft.is_late ≡ false → draft.script.rows ≡ []
  pub few : AreFew draft.script.limits draft.script.start

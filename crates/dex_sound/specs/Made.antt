-- Markets as they are made.
use Rattle.std.specs.Prelude.{◌≡◌, ◌≤◌, false, List, [], map}
use Rattle.dex_types.specs.declared.addresses.Address.{Address}
use Rattle.dex_types.specs.Addresses.{is_same}
use Rattle.dex_types.specs.Market.{Market, Listing}
use Rattle.dex_types.specs.Soundness.{AreDistinct}
use Rattle.dex_types.specs.Trader.{Trader, Blank, Traders}

-- an account that is not open yet, at an address
abbrev pub blank_at : Address → Address × Trader
blank_at address = (address, Blank)

-- accounts that are not open yet
abbrev pub blanks : List Address → Traders
blanks addresses = map blank_at addresses

-- a market as it is made: an empty book, empty vaults, and accounts that are not open yet
abbrev pub made_market : Listing → List Address → Market
made_market listing addresses = record {
  listing = listing;
  bids = [];
  asks = [];
  events = [];
  traders = blanks addresses;
  coin_vault = 0;
  pc_vault = 0;
  coin_fees = 0;
  pc_fees = 0;
  referrer_rebates = 0;
  next_sequence = 0;
  events_appended = 0;
  is_disabled = false;
}

-- a market can be made: it has two mints, lot sizes and capacities are not 0, and no account is named twice
pub record CanMake (listing : Listing) (addresses : List Address) : Type 0 where
  pub mints : is_same listing.coin_mint listing.pc_mint ≡ false
  pub coin_lot : 1 ≤ listing.sizes.coin
  pub pc_lot : 1 ≤ listing.sizes.pc
  pub bids : 1 ≤ listing.bid_capacity
  pub asks : 1 ≤ listing.ask_capacity
  pub distinct : AreDistinct (blanks addresses)

-- Which market's side the bytes of an account stand for.
use Rattle.std.specs.Prelude.{◌≡◌, ℕ, List}
use Rattle.dex_fields.specs.declared.slab.TheConstants.{ACCOUNT_FLAGS}
use Rattle.dex_fields.specs.Bytes.{number_in}
use Rattle.dex_fields.specs.Frame.{IsFramed}
use Rattle.dex_types.specs.declared.terms.Side.{Side}
use Rattle.dex_types.specs.Market.{Market, capacity, orders}
use Rattle.dex_slab.specs.Blank.{side_flags}
use Rattle.dex_slab.specs.Slab.{IsSlab, resting, room_in}

-- the bytes are an account of this side: a slab, between the texts that every account begins and ends with, whose flags
-- are Initialized and Bids, or Initialized and Asks
pub record IsSideAccount (side : Side) (bytes : List ℕ) : Type 0 where
  pub slab : IsSlab bytes
  pub framed : IsFramed bytes
  pub flags : number_in bytes ACCOUNT_FLAGS ≡ side_flags side

-- the bytes are this side of this market: an account of the side whose leaves are its orders, with room for as many as
-- it can hold
pub record StandsForSide (bytes : List ℕ) (side : Side) (market : Market) : Type 0 where
  pub accepted : IsSideAccount side bytes
  pub orders : resting side bytes ≡ orders side market
  pub room : room_in bytes ≡ capacity side market

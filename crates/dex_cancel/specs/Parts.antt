-- What a cancel is handed of a market's parts, and what it leaves of them.
use Rattle.std.specs.Prelude.{◌≡◌, List}
use Rattle.dex_types.specs.declared.addresses.Address.{Address}
use Rattle.dex_types.specs.declared.terms.Side.TheVariants.{Bid, Ask}
use Rattle.dex_types.specs.Cancel.{CancelBy, RestingOrder, cancelled}
use Rattle.dex_market.specs.MarketAccount.{market_words, sizes_of}
use Rattle.dex_accounts.specs.Parts.{AreSoundParts, MarketParts}
use Rattle.dex_ring.specs.Appended.{pushed_all}
use Rattle.dex_cancel.specs.TakenOff.{CancelGiven, outs_of, without_all}

-- what a cancel is handed of a market's parts
abbrev pub cancel_given : MarketParts → CancelGiven
cancel_given parts = record { sizes = sizes_of (market_words parts.market); bids = parts.bids; asks = parts.asks; queue = parts.events }

-- a market's parts with the sides and the queue that a cancel left
abbrev pub with_cancelled : CancelGiven → MarketParts → MarketParts
with_cancelled given parts = record parts { bids = given.bids; asks = given.asks; events = given.queue }

-- what was handed is of one sound market
pub record AreOfSoundMarket (given : CancelGiven) : Type 0 where
  pub whole : MarketParts
  pub sound : AreSoundParts whole
  pub given_is : cancel_given whole ≡ given

-- the orders that a cancel names, of what was handed
abbrev pub named_in : CancelBy → Address → CancelGiven → List RestingOrder
named_in by owner given = cancelled by owner given.bids given.asks

-- what is left where orders leave: the sides without them, and the queue with an out of each after its events
abbrev pub left_by : List RestingOrder → CancelGiven → CancelGiven
left_by gone given = record given {
  bids = without_all Bid gone given.bids;
  asks = without_all Ask gone given.asks;
  queue = pushed_all (outs_of given.sizes gone) given.queue;
}

-- Which bids and asks of a market cross.
use Rattle.std.specs.Prelude.{ℕ, ◌≡◌, ◌<◌, ◌⊎◌, true, List, is_some}
use Rattle.std.specs.List.{All}
use Rattle.dex_types.specs.declared.orders.Order.{Order}
use Rattle.dex_types.specs.Cancel.{order_with}
use Rattle.dex_types.specs.Market.{Market}
use Rattle.dex_types.specs.Side.{price_of}
use Rattle.dex_laws.specs.Book.{IsUncrossed}

-- no bid of the market crosses an ask
abbrev pub NoneCrosses : Market → Type 0
NoneCrosses m = IsUncrossed m.bids m.asks

-- one of these orders has the id
abbrev pub IsAmong : ℕ → List Order → Type 0
IsAmong id orders = is_some (order_with id orders) ≡ true

-- wherever a bid crosses an ask now, both rested before
abbrev pub NoneNewCrosses : Market → Market → Type 0
NoneNewCrosses before now =
    All (λ (bid : Order). All (λ (ask : Order).
    (price_of bid.id < price_of ask.id) ⊎ (IsAmong bid.id before.bids × IsAmong ask.id before.asks)) now.asks) now.bids

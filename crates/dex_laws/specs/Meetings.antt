-- A fact about every meeting with the opposite side.
use Rattle.std.specs.Prelude.{List}
use Rattle.dex_types.specs.declared.orders.Order.{Order}
use Rattle.dex_types.specs.declared.terms.Side.{Side}
use Rattle.dex_types.specs.Meeting.{TakerTerms, Demand, Meeting, meet}

-- the fact holds of every meeting: of the taker's side, what it keeps to, what it wants, the opposite orders, and what
-- came of meeting them
abbrev pub EachMeeting : (Side → TakerTerms → Demand → List Order → Meeting → Type 0) → Type 0
EachMeeting Fact = (side : Side) (t : TakerTerms) (w : Demand) (orders : List Order) → Fact side t w orders (meet side t w orders)

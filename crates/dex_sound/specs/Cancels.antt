-- What a cancel may take from the book.
use Rattle.std.specs.Prelude.{◌≡◌, Some, List, [], ◌∷◌, true, false}
use Rattle.std.specs.List.{All}
use Rattle.dex_types.specs.declared.addresses.Address.{Address}
use Rattle.dex_types.specs.Addresses.{is_same}
use Rattle.dex_types.specs.Cancel.{RestingOrder, is_same_order, order_with}
use Rattle.dex_types.specs.Market.{Market, orders}

-- the order rests in the market
abbrev pub Rests : RestingOrder → Market → Type 0
Rests gone m = order_with gone.order.id (orders gone.side m) ≡ Some gone.order

-- no two of these are one order
abbrev pub AreApart : List RestingOrder → Type 0
AreApart [] = Unit {0}
AreApart (first ∷ others) = All (λ (other : RestingOrder). is_same_order first other ≡ false) others × AreApart others

-- these are orders of an owner that rest in the market, each once
pub record AreOwnResting (owner : Address) (m : Market) (gone : List RestingOrder) : Type 0 where
  pub resting : All (λ (order : RestingOrder). Rests order m) gone
  pub own : All (λ (order : RestingOrder). is_same owner order.order.owner ≡ true) gone
  pub apart : AreApart gone

-- The order that comes first of those that an owner has on a side.
use Rattle.std.specs.Prelude.{◌≡◌, ℕ, Bool, true, false, ◌&&◌, List, Option, Some, None, IfSome, if◌then◌else◌}
use Rattle.std.specs.List.{All}
use Rattle.std.specs.Option.{option_or}
use Rattle.dex_types.specs.declared.addresses.Address.{Address}
use Rattle.dex_types.specs.declared.orders.Order.{Order}
use Rattle.dex_types.specs.declared.terms.Side.{Side}
use Rattle.dex_types.specs.Addresses.{is_same}
use Rattle.dex_types.specs.Cancel.{order_with}
use Rattle.dex_types.specs.Side.{precedes}

-- the id stands after a last one, where there is one
abbrev pub is_behind : Side → Option ℕ → ℕ → Bool
is_behind side None id = true
is_behind side (Some last) id = precedes side last id

-- the id stands before an order, where there is one
abbrev pub is_ahead : Side → ℕ → Option Order → Bool
is_ahead side id None = true
is_ahead side id (Some first) = precedes side id first.id

-- the order of an id, where it rests after a last id and before a first order; else the first order
abbrev pub earlier : Side → Option ℕ → List Order → Option Order → ℕ → Option Order
earlier side last orders first id =
    if is_behind side last id && is_ahead side id first then option_or (order_with id orders) first else first

-- an order stands after a last id, if it is the owner's
abbrev pub StandsBehind : Address → Side → Option ℕ → Order → Type 0
StandsBehind owner side last order = is_same owner order.owner ≡ true → is_behind side last order.id ≡ true

-- an order stands not before the first one, if it is the owner's
abbrev pub StandsNotAhead : Address → Side → Option Order → Order → Type 0
StandsNotAhead owner side first order = is_same owner order.owner ≡ true → is_ahead side order.id first ≡ false

-- an order rests among these, and is the owner's
pub record RestsOwn (owner : Address) (orders : List Order) (order : Order) : Type 0 where
  pub rests : order_with order.id orders ≡ Some order
  pub own : is_same owner order.owner ≡ true

-- an order of the owner, if one rests here, before which none of the owner's stands
pub record IsFirstOwn (owner : Address) (side : Side) (first : Option Order) (orders : List Order) : Type 0 where
  pub rests : IfSome first (RestsOwn owner orders)
  pub ahead : All (StandsNotAhead owner side first) orders

-- The place of an id on a side.
use Rattle.std.specs.Prelude.{ℕ, ◌≡◌, ◌==◌, ◌+◌, ◌<◌, List, Option, Some, None, if◌then◌else◌, length, remove, slice_set, slice_get, slice_index_or}
use Rattle.dex_types.specs.declared.orders.Order.{Order}
use Rattle.dex_types.specs.BookSide.{order_after, with_lots}
use Rattle.dex_types.specs.Cancel.{order_with, without_order}

-- the order of the id stands at this place of the orders, and the calls on it change and read the orders there
pub record IsPlace (id : ℕ) (orders : List Order) (place : ℕ) : Type 0 where
  pub within : place < length orders
  pub order : (d : Order) → order_with id orders ≡ Some (slice_index_or orders place d)
  pub next : order_after id orders ≡ slice_get orders (place + 1)
  pub without : without_order id orders ≡ remove orders place
  pub with : (lots : ℕ) (d : Order) → with_lots id lots orders ≡ slice_set orders place (record (slice_index_or orders place d) { lots = lots })

-- an order that may be there, if it has this id
abbrev pub with_id : ℕ → Option Order → Option Order
with_id id None = None
with_id id (Some order) = if order.id == id then Some order else None

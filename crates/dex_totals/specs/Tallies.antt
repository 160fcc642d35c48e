-- How often numbers were counted: ids of resting orders, and final outs of orders.
use Rattle.std.specs.Prelude.{◌≡◌, ℕ, List}
use Rattle.std.specs.BTreeMap.{BTreeMap}
use Rattle.std.specs.BTreeMap as tree
use Rattle.std.specs.Option.{unwrap_or}
use Rattle.std.specs.Ordering.{nat_cmp}
use Rattle.dex_types.specs.declared.orders.Order.{Order}
use Rattle.dex_types.specs.declared.terms.Side.{Side}
use Rattle.dex_types.specs.QueuedEvent.{QueuedEvent}
use Rattle.dex_types.specs.Side.{by_side}
use Rattle.dex_types.specs.Soundness.{counts_order, finals_of}
use Rattle.dex_types.specs.Totals.{total}
use Rattle.dex_types.specs.Trader.{Holding}
use Rattle.dex_totals.specs.declared.counts.Counts.{Counts}

-- how often a number was counted
abbrev pub times : BTreeMap ℕ ℕ → ℕ → ℕ
times tally number = unwrap_or (tree.get nat_cmp tally number) 0

-- how often an order was counted
abbrev pub times_of : Counts → Holding → ℕ
times_of counts held = times (by_side held.side counts.bids counts.asks) held.id

-- the final outs of just these events were counted
abbrev pub AreFinals : Counts → List QueuedEvent → Type 0
AreFinals finals events = (held : Holding) → times_of finals held ≡ finals_of held events

-- the ids of just these orders of a side were counted
abbrev pub AreIds : BTreeMap ℕ ℕ → List Order → Type 0
AreIds ids orders = (side : Side) (id client : ℕ) → times ids id ≡ total (counts_order side (record { id = id; side = side; client = client })) orders

-- just these resting orders were counted
abbrev pub AreResting : Counts → List Order → List Order → Type 0
AreResting resting bids asks = (held : Holding) → times_of resting held ≡ total (counts_order held.side held) (by_side held.side bids asks)

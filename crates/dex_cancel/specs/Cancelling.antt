-- What a cancel asks for, and its answer.
use Rattle.std.specs.Prelude.{ℕ, List, Result, length, take}
use Rattle.dex_types.specs.declared.addresses.Address.{Address}
use Rattle.dex_types.specs.declared.orders.Order.{Order}
use Rattle.dex_types.specs.declared.refusals.Refusal.{Refusal}
use Rattle.dex_types.specs.Cancel as cancel
use Rattle.dex_types.specs.Cancel.{CancelBy, cancelled}
use Rattle.dex_types.specs.Reasons.{answered}
use Rattle.dex_types.specs.Why.{why_cancelling}
use Rattle.dex_cancel.specs.declared.what.CancelWhat.{CancelWhat}
use Rattle.dex_cancel.specs.declared.what.CancelWhat.TheVariants as what

-- how a cancel names orders
abbrev pub named_by : CancelWhat → CancelBy
named_by (what.ById side id) = cancel.ById side id
named_by (what.ByClient client) = cancel.ByClient client
named_by (what.ByClients ids) = cancel.ByClients (take ids.count ids.ids)
named_by (what.Prune limit) = cancel.First limit

-- what a cancel is answered: why it is refused, else how many orders it takes
abbrev pub decided : CancelBy → Address → List Order → List Order → ℕ → Result ℕ Refusal
decided by owner bids asks room = answered (why_cancelling by owner bids asks room) (length (cancelled by owner bids asks))

-- The account that a row names first, and its new order.
use Rattle.std.specs.Prelude.{Option, Some, None}
use Rattle.dex_types.specs.declared.addresses.Address.{Address}
use Rattle.dex_types.specs.NewOrder.{NewOrder}
use Rattle.dex_eager.specs.Eager.{Eager, EagerStep, unchanged}
use Rattle.dex_match.specs.declared.order_terms.Taker.{Taker}
use Rattle.dex_match.specs.OrderTerms.{order_of}

-- the order that a taker states, for this account
abbrev pub order_for : Address → Taker → NewOrder
order_for owner taker = record (order_of taker) { owner = owner }

-- what an account does, if there is one
abbrev pub acted : (Address → EagerStep) → Eager → Option Address → EagerStep
acted act e None = unchanged e
acted act e (Some owner) = act owner

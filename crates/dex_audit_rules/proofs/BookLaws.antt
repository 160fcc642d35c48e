-- the book of a market's accepted accounts
use Rattle.std.proofs.Common.{◌≡◌, ℕ, ◌<◌, ◌^◌, List, length, map, refl, subst, arith}
use Rattle.std.proofs.lemmas.List.{get_or-map, length-map}
use Rattle.std.specs.List.{All}
use Rattle.dex_types.specs.declared.account_bytes.OrdersAccount.{OrdersAccount}
use Rattle.dex_types.specs.declared.terms.Lots.{Lots}
use Rattle.dex_types.specs.declared.terms.Side.{Side}
use Rattle.dex_types.specs.Accounts.{PlainAccount, orders_account_of}
use Rattle.dex_orders.specs.OrdersAccount.{IsOrders}
use Rattle.dex_ring.specs.Ring.{IsEventQueue, ring_of}
use Rattle.dex_ring.proofs.RingLaw.{capacity_of-le, length-events_of}
use Rattle.dex_slab.specs.Slab.{IsSlab, resting}
use Rattle.dex_slab.specs.SlabSide.{slab_side}
use Rattle.dex_totals.specs.Reading.{AreOrders}

pub orders-accepted : (accounts : List OrdersAccount) → All (λ (account : PlainAccount). IsOrders account.bytes) (map orders_account_of accounts) → AreOrders accounts
orders-accepted accounts all k d lt =
    subst (λ (account : PlainAccount). IsOrders account.bytes) (get_or-map orders_account_of accounts k d (orders_account_of d) lt)
    (all k (orders_account_of d) (omega (arith, length-map accounts orders_account_of)))

pub side-few : (side : Side) (bytes : List ℕ) → IsSlab bytes → length (resting side bytes) < 2 ^ 32
side-few side bytes slab =
    let within = (slab_side side bytes slab).within in
    let few = slab.size.few in
    omega arith

pub events-few : (bytes : List ℕ) → IsEventQueue bytes → length (ring_of bytes).events < 2 ^ 32
events-few bytes queue =
    let count = queue.count in
    omega (arith, length-events_of bytes, capacity_of-le bytes queue.most)

pub sizes-by : (sizes : Lots) (coin pc : ℕ) → coin ≡ sizes.coin → pc ≡ sizes.pc → (let made : Lots = record { coin = coin; pc = pc } in made) ≡ sizes
sizes-by sizes coin pc c p = rw (c, p) refl

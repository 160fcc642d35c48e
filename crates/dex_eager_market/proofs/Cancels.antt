-- Cancels: what is taken off, by how the orders are named.
use Rattle.std.proofs.Common.{ℕ, zero, suc, ◌≡◌, eqb, Bool, true, false, not, List, [], ◌∷◌, ◌++◌, length, take, Option, Some, None, is_some, refl, sym, ap, ◌∙◌, if◌then◌else◌, slice_get}
use Rattle.dex_types.specs.declared.addresses.Address.{Address}
use Rattle.dex_types.specs.declared.orders.Order.{Order}
use Rattle.dex_types.specs.declared.refusals.Refusal.TheVariants as refusal
use Rattle.dex_types.specs.declared.terms.Side.{Side}
use Rattle.dex_types.specs.Addresses.{is_same}
use Rattle.dex_types.specs.Cancel.{RestingOrder, ById, ByClient, all_orders_of, at_most_one, on_side, oldest, order_with, taken_by, taken_by_all, without_taken}
use Rattle.dex_types.specs.Reasons.{first_of, no_order, not_resting, not_yours}
use Rattle.dex_types.specs.Side.{by_side, opposite}
use Rattle.dex_eager.specs.Eager.{Eager, eager_cancel, orders_on, unchanged, without_all}
use Rattle.dex_eager_market.specs.Listing.{own_resting}

-- by side and id: an order of the account, or nothing
pub id-taken : (owner : Address) (side : Side) (id : ℕ) (e : Eager)
    → (eager_cancel (ById side id) e owner).market ≡ without_all (at_most_one (own_resting owner side (order_with id (orders_on side e)))) e
id-taken owner side id e = by (order_with id (orders_on side e)) (order_with id (by_side (opposite side) e.bids e.asks))
  where
    yours : (order : Order) (own : Bool)
        → (if is_some (first_of (None ∷ (if not own then Some (refusal.OrderNotYours order.owner) else None) ∷ [])) then unchanged e
        else record { market = without_all (on_side side (Some order)) e; fills = [] }).market
        ≡ without_all (at_most_one (if own then Some (record { side = side; order = order }) else None)) e
    yours order true = refl
    yours order false = refl

    by : (found other : Option Order)
        → (if is_some (first_of (not_resting found other ∷ not_yours owner found ∷ [])) then unchanged e else record { market = without_all (on_side side found) e; fills = [] }).market
        ≡ without_all (at_most_one (own_resting owner side found)) e
    by None None = refl
    by None (Some other) = refl
    by (Some order) other = yours order (is_same owner order.owner)

-- by a client id: the oldest order of the account that has it, or nothing
pub client-taken : (owner : Address) (client : ℕ) (e : Eager)
    → (eager_cancel (ByClient client) e owner).market ≡ without_all (at_most_one (taken_by client (all_orders_of owner e.bids e.asks))) e
client-taken owner client e = by (eqb client 0) (oldest client (all_orders_of owner e.bids e.asks))
  where
    by : (zero : Bool) (found : Option RestingOrder)
        → (if is_some (first_of ((if zero then Some refusal.ClientIdZero else None) ∷ no_order (length (at_most_one found)) ∷ [])) then unchanged e
        else record { market = without_all (at_most_one found) e; fills = [] }).market
        ≡ without_all (at_most_one (if zero then None else found)) e
    by true None = refl
    by true (Some gone) = refl
    by false None = refl
    by false (Some gone) = refl

-- one order after the other
pub all-append : (gone later : List RestingOrder) (e : Eager) → without_all (gone ++ later) e ≡ without_all later (without_all gone e)
all-append [] later e = refl
all-append (first ∷ gone) later e = all-append gone later _

-- of the first orders, one more
pub all-next : (all : List RestingOrder) (place : ℕ) (e : Eager) → without_all (at_most_one (slice_get all place)) (without_all (take place all) e) ≡ without_all (take (suc place) all) e
all-next [] zero e = refl
all-next [] (suc place) e = refl
all-next (first ∷ all) zero e = refl
all-next (first ∷ all) (suc place) e = all-next all place _

-- of a list of client ids, the next one
pub ids-next : (client : ℕ) (clients : List ℕ) (gone : Option RestingOrder) (listed left : List RestingOrder) (e after : Eager) → gone ≡ taken_by client listed
    → left ≡ without_taken gone listed → after ≡ without_all (at_most_one gone) e
    → without_all (taken_by_all clients left) after ≡ without_all (taken_by_all (client ∷ clients) listed) e
ids-next client clients gone listed left e after taken is off =
    ap (λ (m : Eager). without_all (taken_by_all clients left) m) off
    ∙ ap (λ (l : List RestingOrder). without_all (taken_by_all clients l) (without_all (at_most_one gone) e)) is
    ∙ sym (all-append (at_most_one gone) (taken_by_all clients (without_taken gone listed)) e)
    ∙ ap (λ (g : Option RestingOrder). without_all (at_most_one g ++ taken_by_all clients (without_taken g listed)) e) taken

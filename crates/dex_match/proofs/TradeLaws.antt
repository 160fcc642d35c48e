-- who may have to leave a side for an order, and the events that are appended for one
use Rattle.std.proofs.Common.{◌≡◌, ℕ, ◌^◌, ◌<◌, ◌==◌, ◌++◌, if◌then◌else◌, List, [], ◌∷◌, Option, Some, None, IfSome, sym, ap, ◌∙◌}
use Rattle.std.specs.List.{All}
use Rattle.dex_types.specs.declared.orders.Order.{Order}
use Rattle.dex_types.specs.declared.terms.Lots.{Lots}
use Rattle.dex_types.specs.declared.terms.Side.{Side}
use Rattle.dex_types.specs.BookSide.{CanRest}
use Rattle.dex_types.specs.Owed.{order_lock}
use Rattle.dex_types.specs.Posting.{post}
use Rattle.dex_sound.proofs.OrderSoundPlaces.{All-booted}
use Rattle.dex_fills.specs.declared.event_kinds.EventAmounts.{EventAmounts}
use Rattle.dex_ring.specs.Appended.{pushed_all}
use Rattle.dex_ring.proofs.AppendLaws.{pushed_all-pushed_all}
use Rattle.dex_types.specs.Meeting.{Meeting, event_of}
use Rattle.dex_types.specs.NewOrder.{NewOrder, last_events}
use Rattle.dex_types.specs.QueuedEvent.{QueuedEvent, TakerFill}
use Rattle.dex_match.specs.declared.order_plan.OrderPlan.{OrderPlan}
use Rattle.dex_match.specs.Applying.{CanLeave, events_by, fill_events_by, got_by, order_by, posted_by, spent_by}

-- events that are appended in three steps, of the order and the amounts of a plan
pub traded : (side : Side) (sizes : Lots) (n : NewOrder) (plan : OrderPlan) (met : Meeting) (room : ℕ) (own : List Order) (order : Order) (amounts : EventAmounts) (bytes first second third : List ℕ)
    → order ≡ order_by plan n → amounts ≡ record { released = got_by side sizes plan; paid = spent_by side sizes plan; fee_or_rebate = plan.fee }
    → first ≡ pushed_all met.events bytes
    → second ≡ pushed_all (if plan.pc == 0 then [] else event_of (TakerFill side) order amounts.released amounts.paid amounts.fee_or_rebate ∷ []) first
    → third ≡ pushed_all (last_events side sizes order (post side room order own).booted) second
    → third ≡ pushed_all (events_by side sizes n plan met (posted_by side n plan room own)) bytes
traded side sizes n plan met room own order amounts bytes first second third orders amount a b c =
    let fills : List QueuedEvent = fill_events_by side sizes plan (order_by plan n) in
    let last : List QueuedEvent = last_events side sizes (order_by plan n) (posted_by side n plan room own).booted in
    let b' : second ≡ pushed_all fills first = b
    ∙ ap (λ (o : Order). pushed_all (if plan.pc == 0 then [] else event_of (TakerFill side) o amounts.released amounts.paid amounts.fee_or_rebate ∷ []) first) orders
    ∙ ap (λ (x : EventAmounts). pushed_all (if plan.pc == 0 then [] else event_of (TakerFill side) (order_by plan n) x.released x.paid x.fee_or_rebate ∷ []) first) amount in
    let c' : third ≡ pushed_all last second = c ∙ ap (λ (o : Order). pushed_all (last_events side sizes o (post side room o own).booted) second) orders in
    c' ∙ ap (pushed_all last) (b' ∙ ap (pushed_all fills) a ∙ pushed_all-pushed_all met.events fills bytes) ∙ pushed_all-pushed_all (met.events ++ fills) last bytes

pub can-leave : (side at : Side) (sizes : Lots) (room : ℕ) (order : Order) (orders : List Order) (booted : Option Order) → All CanRest orders
    → All (λ (other : Order). order_lock side sizes other < 2 ^ 64) orders → booted ≡ (post at room order orders).booted → IfSome booted (λ gone. CanLeave side sizes gone)
can-leave side at sizes room order orders None rest locks is = tt
can-leave side at sizes room order orders (Some gone) rest locks is =
    let can : CanRest gone = All-booted CanRest at room order orders rest gone (sym is) in
    record {
      slot = can.slot;
      tier = can.tier;
      lock = All-booted (λ (other : Order). order_lock side sizes other < 2 ^ 64) at room order orders locks gone (sym is);
    }

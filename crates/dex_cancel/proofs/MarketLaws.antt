-- the parts of a sound market, before orders leave and after
use Rattle.std.proofs.Common.{ℕ, ◌≤◌, ◌<◌, ◌^◌, ◌≡◌, ltb, List, [], ◌∷◌, length, Option, Some, None, IsOk, refl, sym, ap, ◌∙◌, subst, arith}
use Rattle.std.proofs.lemmas.Bool.{ltb-false}
use Rattle.std.proofs.lemmas.List.Elements.{All-weaker}
use Rattle.dex_types.specs.declared.addresses.Address.{Address}
use Rattle.dex_types.specs.declared.orders.Order.{Order}
use Rattle.dex_types.specs.declared.refusals.Refusal.{Refusal}
use Rattle.dex_types.specs.declared.refusals.Refusal.TheVariants as refusal
use Rattle.dex_types.specs.declared.terms.Lots.{Lots}
use Rattle.dex_types.specs.declared.terms.Side.TheVariants.{Bid, Ask}
use Rattle.dex_types.specs.Cancel.{RestingOrder, CancelBy, cancelled, after_cancels}
use Rattle.dex_types.specs.Market.{Market}
use Rattle.dex_types.specs.Owed.{order_lock}
use Rattle.dex_types.specs.Soundness.{IsProper, IsSound}
use Rattle.dex_ring.specs.Appended.{pushed_all}
use Rattle.dex_ring.specs.Ring.{IsEventQueue, Ring, ring_of, room_of}
use Rattle.dex_ring.proofs.RingLaw.{length-events_of}
use Rattle.dex_ring.specs.StandsFor.{ring_of_market}
use Rattle.dex_sound.proofs.OrderSoundReasons.{first_of-none, refused_where-none}
use Rattle.dex_cancel.specs.Cancelling.{decided}
use Rattle.dex_types.specs.Reasons.{answered, no_room}
use Rattle.dex_types.specs.Why.{why_cancelling, why_unnamed}
use Rattle.dex_market.specs.MarketAccount.{market_words, sizes_of}
use Rattle.dex_accounts.specs.Parts.{AreOf, MarketParts}
use Rattle.dex_accounts.proofs.PartLaws.{AreOf-events, sizes_in-parts}
use Rattle.dex_cancel.specs.TakenOff.{CanLeave, CancelGiven, DoLocksFit, HaveLeft, Queue, outs_of, queue_of, with_outs, without_all}
use Rattle.dex_cancel.specs.Parts.{AreOfSoundMarket, cancel_given, left_by, named_in, with_cancelled}
use Rattle.dex_cancel.proofs.TakenOffLaws.{bytes-with_outs, capacity-with_outs, list-with_outs, market-left, market_queue}

-- what orders of a sound market lock fits
pub locks-of : (m : Market) → IsSound m → DoLocksFit m.listing.sizes m.bids m.asks
locks-of m sound = (
  All-weaker (IsProper Bid m.listing.sizes) (λ (o : Order). order_lock Bid m.listing.sizes o < 2 ^ 64) (λ o proper. proper.lock) m.bids (sound.form.proper Bid),
  All-weaker (IsProper Ask m.listing.sizes) (λ (o : Order). order_lock Ask m.listing.sizes o < 2 ^ 64) (λ o proper. proper.lock) m.asks (sound.form.proper Ask),
)

pub sound-locks : (given : CancelGiven) → AreOfSoundMarket given → DoLocksFit given.sizes given.bids given.asks
sound-locks given is =
    let m : Market = is.sound.market in
    let parts : MarketParts = is.whole in
    let are : AreOf parts m = is.sound.are in
    let fit : DoLocksFit (sizes_of (market_words parts.market)) parts.bids parts.asks =
    subst (λ l. DoLocksFit l parts.bids parts.asks) (sym (sizes_in-parts parts m are))
    (subst (λ os. DoLocksFit m.listing.sizes os parts.asks) (sym are.bids) (subst (DoLocksFit m.listing.sizes m.bids) (sym are.asks) (locks-of m is.sound.sound))) in
    subst (λ (g : CancelGiven). DoLocksFit g.sizes g.bids g.asks) is.given_is fit

pub sound-queue : (given : CancelGiven) → AreOfSoundMarket given → IsEventQueue given.queue
sound-queue given is = subst (λ (g : CancelGiven). IsEventQueue g.queue) is.given_is is.sound.are.events.accepted

-- the parts of a market from which orders left are those of the market without them
pub AreOf-left : (parts : MarketParts) (m : Market) (gone : List RestingOrder) → AreOf parts m
    → (let left : CancelGiven = left_by gone (cancel_given parts) in
    IsEventQueue left.queue → ring_of left.queue ≡ (with_outs (cancel_given parts).sizes gone (queue_of parts.events)).list
    → AreOf (with_cancelled left parts) (after_cancels gone m))
AreOf-left parts m gone are accepted list =
    let sizes : Lots = (cancel_given parts).sizes in
    let left : CancelGiven = left_by gone (cancel_given parts) in
    let outs : Ring = (with_outs m.listing.sizes gone (market_queue m)).list in
    let ring : ring_of left.queue ≡ record (ring_of_market m) { events = outs.events; seq_num = outs.seq_num } =
    list
    ∙ ap (λ l. (with_outs l gone (queue_of parts.events)).list) (sizes_in-parts parts m are)
    ∙ list-with_outs m.listing.sizes gone (queue_of parts.events) (market_queue m) are.events.ring
    ∙ ap (λ c. record { events = outs.events; capacity = c; seq_num = outs.seq_num }) (capacity-with_outs m.listing.sizes gone (market_queue m)) in
    let bids : List Order = without_all Bid gone m.bids in
    let asks : List Order = without_all Ask gone m.asks in
    let one : AreOf (record parts { events = left.queue }) (record m { events = outs.events; events_appended = outs.seq_num }) =
    AreOf-events parts m are left.queue outs.events outs.seq_num accepted ring in
    let whole : AreOf (with_cancelled left parts) (record m { bids = bids; asks = asks; events = outs.events; events_appended = outs.seq_num }) =
    record {
      market = record { accepted = one.market.accepted; words = one.market.words };
      requests = record { accepted = one.requests.accepted; next = one.requests.next };
      events = record { accepted = one.events.accepted; ring = one.events.ring };
      bids = ap (without_all Bid gone) are.bids;
      bid_room = are.bid_room;
      asks = ap (without_all Ask gone) are.asks;
      ask_room = are.ask_room;
      traders = are.traders;
    } in
    subst (AreOf (with_cancelled left parts)) (sym (market-left gone m)) whole

-- which orders a cancel names is the market's
pub named-parts : (by : CancelBy) (owner : Address) (parts : MarketParts) (m : Market) → AreOf parts m → named_in by owner (cancel_given parts) ≡ cancelled by owner m.bids m.asks
named-parts by owner parts m are = ap (λ os. cancelled by owner os parts.asks) are.bids ∙ ap (cancelled by owner m.bids) are.asks

-- the event queue has room for the outs of a cancel that is not refused
pub decided-within : (by : CancelBy) (owner : Address) (bids asks : List Order) (room : ℕ) → IsOk (decided by owner bids asks room) → length (cancelled by owner bids asks) ≤ room
decided-within by owner bids asks room ok =
    let gone = cancelled by owner bids asks in
    let none : why_cancelling by owner bids asks room ≡ None = accepted (why_cancelling by owner bids asks room) (length gone) ok in
    let parts = first_of-none (why_unnamed by owner bids asks gone ∷ no_room (length gone) room ∷ []) none in
    ltb-false room (length gone) (refused_where-none (ltb room (length gone)) (refusal.EventQueueFull (length gone) room) parts.1.0)
  where
    accepted : (why : Option Refusal) (count : ℕ) → IsOk (answered why count) → why ≡ None
    accepted None count ok = refl
    accepted (Some why) count ok = absurd (cc)

-- the orders of a cancel that is not refused can leave
pub can-leave : (by : CancelBy) (owner : Address) (given : CancelGiven) → AreOfSoundMarket given
    → IsOk (decided by owner given.bids given.asks (room_of (ring_of given.queue))) → CanLeave (cancelled by owner given.bids given.asks) given
can-leave by owner given sound ok =
    let queue : IsEventQueue given.queue = sound-queue given sound in
    let within : length (cancelled by owner given.bids given.asks) ≤ room_of (ring_of given.queue) = decided-within by owner given.bids given.asks (room_of (ring_of given.queue)) ok in
    record {
      accepted = queue;
      locks = sound-locks given sound;
      room = omega (arith, within, queue.count, length-events_of given.queue);
    }

-- what is left is exactly what orders that leave leave
pub left-exactly : (gone : List RestingOrder) (before after : CancelGiven) → after.sizes ≡ before.sizes → HaveLeft gone before after → after ≡ left_by gone before
left-exactly gone before after sizes left =
    let made : Lots → List Order → List Order → List ℕ → CancelGiven = λ s b a q. record { sizes = s; bids = b; asks = a; queue = q } in
    let queue : after.queue ≡ pushed_all (outs_of before.sizes gone) before.queue = ap (λ (q : Queue). q.bytes) left.queue ∙ bytes-with_outs before.sizes gone (queue_of before.queue) in
    ap (λ s. made s after.bids after.asks after.queue) sizes
    ∙ ap (λ b. made before.sizes b after.asks after.queue) left.bids
    ∙ ap (λ a. made before.sizes (without_all Bid gone before.bids) a after.queue) left.asks
    ∙ ap (made before.sizes (without_all Bid gone before.bids) (without_all Ask gone before.asks)) queue

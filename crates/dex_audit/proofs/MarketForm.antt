-- the form of the market that accepted accounts tell
use Rattle.std.proofs.Common.{◌≡◌, ℕ, ◌^◌, ◌<◌, ◌≤◌, List, length, refl, sym, ap, ◌∙◌, subst, arith}
use Rattle.std.specs.List.{All}
use Rattle.dex_fields.specs.declared.field.Field.{Field}
use Rattle.dex_fields.specs.declared.event_queue.TheConstants.{COUNT, SEQ_NUM}
use Rattle.dex_fields.specs.declared.request_queue.TheConstants.{NEXT_SEQ_NUM}
use Rattle.dex_fields.specs.Bytes.{AreBytes, end_of, number_in}
use Rattle.dex_fields.proofs.Reading.{number_in-lt}
use Rattle.dex_types.specs.declared.orders.Order.{Order}
use Rattle.dex_types.specs.declared.terms.Side.{Side}
use Rattle.dex_types.specs.declared.terms.Side.TheVariants.{Bid, Ask}
use Rattle.dex_types.specs.Accounts.{PlainMarketAccounts}
use Rattle.dex_types.specs.BookSide.{IsBookSide}
use Rattle.dex_types.specs.Market.{capacity, orders}
use Rattle.dex_types.specs.Owed.{order_lock}
use Rattle.dex_types.specs.QueuedEvent.{QueuedEvent}
use Rattle.dex_types.specs.Soundness.{AreDistinct, HasSlots, IsProper, IsWellFormed}
use Rattle.dex_types.specs.Trader.{Account}
use Rattle.dex_laws.proofs.TraderLaws.{is_same-sym}
use Rattle.dex_market.specs.MarketAccount.{market_words}
use Rattle.dex_orders.proofs.SlotLaw.{length-slots_of}
use Rattle.dex_orders.specs.OrdersAccount.{IsOrders}
use Rattle.dex_ring.specs.Ring.{IsEventQueue, events_of}
use Rattle.dex_ring.proofs.RingLaw.{get_or-events_of, length-events_of}
use Rattle.dex_slab.specs.SlabSide.{slab_side}
use Rattle.dex_accounts.specs.Accepted.{IsAccepted}
use Rattle.dex_accounts.specs.Decoded.{market_in}
use Rattle.dex_orders.specs.StandsFor.{traders_of}
use Rattle.dex_state.specs.Held.{IsHeldMarket}
use Rattle.dex_audit.proofs.TraderFrom.{open-from}

-- the accounts of a market are accepted, and no open-orders account stands twice
pub record IsAuditable (accounts : PlainMarketAccounts) : Type 0 where
  pub accepted : IsAccepted accounts
  pub distinct : AreDistinct (traders_of accounts.orders)

-- a word of 8 bytes is below 2^64
pub word-lt : (bytes : List ℕ) (field : Field) → AreBytes bytes → end_of field ≤ length bytes → field.len ≡ 8 → number_in bytes field < 2 ^ 64
word-lt bytes field are within wide = subst (λ (n : ℕ). number_in bytes field < 256 ^ n) wide (number_in-lt bytes field are within)

-- every pending event has the number of a tier
tiers-of : (bytes : List ℕ) → IsEventQueue bytes → All (λ (event : QueuedEvent). event.tier < 7) (events_of bytes)
tiers-of bytes queue number d lt =
    let few : number < number_in bytes COUNT = omega (arith, length-events_of bytes) in
    subst (λ (event : QueuedEvent). event.tier < 7) (sym (get_or-events_of bytes number d few)) (queue.events number few).tier

module _ (accounts : PlainMarketAccounts) (can : IsAuditable accounts) (words : IsHeldMarket accounts) where
  -- each side as a side of the book
  pub book-side : (side : Side) → IsBookSide side (capacity side (market_in accounts)) (orders side (market_in accounts))
  unfolding market_in
  book-side Bid = slab_side Bid accounts.bids can.accepted.bids.slab
  book-side Ask = slab_side Ask accounts.asks can.accepted.asks.slab

  room : (side : Side) → 1 ≤ capacity side (market_in accounts)
  unfolding market_in
  room Bid = let some = can.accepted.bids.slab.size.some in omega arith
  room Ask = let some = can.accepted.asks.slab.size.some in omega arith

  pub slots : HasSlots (market_in accounts).traders
  unfolding market_in
  slots owner account found =
      let one = open-from (λ from. IsOrders from.bytes) owner account accounts.orders can.accepted.orders found in
      ap (λ (a : Account). length a.slots) (sym one.is) ∙ length-slots_of one.from.bytes

  proper : (side : Side) → All (λ (order : Order). order_lock side (market_in accounts).listing.sizes order < 2 ^ 64) (orders side (market_in accounts))
      → All (IsProper side (market_in accounts).listing.sizes) (orders side (market_in accounts))
  proper side fit k d lt =
      let rests = (book-side side).can_rest k d lt in
      record { price = rests.price; lots = rests.lots; lock = fit k d lt; tier = rests.tier }

  sequence : (market_in accounts).next_sequence < 2 ^ 64
  unfolding market_in
  sequence = let size = can.accepted.requests.size in word-lt accounts.requests NEXT_SEQ_NUM words.requests (omega arith) refl

  counted : (market_in accounts).events_appended < 2 ^ 64
  unfolding market_in
  counted = let size = can.accepted.events.least in word-lt accounts.events SEQ_NUM words.events (omega arith) refl

  pub well-formed : ((side : Side) → All (λ (order : Order). order_lock side (market_in accounts).listing.sizes order < 2 ^ 64) (orders side (market_in accounts)))
      → IsWellFormed (market_in accounts)
  unfolding market_in
  well-formed fit = record {
    mints = is_same-sym (market_words accounts.market).terms.coin_mint (market_words accounts.market).terms.pc_mint ∙ can.accepted.market.terms.mints;
    coin_lot = can.accepted.market.terms.coin_lot;
    pc_lot = can.accepted.market.terms.pc_lot;
    room = room;
    in_order = λ side. (book-side side).in_order;
    proper = λ side. proper side (fit side);
    within = λ side. (book-side side).within;
    events_within = let count = can.accepted.events.count in omega (arith, length-events_of accounts.events);
    tiers = tiers-of accounts.events can.accepted.events;
    sequence = sequence;
    counted = counted;
    distinct = can.distinct;
    slots = slots;
  }

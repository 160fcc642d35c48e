-- a new order leaves a sound market
use Rattle.std.proofs.Common.{◌+◌, ◌-◌, ◌^◌, ◌≤◌, ◌<◌, ◌≡◌, ◌≢◌, List, ◌++◌, Some, None, length, length-append, length-set, refl, ap, ◌∙◌, subst, arith}
use Rattle.std.specs.List.{All}
use Rattle.std.proofs.lemmas.Bool.{eqb-false}
use Rattle.std.proofs.lemmas.List.Elements.{All-append, All-weaker}
use Rattle.std.proofs.lemmas.Nat.{mod_below}
use Rattle.dex_types.specs.declared.orders.Order.{Order}
use Rattle.dex_types.specs.declared.rows.Seen.{Seen}
use Rattle.dex_types.specs.declared.terms.Lots.{Lots}
use Rattle.dex_types.specs.declared.terms.Side.{Side}
use Rattle.dex_types.specs.declared.terms.Side.TheVariants.{Bid, Ask}
use Rattle.dex_types.specs.declared.terms.Tier.{Tier}
use Rattle.dex_types.specs.declared.terms.Tier.TheVariants.{Base, Srm2, Srm3, Srm4, Srm5, Srm6, Msrm}
use Rattle.dex_types.specs.Fees.{tier_number}
use Rattle.dex_types.specs.Market.{Market, orders, capacity}
use Rattle.dex_types.specs.Meeting.{TakerTerms, Demand}
use Rattle.dex_types.specs.NewOrder.{NewOrder, Ordering, order_on, after_order, account_after, terms_of, demand_of, taker_events, last_events, held}
use Rattle.dex_types.specs.Owed.{order_lock}
use Rattle.dex_types.specs.Posting.{InBookOrder}
use Rattle.dex_types.specs.QueuedEvent.{QueuedEvent}
use Rattle.dex_types.specs.Requests.{Request, Party}
use Rattle.dex_types.specs.Side.{Coin, Pc, opposite, price_of, sequence_of, id_of}
use Rattle.dex_types.specs.Solvency.{IsBounded}
use Rattle.dex_types.specs.Soundness.{IsSound, IsWellFormed, FundsAgree, IsProper, held_at, order_holding}
use Rattle.dex_types.specs.Totals.{total}
use Rattle.dex_types.specs.Trader.{Account, Open, trader_at, free_slot}
use Rattle.dex_types.specs.Why.{why_order_of}
use Rattle.dex_laws.proofs.BookLaws.{All-post}
use Rattle.dex_laws.proofs.IdLaws.{price_of-id_of, sequence_of-id_of}
use Rattle.dex_laws.proofs.LeftLaws.{meet-left, length-left, InBookOrder-left}
use Rattle.dex_laws.proofs.PostLaws.{InBookOrder-post, length-post}
use Rattle.dex_laws.proofs.TotalLaws.{total-each}
use Rattle.dex_laws.proofs.TraderLaws.{free_slot-le}
use Rattle.dex_sound.specs.Places.{PlacesAgree}
use Rattle.dex_sound.proofs.MeetSides.{proper-left, tiers-met}
use Rattle.dex_sound.proofs.MeetSums.{last-each, taker-each}
use Rattle.dex_sound.proofs.OrderSoundFunds.{ordered_market, order-funds}
use Rattle.dex_sound.proofs.OrderSoundPlaces.{HasRoom, All-booted, order-places}
use Rattle.dex_sound.proofs.OrderSoundReasons.{refused_where-none, queue_full-none, IsBounded-none, order-none}
use Rattle.dex_sound.proofs.PlaceLaws.{SlotsAgree-places}
use Rattle.dex_sound.proofs.PlaceParts.{sides-hold}
use Rattle.dex_sound.proofs.TraderSums.{AreDistinct-put, HasSlots-put}

-- what is known of an order that is not refused
record IsAllowed (side : Side) (m : Market) (account : Account) (n : NewOrder) : Type 0 where
  slot : free_slot account.slots ≢ 128
  sequence : m.next_sequence ≢ 2 ^ 64 - 1
  room : length m.events + length (order_on side m account n).events ≤ m.listing.event_capacity
  bounded : IsBounded (ordered_market side m account n)

allowed : (side : Side) (n : NewOrder) (request : Request) (seen : Seen) (m : Market) (party : Party) → IsWellFormed m
    → why_order_of side n request seen m party ≡ None → IsAllowed side m party.account n
allowed side n request seen m party form none =
    let account : Account = party.account in
    let o : Ordering = order_on side m account n in
    let after : Market = ordered_market side m account n in
    let parts = (order-none side n request seen m party none).rest in
    record {
      slot = eqb-false _ _ (refused_where-none _ _ parts.standing.0);
      sequence = eqb-false _ _ (refused_where-none _ _ parts.standing.1.1.0);
      room = queue_full-none (length o.events) m parts.ordering.1.0 form.events_within;
      bounded = IsBounded-none after parts.ordering.1.1.1.0 parts.ordering.1.1.1.1.0;
    }

-- each order on a side locks no more than the vault of its token holds
locks-within : (side : Side) (m : Market) → FundsAgree m → All (λ (o : Order). order_lock side m.listing.sizes o < 2 ^ 64) (orders side m)
locks-within Bid m funds =
    All-weaker (λ (o : Order). order_lock Bid m.listing.sizes o ≤ total (order_lock Bid m.listing.sizes) m.bids) (λ (o : Order). order_lock Bid m.listing.sizes o < 2 ^ 64)
    (λ o part. omega (arith, part, funds.solvent.vaults Pc, funds.bounded Pc)) m.bids (total-each (order_lock Bid m.listing.sizes) m.bids)
locks-within Ask m funds =
    All-weaker (λ (o : Order). order_lock Ask m.listing.sizes o ≤ total (order_lock Ask m.listing.sizes) m.asks) (λ (o : Order). order_lock Ask m.listing.sizes o < 2 ^ 64)
    (λ o part. omega (arith, part, funds.solvent.vaults Coin, funds.bounded Coin)) m.asks (total-each (order_lock Ask m.listing.sizes) m.asks)

-- the number of a tier
tier_number-lt : (tier : Tier) → tier_number tier < 7
tier_number-lt Base = omega arith
tier_number-lt Srm2 = omega arith
tier_number-lt Srm3 = omega arith
tier_number-lt Srm4 = omega arith
tier_number-lt Srm5 = omega arith
tier_number-lt Srm6 = omega arith
tier_number-lt Msrm = omega arith

-- the orders of a market's own side after the order
own-after : (side : Side) (m : Market) (account : Account) (n : NewOrder) → orders side (ordered_market side m account n) ≡ (order_on side m account n).posting.side
own-after Bid m account n = refl
own-after Ask m account n = refl

-- the new order's id is new
order-apart : (side : Side) (m : Market) (n : NewOrder) → m.next_sequence < 2 ^ 64 → PlacesAgree m
    → All (λ (o : Order). o.id ≢ id_of side n.price m.next_sequence) (orders side m)
order-apart side m n small agree =
    All-weaker (λ (o : Order). held_at o.owner o.slot m.traders ≡ Some (order_holding side o)) (λ (o : Order). o.id ≢ id_of side n.price m.next_sequence)
    (λ o is same.
    omega (arith, agree.given o.owner o.slot (order_holding side o) is, ap (sequence_of side) same, sequence_of-id_of side n.price m.next_sequence small))
    (orders side m) (agree.resting side)

-- the orders of its own side are proper
order-proper : (side : Side) (m : Market) (account : Account) (n : NewOrder) → 1 ≤ n.price → IsWellFormed m → FundsAgree (ordered_market side m account n)
    → All (IsProper side m.listing.sizes) (order_on side m account n).posting.side
order-proper side m account n priced form funds =
    let o : Ordering = order_on side m account n in
    let IsPart : Order → Type 0 = λ order. (1 ≤ price_of order.id) × (1 ≤ order.lots) × (order.tier < 7) in
    let parts : All IsPart o.posting.side =
    All-post IsPart side (capacity side m) o.order (orders side m)
    (λ some. (omega (arith, priced, price_of-id_of side n.price m.next_sequence form.sequence), omega (arith, some), tier_number-lt n.tier))
    (All-weaker (IsProper side m.listing.sizes) IsPart (λ order is. (is.price, is.lots, is.tier)) (orders side m) (form.proper side)) in
    let locks : All (λ (order : Order). order_lock side m.listing.sizes order < 2 ^ 64) o.posting.side =
    subst (All (λ (order : Order). order_lock side m.listing.sizes order < 2 ^ 64)) (own-after side m account n) (locks-within side (ordered_market side m account n) funds) in
    λ k d inside. record { price = (parts k d inside).0; lots = (parts k d inside).1; lock = locks k d inside; tier = (parts k d inside).2 }

-- its events have the numbers of tiers
order-tiers : (side : Side) (m : Market) (account : Account) (n : NewOrder) → IsWellFormed m
    → All (λ (e : QueuedEvent). e.tier < 7) (ordered_market side m account n).events
order-tiers side m account n form =
    let o : Ordering = order_on side m account n in
    let sizes : Lots = m.listing.sizes in
    let IsTier : QueuedEvent → Type 0 = λ e. e.tier < 7 in
    let taker : List QueuedEvent = taker_events side sizes n o.met o.order in
    let last : List QueuedEvent = last_events side sizes o.order o.posting.booted in
    All-append IsTier m.events o.events form.tiers
    (All-append IsTier (o.met.events ++ taker) last
    (All-append IsTier o.met.events taker
    (tiers-met (opposite side) sizes side (terms_of sizes n) (demand_of side sizes n) (orders (opposite side) m) (form.proper (opposite side)))
    (taker-each IsTier side sizes n o.met o.order (tier_number-lt n.tier)))
    (last-each IsTier side sizes o.order o.posting.booted (λ none. tier_number-lt n.tier)
    (λ gone is.
    (All-booted (IsProper side sizes) side (capacity side m) o.order (orders side m) (form.proper side) gone is).tier)))

-- the account keeps its 128 slots
order-slots : (side : Side) (m : Market) (account : Account) (n : NewOrder) → (after : Account)
    → Open (account_after side m.listing.sizes n (order_on side m account n) account) ≡ Open after → length account.slots ≡ 128 → length after.slots ≡ 128
order-slots side m account n after is slots =
    let same : account_after side m.listing.sizes n (order_on side m account n) account ≡ after = cc in
    subst (λ (a : Account). length a.slots ≡ 128) same
    (length-set account.slots (free_slot account.slots) (Some (held side (order_on side m account n))) ∙ slots)

-- the form of a market after a new order
order-form : (side : Side) (m : Market) (account : Account) (n : NewOrder) → trader_at n.owner m.traders ≡ Some (Open account) → 1 ≤ n.price
    → IsWellFormed m → PlacesAgree m → IsAllowed side m account n → FundsAgree (ordered_market side m account n) → IsWellFormed (ordered_market side m account n)
order-form side m account n found priced form agree may funds =
    let o : Ordering = order_on side m account n in
    let sizes : Lots = m.listing.sizes in
    let own : List Order = orders side m in
    let opposing : List Order = orders (opposite side) m in
    let terms : TakerTerms = terms_of sizes n in
    let wants : Demand = demand_of side sizes n in
    let is_left = meet-left side terms wants opposing in
    record {
      mints = form.mints;
      coin_lot = form.coin_lot;
      pc_lot = form.pc_lot;
      room = form.room;
      in_order = sides-hold InBookOrder side o.posting.side o.met.left m
          (InBookOrder-post side (capacity side m) o.order own (order-apart side m n form.sequence agree) (form.in_order side))
          (InBookOrder-left (opposite side) o.met.left opposing is_left (form.in_order (opposite side)));
      proper = sides-hold (λ each list. All (IsProper each sizes) list) side o.posting.side o.met.left m (order-proper side m account n priced form funds)
          (proper-left (opposite side) sizes side terms wants opposing (form.proper (opposite side)));
      within = sides-hold (λ each list. length list ≤ capacity each m) side o.posting.side o.met.left m
          (length-post side (capacity side m) o.order own (form.room side) (form.within side))
          (omega (arith, length-left o.met.left opposing is_left, form.within (opposite side)));
      events_within = omega (arith, may.room, length-append m.events o.events);
      tiers = order-tiers side m account n form;
      sequence = omega (arith, form.sequence, may.sequence);
      counted = mod_below (m.events_appended + length o.events) (2 ^ 64) (omega arith);
      distinct = AreDistinct-put n.owner (Open (account_after side sizes n o account)) m.traders form.distinct;
      slots = HasSlots-put n.owner (Open account) (Open (account_after side sizes n o account)) m.traders found
          (λ after is. order-slots side m account n after is (form.slots n.owner account found)) form.slots;
    }

order-sound-at : (side : Side) (n : NewOrder) (request : Request) (seen : Seen) (m : Market) (party : Party) → IsSound m
    → trader_at n.owner m.traders ≡ Some (Open party.account) → 1 ≤ n.price → why_order_of side n request seen m party ≡ None
    → IsSound (ordered_market side m party.account n)
order-sound-at side n request seen m party sound found priced none =
    let account : Account = party.account in
    let may : IsAllowed side m account n = allowed side n request seen m party sound.form none in
    let places : PlacesAgree m = (SlotsAgree-places m).0 sound.slots in
    let few : length account.slots ≡ 128 = sound.form.slots n.owner account found in
    let room : HasRoom m account n = record { found = found; free = omega (arith, few, free_slot-le account.slots, may.slot) } in
    let funds : FundsAgree (ordered_market side m account n) = order-funds side m account n found sound.form.sequence sound.form.room sound.funds may.bounded in
    record {
      form = order-form side m account n found priced sound.form places may funds;
      slots = (SlotsAgree-places (ordered_market side m account n)).1 (order-places side m account n sound.form room places);
      funds = funds;
    }

-- a new order of an open account that is not refused leaves a sound market
pub order-sound : (side : Side) (n : NewOrder) (request : Request) (seen : Seen) (m : Market) (party : Party) → IsSound m
    → trader_at party.address m.traders ≡ Some (Open party.account) → n.owner ≡ party.address → 1 ≤ n.price
    → why_order_of side n request seen m party ≡ None
    → IsSound (after_order side party.account n (order_on side m party.account n) m)
order-sound side n request seen m party sound found owner priced none =
    order-sound-at side n request seen m party sound (ap (λ a. trader_at a m.traders) owner ∙ found) priced none

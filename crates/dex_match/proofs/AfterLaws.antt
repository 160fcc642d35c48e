-- what a new order left of the accounts is of the market after it
use Rattle.std.proofs.Common.{◌≡◌, ℕ, ◌+◌, ◌^◌, ◌<◌, ◌≤◌, List, Some, slice_set, refl, sym, ap, ◌∙◌, subst, inl, inr, arith}
use Rattle.dex_fields.specs.declared.request_queue.TheConstants.{NEXT_SEQ_NUM}
use Rattle.dex_fields.proofs.Writing.{number_in-with_number}
use Rattle.dex_types.specs.declared.orders.Order.{Order}
use Rattle.dex_types.specs.declared.terms.Lots.{Lots}
use Rattle.dex_types.specs.declared.terms.Side.{Side}
use Rattle.dex_types.specs.declared.terms.Side.TheVariants.{Bid, Ask}
use Rattle.dex_types.specs.Market.{Market}
use Rattle.dex_types.specs.NewOrder.{NewOrder, Ordering, account_after, after_order, order_on}
use Rattle.dex_types.specs.Side.{Coin, Pc, by_side, opposite}
use Rattle.dex_types.specs.Soundness.{IsSound}
use Rattle.dex_types.specs.Trader.{Account, Open}
use Rattle.dex_laws.proofs.IdLaws.{id_of-below}
use Rattle.dex_laws.proofs.TraderLaws.{trader_at-put_same}
use Rattle.dex_sound.specs.Fields.{AccountFits}
use Rattle.dex_sound.proofs.FieldLaws.{fields-fit}
use Rattle.dex_market.specs.MarketAccount.{MarketWords, market_words, sizes_of}
use Rattle.dex_market.specs.MarketFunds.{FundsFit as MarketFundsFit}
use Rattle.dex_market.specs.RequestQueue.{next_sequence}
use Rattle.dex_market.specs.StandsFor.{words_of}
use Rattle.dex_market.proofs.FundsWrites.{are-written}
use Rattle.dex_market.proofs.QueueWrites.{IsRequestQueue-with_next}
use Rattle.dex_orders.specs.declared.amounts.Funds.{Funds}
use Rattle.dex_orders.specs.OrdersAccount.{FundsFit, HasNoOrder, IsOpen, account_of, added, funded, funds_of, with_funds}
use Rattle.dex_orders.specs.StandsFor.{StandsForTrader}
use Rattle.dex_orders.proofs.WriteLaws.{IsOpen-added, IsOpen-funded, account_of-added, account_of-funded, market_of-added, market_of-funded}
use Rattle.dex_ring.specs.Appended.{appended, pushed_all}
use Rattle.dex_ring.specs.Ring.{IsEventQueue, ring_of}
use Rattle.dex_accounts.specs.Parts.{AreOf, HasOpen, MarketParts, with_account, with_side}
use Rattle.dex_accounts.proofs.PartLaws.{StandForTraders-changed_at, StandsForTrader-open, sizes_in-parts, trader_of-open}
use Rattle.dex_match.specs.declared.intake.Intake.{Intake}
use Rattle.dex_match.specs.declared.order_plan.OrderPlan.{OrderPlan}
use Rattle.dex_match.specs.declared.order_terms.Taker.{Taker}
use Rattle.dex_match.specs.Applying.{account_bytes_after, bytes_with, funds_by, intake_of, ordering_over, requests_after, words_with}
use Rattle.dex_match.specs.LentParts.{IsDone, ordered, with_ordered}
use Rattle.dex_match.specs.OrderParts.{OrderGiven, order_given, parts_of}
use Rattle.dex_match.specs.Ordering.{plan_by}
use Rattle.dex_match.specs.OrderTerms.{order_of}
use Rattle.dex_match.proofs.PartsLaws.{GivenOf, given-of, ordering-is}
use Rattle.dex_match.specs.Planned.{CanApply}
use Rattle.dex_match.proofs.RoomLaws.{IsAllowed, allowed, given-apply}

-- an intake leaves the words of the market after the order
words-after : (side : Side) (m : Market) (account : Account) (n : NewOrder) (o : Ordering) → m.pc_fees + m.referrer_rebates ≤ m.pc_vault → m.coin_fees ≤ m.coin_vault
    → words_with (intake_of side n o) (words_of m) ≡ words_of (after_order side account n o m)
words-after Bid m account n o pc_earned coin_earned =
    let after : MarketWords = words_of (after_order Bid account n o m) in
    let is : MarketWords = words_with (intake_of Bid n o) (words_of m) in
    let coin : is.coin_deposits_total ≡ after.coin_deposits_total = omega arith in
    let pc : is.pc_deposits_total ≡ after.pc_deposits_total = omega (arith, pc_earned) in
    ap (λ (x : ℕ). record after { coin_deposits_total = x; pc_deposits_total = is.pc_deposits_total }) coin ∙ ap (λ (x : ℕ). record after { pc_deposits_total = x }) pc
words-after Ask m account n o pc_earned coin_earned =
    let after : MarketWords = words_of (after_order Ask account n o m) in
    let is : MarketWords = words_with (intake_of Ask n o) (words_of m) in
    let coin : is.coin_deposits_total ≡ after.coin_deposits_total = omega (arith, coin_earned) in
    let pc : is.pc_deposits_total ≡ after.pc_deposits_total = omega (arith, pc_earned) in
    ap (λ (x : ℕ). record after { coin_deposits_total = x; pc_deposits_total = is.pc_deposits_total }) coin ∙ ap (λ (x : ℕ). record after { pc_deposits_total = x }) pc

-- what is known of the numbers that an order writes
pub record CanWrite (side : Side) (n : NewOrder) (parts : MarketParts) (m : Market) (bytes : List ℕ) (o : Ordering) : Type 0 where
  pub funds : MarketFundsFit (funds_by (intake_of side n o) (market_words parts.market))
  pub next : next_sequence parts.requests + 1 < 2 ^ 64
  pub slot : o.order.slot < 128
  pub id : o.order.id < 2 ^ 128
  pub client : n.client < 2 ^ 64
  pub named : o.order.client ≡ n.client
  pub fresh : HasNoOrder o.order.id side (account_of bytes).slots
  pub account : FundsFit (funds_of (account_after side m.listing.sizes n o (account_of bytes)))
  pub pc_earned : m.pc_fees + m.referrer_rebates ≤ m.pc_vault
  pub coin_earned : m.coin_fees ≤ m.coin_vault

-- both sides, with one's orders put and then the other's
bids-put : (side : Side) (own left old : List Order) → by_side (opposite side) left (by_side side own old) ≡ by_side side own left
bids-put Bid own left old = refl
bids-put Ask own left old = refl

asks-put : (side : Side) (own left old : List Order) → by_side (opposite side) (by_side side old own) left ≡ by_side side left own
asks-put Bid own left old = refl
asks-put Ask own left old = refl

-- an account that holds the order, with the funds after it, is the account after it
account-funded : (side : Side) (sizes : Lots) (n : NewOrder) (o : Ordering) (account : Account) → o.order.client ≡ n.client
    → with_funds (funds_of (account_after side sizes n o account))
    (record account { slots = slice_set account.slots o.order.slot (Some (record { id = o.order.id; side = side; client = n.client })) })
    ≡ account_after side sizes n o account
account-funded Bid sizes n o account named =
    ap (λ c. with_funds (funds_of (account_after Bid sizes n o account)) (record account { slots = slice_set account.slots o.order.slot (Some (record { id = o.order.id; side = Bid; client = c })) })) (sym named)
account-funded Ask sizes n o account named =
    ap (λ c. with_funds (funds_of (account_after Ask sizes n o account)) (record account { slots = slice_set account.slots o.order.slot (Some (record { id = o.order.id; side = Ask; client = c })) })) (sym named)

-- the account's bytes after an order
account-put : (side : Side) (n : NewOrder) (parts : MarketParts) (m : Market) (bytes : List ℕ) (o : Ordering) → AreOf parts m → HasOpen n.owner bytes parts → CanWrite side n parts m bytes o
    → StandsForTrader (account_bytes_after side m.listing.sizes n o bytes) m.listing.address (Open (account_after side m.listing.sizes n o (account_of bytes)))
account-put side n parts m bytes o are has can =
    let held : List ℕ = added bytes o.order.slot o.order.id side n.client in
    let funds : Funds = funds_of (account_after side m.listing.sizes n o (account_of bytes)) in
    let opened : IsOpen held = IsOpen-added bytes o.order.slot o.order.id side n.client has.accepted can.slot can.id can.client can.fresh in
    let paid : IsOpen (funded held funds) = IsOpen-funded held funds opened can.account in
    let words : account_of (funded held funds) ≡ account_after side m.listing.sizes n o (account_of bytes) =
    account_of-funded held funds opened can.account
    ∙ ap (with_funds funds) (account_of-added bytes o.order.slot o.order.id side n.client has.accepted can.slot can.id can.client)
    ∙ account-funded side m.listing.sizes n o (account_of bytes) can.named in
    record {
      accepted = inr (inl paid);
      stands = trader_of-open (funded held funds) paid ∙ ap Open words;
      on_market = λ accepted.
          market_of-funded held funds opened can.account
          ∙ market_of-added bytes o.order.slot o.order.id side n.client has.accepted can.slot can.id can.client
          ∙ (StandsForTrader-open parts m are n.owner bytes has).on_market has.accepted;
    }

-- with all that is written the parts are of the market after the order
parts-put : (side : Side) (n : NewOrder) (parts : MarketParts) (m : Market) (bytes events : List ℕ) (o : Ordering) → AreOf parts m → HasOpen n.owner bytes parts → CanWrite side n parts m bytes o
    → IsEventQueue events → ring_of events ≡ appended o.events (ring_of parts.events)
    → AreOf
    (with_account n.owner (account_bytes_after side m.listing.sizes n o bytes)
    (with_side (opposite side) o.met.left
    (with_side side o.posting.side
    (record parts { market = bytes_with (intake_of side n o) parts.market; requests = requests_after parts.requests; events = events }))))
    (after_order side (account_of bytes) n o m)
parts-put side n parts m bytes events o are has can queue list =
    let account : Account = account_of bytes in
    let intake : Intake = intake_of side n o in
    let wrote = are-written (funds_by intake (market_words parts.market)) parts.market are.market.accepted can.funds in
    record {
      market = record {
        accepted = wrote.accepted;
        words = wrote.words ∙ ap (words_with intake) are.market.words ∙ words-after side m account n o can.pc_earned can.coin_earned;
      };
      requests = record {
        accepted = IsRequestQueue-with_next parts.requests (next_sequence parts.requests + 1) are.requests.accepted;
        next = number_in-with_number parts.requests NEXT_SEQ_NUM (next_sequence parts.requests + 1) (omega (arith, are.requests.accepted.size)) can.next
            ∙ ap (λ s. s + 1) are.requests.next;
      };
      events = record { accepted = queue; ring = list ∙ ap (appended o.events) are.events.ring };
      bids = bids-put side o.posting.side o.met.left parts.bids;
      bid_room = are.bid_room;
      asks = asks-put side o.posting.side o.met.left parts.asks;
      ask_room = are.ask_room;
      traders = StandForTraders-changed_at n.owner (λ old. account_bytes_after side m.listing.sizes n o bytes) (Open (account_after side m.listing.sizes n o account))
          parts.accounts m.listing.address m.traders bytes are.traders has.found (account-put side n parts m bytes o are has can);
    }

-- the numbers of an order that was decided
can-write : (taker : Taker) (parts : MarketParts) (m : Market) (bytes : List ℕ) (after : OrderGiven) → IsSound m → AreOf parts m → HasOpen taker.account bytes parts
    → IsDone taker (order_given taker.id_side bytes parts) after
    → CanWrite taker.id_side (order_of taker) parts m bytes (ordering_over taker.id_side (order_of taker) (order_given taker.id_side bytes parts))
can-write taker parts m bytes after sound are has done =
    let side : Side = taker.id_side in
    let n : NewOrder = order_of taker in
    let given : OrderGiven = order_given side bytes parts in
    let account : Account = account_of bytes in
    let o : Ordering = ordering_over side n given in
    let of : GivenOf side n.owner given m = given-of side n.owner bytes parts m are has in
    let is : o ≡ order_on side m account n = ordering-is side n given m of in
    let plan : OrderPlan = plan_by n o in
    let apply : CanApply side n plan (parts_of given) =
    given-apply side n given plan done.price done.lots done.lock (record { market = m; sound = sound; parts = of }) (record { balance = done.balance; accepted = done.accepted; planned = refl }) in
    let may : IsAllowed side m account n = allowed side n given m done.balance sound of done.price done.lock done.accepted in
    let fits : AccountFits (account_after side m.listing.sizes n (order_on side m account n) account) =
    (fields-fit _ may.after).accounts n.owner (account_after side m.listing.sizes n (order_on side m account n) account)
    (trader_at-put_same n.owner (Open account) (Open (account_after side m.listing.sizes n (order_on side m account n) account)) m.traders of.known) in
    let funds : FundsFit (funds_of (account_after side m.listing.sizes n (order_on side m account n) account)) =
    record { coin = fits.free Coin; pc = fits.free Pc; coin_total = fits.total Coin; pc_total = fits.total Pc; referrer = fits.referrer } in
    record {
      funds = record {
        coin_deposits = apply.takes_in.coin;
        pc_deposits = omega (arith, apply.takes_in.pc);
        pc_fees = apply.takes_in.fees;
        referrer_rebates = apply.takes_in.referrer;
      };
      next = omega (arith, apply.left);
      slot = may.slot;
      id = id_of-below side n.price (next_sequence parts.requests) done.price_fits (omega (arith, apply.left));
      client = done.client;
      named = refl;
      fresh = apply.fresh;
      account = subst (λ (o : Ordering). FundsFit (funds_of (account_after side m.listing.sizes n o account))) (sym is) funds;
      pc_earned = omega (arith, sound.funds.solvent.vaults Pc);
      coin_earned = omega (arith, sound.funds.solvent.vaults Coin);
    }

pub order-leaves : (taker : Taker) (parts : MarketParts) (m : Market) (bytes : List ℕ) (after : OrderGiven) → IsSound m → AreOf parts m → HasOpen taker.account bytes parts
    → IsDone taker (order_given taker.id_side bytes parts) after
    → AreOf (with_ordered taker after parts) (after_order taker.id_side (account_of bytes) (order_of taker) (order_on taker.id_side m (account_of bytes) (order_of taker)) m)
order-leaves taker parts m bytes after sound are has done =
    let side : Side = taker.id_side in
    let n : NewOrder = order_of taker in
    let given : OrderGiven = order_given side bytes parts in
    let account : Account = account_of bytes in
    let o : Ordering = ordering_over side n given in
    let can = can-write taker parts m bytes after sound are has done in
    let queue : IsEventQueue (ordered taker given).events = subst (λ (a : OrderGiven). IsEventQueue a.events) done.does done.queue in
    let list : ring_of (ordered taker given).events ≡ appended o.events (ring_of parts.events) =
    subst (λ (a : OrderGiven). ring_of a.events ≡ appended o.events (ring_of parts.events)) done.does done.list in
    let puts : Lots → MarketParts = λ sizes.
    with_account n.owner (account_bytes_after side sizes n o bytes)
    (with_side (opposite side) o.met.left
    (with_side side o.posting.side
    (record parts { market = bytes_with (intake_of side n o) parts.market; requests = requests_after parts.requests; events = pushed_all o.events parts.events }))) in
    let there : AreOf (puts m.listing.sizes) (after_order side account n o m) = parts-put side n parts m bytes (pushed_all o.events parts.events) o are has can queue list in
    let sized : AreOf (puts (sizes_of (market_words parts.market))) (after_order side account n o m) =
    subst (λ (s : Lots). AreOf (puts s) (after_order side account n o m)) (sym (sizes_in-parts parts m are)) there in
    let renamed : AreOf (puts (sizes_of (market_words parts.market))) (after_order side account n (order_on side m account n) m) =
    subst (λ (o' : Ordering). AreOf (puts (sizes_of (market_words parts.market))) (after_order side account n o' m)) (ordering-is side n given m (given-of side n.owner bytes parts m are has)) sized in
    subst (λ (a : OrderGiven). AreOf (with_ordered taker a parts) (after_order side account n (order_on side m account n) m)) (sym done.does) renamed

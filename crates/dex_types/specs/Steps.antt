-- One step of a market: what a row does to it, unless it is refused.
use Rattle.std.specs.Prelude.{ℕ, List, [], ◌∷◌, Option, Some, None, Result, Ok, Err, is_some, length, take}
use Rattle.dex_types.specs.declared.addresses.Address.{Address}
use Rattle.dex_types.specs.declared.instructions.BadData.{BadData}
use Rattle.dex_types.specs.declared.instructions.Ix.{Ix}
use Rattle.dex_types.specs.declared.instructions.Ix.TheVariants.{InitializeMarket, MatchOrders, ConsumeEvents, SettleFunds, DisableMarket, SweepFees, NewOrderV3, CancelOrderV2, CancelOrderByClientIdV2, SendTake, CloseOpenOrders, InitOpenOrders, Prune, CancelOrdersByClientIds}
use Rattle.dex_types.specs.declared.refusals.Refusal.{Refusal}
use Rattle.dex_types.specs.declared.replies.Reply.{Reply}
use Rattle.dex_types.specs.declared.replies.Reply.TheVariants.{Cancelled, Consumed, Done, Refused}
use Rattle.dex_types.specs.declared.rows.Seen.{Seen}
use Rattle.dex_types.specs.declared.terms.Side.{Side}
use Rattle.dex_types.specs.Cancel.{RestingOrder, CancelBy, ById, ByClient, ByClients, First, cancelled, after_cancels}
use Rattle.dex_types.specs.Market.{Market, orders}
use Rattle.dex_types.specs.Meeting.{Meeting}
use Rattle.dex_types.specs.NewOrder.{NewOrder, Ordering, order_on, after_order, order_reply}
use Rattle.dex_types.specs.Payment.{consumable, after_crank}
use Rattle.dex_types.specs.Settle.{Settlement, settlement, settle_transfers, after_settle, settle_reply, sweep_transfers, after_sweep, sweep_reply}
use Rattle.dex_types.specs.Side.{locked_token, opposite}
use Rattle.dex_types.specs.Take.{Take, take_meeting, take_transfers, after_take, take_reply}
use Rattle.dex_types.specs.Transfers.{Transfers, no_transfers, deposit}
use Rattle.dex_types.specs.Upkeep.{after_init, after_close, after_disable}
use Rattle.dex_types.specs.Requests.{Request, Party, party_of}
use Rattle.dex_types.specs.Terms.{terms_order, terms_take}
use Rattle.dex_types.specs.Why.{why}

-- what came of a row: the market after it, the reply, and what moves between wallets and vaults
pub record Step : Type 0 where
  pub market : Market
  pub reply : Reply
  pub transfers : Transfers

-- the market has this state now, and nothing moves
abbrev pub done : Market → Step
done m = record { market = m; reply = Done; transfers = no_transfers }

-- a refused row leaves the market, and nothing moves
abbrev pub refused : Refusal → Market → Step
refused refusal m = record { market = m; reply = Refused refusal; transfers = no_transfers }

-- what an open account does; a row without one is refused
abbrev pub by_party : (Party → Step) → Market → Option Party → Step
by_party act m None = done m
by_party act m (Some party) = act party

-- a new order, as it was decided
abbrev pub ordered : Side → NewOrder → Market → Party → Ordering → Step
ordered side n m party ordering = record {
  market = after_order side party.account n ordering m;
  reply = order_reply n ordering;
  transfers = deposit (locked_token side) ordering.deposit;
}

-- a new order of an open account: what it decides on the market, done
abbrev pub act_order : Side → (Address → NewOrder) → Market → Party → Step
act_order side order m party =
    ordered side (order party.address) m party (order_on side m party.account (order party.address))

-- a take, as it met the opposite side
abbrev pub took : Side → Take → Market → Meeting → Step
took side t m met = record {
  market = after_take side t met m;
  reply = take_reply t met;
  transfers = take_transfers side m.listing.sizes t met;
}

-- a take: what it meets of the opposite side, done
abbrev pub act_take : Side → Take → Market → Step
act_take side t m = took side t m (take_meeting side m.listing.sizes t (orders (opposite side) m))

-- cancels of these orders
abbrev pub cancelled_all : List RestingOrder → Market → Step
cancelled_all gone m = record { market = after_cancels gone m; reply = Cancelled (length gone); transfers = no_transfers }

-- a cancel of an open account: the orders that it names, cancelled
abbrev pub act_cancel : CancelBy → Market → Party → Step
act_cancel by m party = cancelled_all (cancelled by party.address m.bids m.asks) m

-- this many events consumed from the front
abbrev pub consumed : ℕ → Market → Step
consumed count m = record { market = after_crank count m; reply = Consumed count; transfers = no_transfers }

-- a crank: as many events consumed as the limit and the named accounts allow
abbrev pub act_consume : ℕ → List Address → Market → Step
act_consume limit named m = consumed (consumable limit named m.events) m

-- an account settled
abbrev pub settled : Market → Party → Settlement → Step
settled m party s = record {
  market = after_settle party.address party.account s m;
  reply = settle_reply s;
  transfers = settle_transfers s;
}

-- an open account settled, by whether a referrer's wallet is seen
abbrev pub act_settle : Seen → Market → Party → Step
act_settle seen m party = settled m party (settlement (is_some seen.referrer) party.account)

-- the fees swept
abbrev pub act_sweep : Market → Step
act_sweep m = record { market = after_sweep m; reply = sweep_reply m; transfers = sweep_transfers m }

-- the first named account opened for the signer
abbrev pub act_init : List Address → Address → Market → Step
act_init [] signer m = done m
act_init (address ∷ others) signer m = done (after_init address signer m)

-- the account closed
abbrev pub act_close : Market → Party → Step
act_close m party = done (after_close party.address m)

-- what an instruction does where it is not refused
abbrev pub act : Ix → Request → Seen → Market → Step
act (InitializeMarket coin_lot pc_lot fee_rate_bps nonce dust) request seen m = done m
act (MatchOrders limit) request seen m = done m
act (ConsumeEvents limit) request seen m = act_consume limit request.named m
act SettleFunds request seen m = by_party (act_settle seen m) m (party_of request.named m.traders)
act DisableMarket request seen m = done (after_disable m)
act SweepFees request seen m = act_sweep m
act (NewOrderV3 side price lots max_pc self_trade order_type client limit latest) request seen m =
    by_party (act_order side (terms_order request seen price lots max_pc self_trade order_type client limit latest) m) m (party_of request.named m.traders)
act (CancelOrderV2 side id) request seen m = by_party (act_cancel (ById side id) m) m (party_of request.named m.traders)
act (CancelOrderByClientIdV2 client) request seen m = by_party (act_cancel (ByClient client) m) m (party_of request.named m.traders)
act (SendTake side price lots max_pc min_lots min_pc limit) request seen m = act_take side (terms_take seen price lots max_pc min_lots min_pc limit) m
act CloseOpenOrders request seen m = by_party (act_close m) m (party_of request.named m.traders)
act InitOpenOrders request seen m = act_init request.named request.signer m
act (Prune limit) request seen m = by_party (act_cancel (First limit) m) m (party_of request.named m.traders)
act (CancelOrdersByClientIds ids) request seen m =
    by_party (act_cancel (ByClients (take ids.count ids.ids)) m) m (party_of request.named m.traders)

-- what decoded data does; data that does not decode is refused
abbrev pub act_decoded : Result Ix BadData → Request → Seen → Market → Step
act_decoded (Err rule) request seen m = done m
act_decoded (Ok ix) request seen m = act ix request seen m

-- the step that was decided: refused for a reason, or done
abbrev pub unless_refused : Option Refusal → Market → Step → Step
unless_refused (Some refusal) m acted = refused refusal m
unless_refused None m acted = acted

-- the step of a row on a market
abbrev pub step : Request → Seen → Market → Step
step request seen m = unless_refused (why request seen m) m (act_decoded request.instruction request seen m)

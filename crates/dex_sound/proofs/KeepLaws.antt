-- what every step keeps
use Rattle.std.proofs.Common.{ℕ, ◌≡◌, List, [], ◌∷◌, Option, Some, None, Result, Ok, Err, is_some, take, refl, ap, ◌∙◌, arith}
use Rattle.dex_types.specs.declared.addresses.Address.{Address}
use Rattle.dex_types.specs.declared.instructions.BadData.{BadData}
use Rattle.dex_types.specs.declared.instructions.Ix.{Ix}
use Rattle.dex_types.specs.declared.instructions.Ix.TheVariants.{InitializeMarket, MatchOrders, ConsumeEvents, SettleFunds, DisableMarket, SweepFees, NewOrderV3, CancelOrderV2, CancelOrderByClientIdV2, SendTake, CloseOpenOrders, InitOpenOrders, Prune, CancelOrdersByClientIds}
use Rattle.dex_types.specs.declared.refusals.Refusal.{Refusal}
use Rattle.dex_types.specs.declared.rows.Seen.{Seen}
use Rattle.dex_types.specs.declared.terms.Side.{Side}
use Rattle.dex_types.specs.declared.terms.Side.TheVariants.{Bid, Ask}
use Rattle.dex_types.specs.Cancel.{RestingOrder, CancelBy, ById, ByClient, ByClients, First, cancelled, after_cancels, cancel_one}
use Rattle.dex_types.specs.Market.{Market, orders}
use Rattle.dex_types.specs.Meeting.{Meeting}
use Rattle.dex_types.specs.NewOrder.{NewOrder, Ordering, order_on}
use Rattle.dex_types.specs.Payment.{consumable, pay, pay_all, pay_owner, put_paid}
use Rattle.dex_types.specs.QueuedEvent.{QueuedEvent}
use Rattle.dex_types.specs.Settle.{Settlement, settlement}
use Rattle.dex_types.specs.Side.{opposite}
use Rattle.dex_types.specs.Take.{Take, take_meeting}
use Rattle.dex_types.specs.Trader.{Trader, Traders, Open, Closed, trader_at}
use Rattle.dex_types.specs.Upkeep.{after_init, after_close, after_disable, fresh_account}
use Rattle.dex_laws.proofs.TraderLaws.{addresses-put_trader}
use Rattle.dex_sound.specs.Kept.{addresses, KeepsMarket}
use Rattle.dex_types.specs.Requests.{Request, Party, party_of}
use Rattle.dex_types.specs.Steps.{Step, step, done, by_party, ordered, act_order, took, cancelled_all, act_cancel, consumed, settled, act_settle, act_init, act_close, act, act_decoded, unless_refused}
use Rattle.dex_types.specs.Terms.{terms_order, terms_take}
use Rattle.dex_types.specs.Why.{why}

-- a market with other traders at the same addresses
keeps-done : (m after : Market) → after.coin_vault ≡ m.coin_vault → after.pc_vault ≡ m.pc_vault → after.listing ≡ m.listing
    → addresses after.traders ≡ addresses m.traders → KeepsMarket m (done after)
keeps-done m after coin pc listing accounts = record {
  coin = coin ∙ omega arith;
  pc = pc ∙ omega arith;
  listing = listing;
  accounts = accounts;
}

keeps-same : (m : Market) → KeepsMarket m (done m)
keeps-same m = keeps-done m m refl refl refl refl

keeps-party : (act : Party → Step) (m : Market) (party : Option Party) → ((party : Party) → KeepsMarket m (act party)) → KeepsMarket m (by_party act m party)
keeps-party act m None each = keeps-same m
keeps-party act m (Some party) each = each party

keeps-order : (side : Side) (n : NewOrder) (m : Market) (party : Party) (ordering : Ordering) → KeepsMarket m (ordered side n m party ordering)
keeps-order Bid n m party ordering =
    record { coin = omega arith; pc = omega arith; listing = refl; accounts = addresses-put_trader n.owner _ m.traders }
keeps-order Ask n m party ordering =
    record { coin = omega arith; pc = omega arith; listing = refl; accounts = addresses-put_trader n.owner _ m.traders }

keeps-take : (side : Side) (t : Take) (m : Market) (met : Meeting) → KeepsMarket m (took side t m met)
keeps-take side t m met = record { coin = refl; pc = refl; listing = refl; accounts = refl }

-- cancels keep vaults, listing and traders
cancels-coin : (gone : List RestingOrder) (m : Market) → (after_cancels gone m).coin_vault ≡ m.coin_vault
cancels-coin [] m = refl
cancels-coin (first ∷ gone) m = cancels-coin gone (cancel_one first m)

cancels-pc : (gone : List RestingOrder) (m : Market) → (after_cancels gone m).pc_vault ≡ m.pc_vault
cancels-pc [] m = refl
cancels-pc (first ∷ gone) m = cancels-pc gone (cancel_one first m)

cancels-listing : (gone : List RestingOrder) (m : Market) → (after_cancels gone m).listing ≡ m.listing
cancels-listing [] m = refl
cancels-listing (first ∷ gone) m = cancels-listing gone (cancel_one first m)

cancels-traders : (gone : List RestingOrder) (m : Market) → (after_cancels gone m).traders ≡ m.traders
cancels-traders [] m = refl
cancels-traders (first ∷ gone) m = cancels-traders gone (cancel_one first m)

keeps-cancels : (gone : List RestingOrder) (m : Market) → KeepsMarket m (cancelled_all gone m)
keeps-cancels gone m = record {
  coin = cancels-coin gone m ∙ omega arith;
  pc = cancels-pc gone m ∙ omega arith;
  listing = cancels-listing gone m;
  accounts = ap addresses (cancels-traders gone m);
}

-- paying keeps addresses
put_paid-addresses : (owner : Address) (event : QueuedEvent) (found : Option Trader) (traders : Traders) → addresses (put_paid owner event found traders) ≡ addresses traders
put_paid-addresses owner event None traders = refl
put_paid-addresses owner event (Some trader) traders = addresses-put_trader owner (pay event trader) traders

pay_all-addresses : (events : List QueuedEvent) (traders : Traders) → addresses (pay_all events traders) ≡ addresses traders
pay_all-addresses [] traders = refl
pay_all-addresses (event ∷ events) traders =
    pay_all-addresses events (pay_owner event traders) ∙ put_paid-addresses event.owner event (trader_at event.owner traders) traders

keeps-consume : (count : ℕ) (m : Market) → KeepsMarket m (consumed count m)
keeps-consume count m =
    record { coin = omega arith; pc = omega arith; listing = refl; accounts = pay_all-addresses (take count m.events) m.traders }

keeps-settle : (m : Market) (party : Party) (s : Settlement) → KeepsMarket m (settled m party s)
keeps-settle m party s = record { coin = refl; pc = refl; listing = refl; accounts = addresses-put_trader party.address _ m.traders }

keeps-init : (named : List Address) (signer : Address) (m : Market) → KeepsMarket m (act_init named signer m)
keeps-init [] signer m = keeps-same m
keeps-init (address ∷ others) signer m =
    keeps-done m (after_init address signer m) refl refl refl (addresses-put_trader address (Open (fresh_account signer)) m.traders)

keeps-act_order : (side : Side) (order : Address → NewOrder) (m : Market) (party : Party) → KeepsMarket m (act_order side order m party)
keeps-act_order side order m party =
    keeps-order side (order party.address) m party (order_on side m party.account (order party.address))

keeps-act_cancel : (by : CancelBy) (m : Market) (party : Party) → KeepsMarket m (act_cancel by m party)
keeps-act_cancel by m party = keeps-cancels (cancelled by party.address m.bids m.asks) m

keeps-act_settle : (seen : Seen) (m : Market) (party : Party) → KeepsMarket m (act_settle seen m party)
keeps-act_settle seen m party = keeps-settle m party (settlement (is_some seen.referrer) party.account)

keeps-act_close : (m : Market) (party : Party) → KeepsMarket m (act_close m party)
keeps-act_close m party =
    keeps-done m (after_close party.address m) refl refl refl (addresses-put_trader party.address Closed m.traders)

keeps-act : (ix : Ix) (request : Request) (seen : Seen) (m : Market) → KeepsMarket m (act ix request seen m)
keeps-act (InitializeMarket coin_lot pc_lot fee_rate_bps nonce dust) request seen m = keeps-same m
keeps-act (MatchOrders limit) request seen m = keeps-same m
keeps-act (ConsumeEvents limit) request seen m = keeps-consume (consumable limit request.named m.events) m
keeps-act SettleFunds request seen m = keeps-party (act_settle seen m) m (party_of request.named m.traders) (keeps-act_settle seen m)
keeps-act DisableMarket request seen m = keeps-done m (after_disable m) refl refl refl refl
keeps-act SweepFees request seen m = record { coin = refl; pc = refl; listing = refl; accounts = refl }
keeps-act (NewOrderV3 side price lots max_pc self_trade order_type client limit latest) request seen m =
    let order : Address → NewOrder = terms_order request seen price lots max_pc self_trade order_type client limit latest in
    keeps-party (act_order side order m) m (party_of request.named m.traders) (keeps-act_order side order m)
keeps-act (CancelOrderV2 side id) request seen m =
    keeps-party (act_cancel (ById side id) m) m (party_of request.named m.traders) (keeps-act_cancel (ById side id) m)
keeps-act (CancelOrderByClientIdV2 client) request seen m =
    keeps-party (act_cancel (ByClient client) m) m (party_of request.named m.traders) (keeps-act_cancel (ByClient client) m)
keeps-act (SendTake side price lots max_pc min_lots min_pc limit) request seen m =
    let t : Take = terms_take seen price lots max_pc min_lots min_pc limit in
    keeps-take side t m (take_meeting side m.listing.sizes t (orders (opposite side) m))
keeps-act CloseOpenOrders request seen m = keeps-party (act_close m) m (party_of request.named m.traders) (keeps-act_close m)
keeps-act InitOpenOrders request seen m = keeps-init request.named request.signer m
keeps-act (Prune limit) request seen m =
    keeps-party (act_cancel (First limit) m) m (party_of request.named m.traders) (keeps-act_cancel (First limit) m)
keeps-act (CancelOrdersByClientIds ids) request seen m =
    let by : CancelBy = ByClients (take ids.count ids.ids) in
    keeps-party (act_cancel by m) m (party_of request.named m.traders) (keeps-act_cancel by m)

keeps-decoded : (instruction : Result Ix BadData) (request : Request) (seen : Seen) (m : Market) → KeepsMarket m (act_decoded instruction request seen m)
keeps-decoded (Err rule) request seen m = keeps-same m
keeps-decoded (Ok ix) request seen m = keeps-act ix request seen m

keeps-unless : (reason : Option Refusal) (m : Market) (acted : Step) → KeepsMarket m acted → KeepsMarket m (unless_refused reason m acted)
keeps-unless None m acted keeps = keeps
keeps-unless (Some refusal) m acted keeps = record { coin = omega arith; pc = omega arith; listing = refl; accounts = refl }

pub step-keeps : (request : Request) (seen : Seen) (m : Market) → KeepsMarket m (step request seen m)
step-keeps request seen m = keeps-unless (why request seen m) m _ (keeps-decoded request.instruction request seen m)

-- what was decided of a new order on a sound market has room there: in the book, the queue, the market's words and the
-- trader's funds
use Rattle.std.proofs.Common.{◌≡◌, ◌≢◌, eqb, ℕ, ◌+◌, ◌-◌, ◌*◌, ◌^◌, ◌<◌, ◌≤◌, true, false, ◌&&◌, [], ◌∷◌, Option, Some, None, length, refl, sym, ap, ◌∙◌, subst, arith, slice_index_or}
use Rattle.std.proofs.Math.Nat.{min-le_left}
use Rattle.std.proofs.lemmas.Bool.{eqb-false, eqb-true, leb-false, ltb-false, and_parts, false_from_ne_true}
use Rattle.std.proofs.lemmas.List.Elements.{All-weaker}
use Rattle.dex_types.specs.declared.orders.Order.{Order}
use Rattle.dex_types.specs.declared.terms.Lots.{Lots}
use Rattle.dex_types.specs.declared.terms.Side.{Side}
use Rattle.dex_types.specs.declared.terms.Side.TheVariants.{Bid, Ask}
use Rattle.dex_types.specs.declared.terms.Tier.{Tier}
use Rattle.dex_types.specs.declared.terms.Tier.TheVariants.{Base, Srm2, Srm3, Srm4, Srm5, Srm6, Msrm}
use Rattle.dex_types.specs.Fees.{tier_number}
use Rattle.dex_types.specs.Market.{Market, orders}
use Rattle.dex_types.specs.NewOrder.{NewOrder, Ordering, account_after, after_order, fee_of, full_lock, order_on, spent}
use Rattle.dex_types.specs.Owed.{order_lock}
use Rattle.dex_types.specs.Reasons.{ask_too_large, first_of}
use Rattle.dex_types.specs.Side.{Coin, Pc, id_of, opposite, sequence_of}
use Rattle.dex_types.specs.Soundness.{IsProper, IsSound, held_at, held_by, order_holding}
use Rattle.dex_types.specs.Why.{ordering_reasons, standing_reasons}
use Rattle.dex_types.specs.Tokens.{is_same_side}
use Rattle.dex_types.specs.Trader.{Account, Holding, Open, Trader, free_slot, trader_at}
use Rattle.dex_laws.proofs.BookSideLaws.{IsApart, order_with-none}
use Rattle.dex_laws.proofs.IdLaws.{price_of-id_of, sequence_of-id_of}
use Rattle.dex_laws.proofs.SpendLaws.{fee_of-covers, fee_of-le, rested-paid}
use Rattle.dex_laws.proofs.TraderLaws.{free_slot-free, free_slot-le, trader_at-put_same}
use Rattle.dex_fills.specs.Prospects.{FitsSums}
use Rattle.dex_orders.specs.declared.amounts.Funds.{Funds}
use Rattle.dex_orders.specs.OrdersAccount.{HasNoOrder, account_of, funds_of, holds_order}
use Rattle.dex_sound.specs.Fields.{AccountFits, FieldsFit}
use Rattle.dex_sound.proofs.FieldLaws.{fields-fit}
use Rattle.dex_sound.proofs.OrderSoundReasons.{first_of-none, refused_where-none}
use Rattle.dex_sound.proofs.PlaceLaws.{is_same_side-true}
use Rattle.dex_match.specs.declared.order_plan.OrderPlan.{OrderPlan}
use Rattle.dex_match.specs.Applying.{AreFunds, CanMove, CanPay, CanPost, CanTakeIn, CanTrade, events_by, funds_with, got_by, intake_by, moves_by, spent_by}
use Rattle.dex_match.specs.OrderParts.{OrderGiven, OrderParts, parts_of}
use Rattle.dex_match.proofs.PartsLaws.{GivenOf, SoundGiven}
use Rattle.dex_market.specs.MarketAccount.{sizes_of}
use Rattle.dex_match.specs.Ordering.{IsDecided, limits_in, order_reason, ordering_in, plan_by}
use Rattle.dex_match.specs.Planned.{CanApply}
use Rattle.dex_match.proofs.DecidedSound.{decided-sound}
use Rattle.dex_match.proofs.FittingLaws.{locks-fit, meeting-fits}
use Rattle.dex_match.proofs.PartsLaws.{parts_in, parts-are}

-- what is known of an order that is not refused
pub record IsAllowed (side : Side) (m : Market) (account : Account) (n : NewOrder) : Type 0 where
  pub slot : free_slot account.slots < 128
  pub sequence : m.next_sequence < 2 ^ 64 - 1
  pub lock : full_lock side m.listing.sizes n < 2 ^ 64
  pub room : length m.events + length (order_on side m account n).events ≤ m.listing.event_capacity
  pub after : IsSound (after_order side account n (order_on side m account n) m)

lock-allowed : (side : Side) (sizes : Lots) (n : NewOrder) → n.max_pc < 2 ^ 64 → ask_too_large side sizes n.lots ≡ None → full_lock side sizes n < 2 ^ 64
lock-allowed Bid sizes n small none = small
lock-allowed Ask sizes n small none = leb-false (2 ^ 64) (n.lots * sizes.coin) (refused_where-none _ _ none)

pub allowed : (side : Side) (n : NewOrder) (given : OrderGiven) (m : Market) (balance : ℕ) → IsSound m → GivenOf side n.owner given m → 1 ≤ n.price → n.max_pc < 2 ^ 64
    → order_reason side n (parts_of given) balance ≡ None → IsAllowed side m (account_of given.account) n
allowed side n given m balance sound are priced small accepted =
    let account : Account = account_of given.account in
    let parts : OrderParts = parts_in side m account in
    let o : Ordering = order_on side m account n in
    let none : order_reason side n parts balance ≡ None = subst (λ (p : OrderParts). order_reason side n p balance ≡ None) (parts-are side n.owner given m are) accepted in
    let both = first_of-none (first_of (standing_reasons side n (sizes_of parts.words) parts.next_sequence parts.account) ∷ first_of (ordering_reasons o (limits_in side parts o balance)) ∷ []) none in
    let early = first_of-none (standing_reasons side n (sizes_of parts.words) parts.next_sequence parts.account) both.0 in
    let late = first_of-none (ordering_reasons o (limits_in side parts o balance)) both.1.0 in
    let slots : length account.slots ≡ 128 = sound.form.slots n.owner account are.known in
    record {
      slot = omega (arith, slots, free_slot-le account.slots, eqb-false (free_slot account.slots) 128 (refused_where-none _ _ early.0));
      sequence = omega (arith, sound.form.sequence, eqb-false m.next_sequence (2 ^ 64 - 1) (refused_where-none _ _ early.1.1.0));
      lock = lock-allowed side m.listing.sizes n small early.1.0;
      room = omega (arith, sound.form.events_within, ltb-false (m.listing.event_capacity - length m.events) (length o.events) (refused_where-none _ _ late.1.0));
      after = decided-sound side n given m balance sound are priced accepted;
    }

pub tier_number-lt : (tier : Tier) → tier_number tier < 7
tier_number-lt Base = omega arith
tier_number-lt Srm2 = omega arith
tier_number-lt Srm3 = omega arith
tier_number-lt Srm4 = omega arith
tier_number-lt Srm5 = omega arith
tier_number-lt Srm6 = omega arith
tier_number-lt Msrm = omega arith

-- by a plan's numbers the fills take and bring what they do
pub spent-is : (side : Side) (sizes : Lots) (n : NewOrder) (o : Ordering) → spent_by side sizes (plan_by n o) ≡ spent side sizes n o.met
spent-is Bid sizes n o = refl
spent-is Ask sizes n o = refl

got-small : (side : Side) (sizes : Lots) (n : NewOrder) (o : Ordering) → FitsSums side sizes o.met → got_by side sizes (plan_by n o) < 2 ^ 64
got-small Bid sizes n o fits = fits.base
got-small Ask sizes n o fits = omega (arith, fits.pc)

can-move : (side : Side) (m : Market) (account : Account) (n : NewOrder) → n.lots < 2 ^ 64 → IsSound m → IsAllowed side m account n
    → CanMove side m.listing.sizes n (plan_by n (order_on side m account n))
can-move side m account n few sound may =
    let o : Ordering = order_on side m account n in
    let sizes : Lots = m.listing.sizes in
    record {
      fits = may.lock;
      deposit = omega arith;
      spent = omega (arith, spent-is side sizes n o, rested-paid side sizes n (orders (opposite side) m));
      fee = fee_of-le n o.met;
      got = got-small side sizes n o (meeting-fits side m n sound few may.lock);
    }

-- the id is new on the order's side
new-id : (side : Side) (m : Market) (n : NewOrder) → IsSound m → IsApart (id_of side n.price m.next_sequence) (orders side m)
new-id side m n sound =
    All-weaker (λ (o : Order). held_at o.owner o.slot m.traders ≡ Some (order_holding side o)) (λ (o : Order). o.id ≢ id_of side n.price m.next_sequence)
    (λ o is same.
    omega (arith, sound.slots.given o.owner o.slot (order_holding side o) is, ap (sequence_of side) same, sequence_of-id_of side n.price m.next_sequence sound.form.sequence))
    (orders side m) (sound.slots.resting side)

can-post : (side : Side) (m : Market) (account : Account) (n : NewOrder) → 1 ≤ n.price → IsSound m → IsAllowed side m account n
    → CanPost side m.listing.sizes (order_on side m account n).order (parts_in side m account).own_room (orders side m)
can-post side m account n priced sound may = record {
  new = order_with-none (id_of side n.price m.next_sequence) (orders side m) (new-id side m n sound);
  price = omega (arith, priced, price_of-id_of side n.price m.next_sequence sound.form.sequence);
  slot = may.slot;
  tier = tier_number-lt n.tier;
  locks = All-weaker (IsProper side m.listing.sizes) (λ (other : Order). order_lock side m.listing.sizes other < 2 ^ 64) (λ other is. is.lock) (orders side m) (sound.form.proper side);
  capacity = sound.form.room side;
}

-- the events by a plan are those that were decided
pub events-are : (side : Side) (n : NewOrder) (parts : OrderParts)
    → events_by side (sizes_of parts.words) n (plan_by n (ordering_in side n parts)) (ordering_in side n parts).met (ordering_in side n parts).posting ≡ (ordering_in side n parts).events
events-are Bid n parts = refl
events-are Ask n parts = refl

can-trade : (side : Side) (m : Market) (account : Account) (n : NewOrder) → 1 ≤ n.price → n.lots < 2 ^ 64 → IsSound m → IsAllowed side m account n
    → CanTrade side m.listing.sizes n (plan_by n (order_on side m account n)) (parts_in side m account).own_room (orders side m) (orders (opposite side) m) (parts_in side m account).ring
can-trade side m account n priced few sound may = record {
  sums = meeting-fits side m n sound few may.lock;
  locks = locks-fit side m sound;
  moves = can-move side m account n few sound may;
  posts = can-post side m account n priced sound may;
  counted = sound.form.counted;
  queue = omega (arith, may.room, ap length (events-are side n (parts_in side m account)));
}

can-take_in : (side : Side) (m : Market) (account : Account) (n : NewOrder) → IsSound m → IsAllowed side m account n
    → CanTakeIn (intake_by side (order_on side m account n).deposit (fee_of n (order_on side m account n).met) (order_on side m account n).met.rebates) (parts_in side m account).words
can-take_in Bid m account n sound may =
    let fits : FieldsFit (after_order Bid account n (order_on Bid m account n) m) = fields-fit _ may.after in
    record {
      coin = omega (arith, fits.vaults Coin);
      pc = omega (arith, fits.vaults Pc);
      earned = omega (arith, may.after.funds.solvent.vaults Pc, sound.funds.solvent.vaults Pc);
      fees = fits.pc_fees;
      referrer = fits.rebates;
    }
can-take_in Ask m account n sound may =
    let fits : FieldsFit (after_order Ask account n (order_on Ask m account n) m) = fields-fit _ may.after in
    record {
      coin = omega (arith, fits.vaults Coin);
      pc = omega (arith, fits.vaults Pc);
      earned = omega (arith, may.after.funds.solvent.vaults Pc, sound.funds.solvent.vaults Pc);
      fees = fits.pc_fees;
      referrer = fits.rebates;
    }

-- what a slot holds is an order of an earlier sequence number
not-held : (side : Side) (price next : ℕ) (found : Option Holding) → next < 2 ^ 64 → ((held : Holding) → found ≡ Some held → sequence_of held.side held.id < next)
    → holds_order (id_of side price next) side found ≡ false
not-held side price next None small earlier = refl
not-held side price next (Some held) small earlier =
    false_from_ne_true (eqb held.id (id_of side price next) && is_same_side held.side side) (λ both.
    let parts : (eqb held.id (id_of side price next) ≡ true) × (is_same_side held.side side ≡ true) =
    and_parts (eqb held.id (id_of side price next)) (is_same_side held.side side) both in
    let ids : held.id ≡ id_of side price next = eqb-true held.id (id_of side price next) parts.0 in
    let ages : sequence_of held.side held.id ≡ next =
    ap (λ s. sequence_of s held.id) (is_same_side-true held.side side parts.1) ∙ ap (sequence_of side) ids ∙ sequence_of-id_of side price next small in
    omega (arith, earlier held refl, ages))

-- no slot of the account holds the order
is-fresh : (side : Side) (m : Market) (account : Account) (n : NewOrder) → IsSound m → trader_at n.owner m.traders ≡ Some (Open account)
    → HasNoOrder (id_of side n.price m.next_sequence) side account.slots
is-fresh side m account n sound known slot =
    not-held side n.price m.next_sequence (slice_index_or account.slots slot None) sound.form.sequence
    (λ held is. sound.slots.given n.owner slot held (ap (λ (t : Option Trader). held_by t slot) known ∙ is))

-- the funds after a plan are those of the account after the order
pub funds-are : (side : Side) (m : Market) (account : Account) (n : NewOrder)
    → account.coin.free ≤ account.coin.total → account.pc.free ≤ account.pc.total
    → funds_with side (moves_by side m.listing.sizes n (plan_by n (order_on side m account n))) (funds_of account)
    ≡ funds_of (account_after side m.listing.sizes n (order_on side m account n) account)
funds-are Bid m account n coin pc =
    let o : Ordering = order_on Bid m account n in
    let sizes : Lots = m.listing.sizes in
    let after : Funds = funds_of (account_after Bid sizes n o account) in
    let moves = moves_by Bid sizes n (plan_by n o) in
    let paid = rested-paid Bid sizes n m.asks in
    let least = min-le_left account.pc.free n.max_pc in
    let free : account.pc.free - moves.from_free + (moves.left - moves.locked) ≡ after.pc_free = omega (arith, paid, least) in
    let total : account.pc.total - moves.from_free + moves.left ≡ after.pc_total = omega (arith, paid, least, pc) in
    ap (λ (x : ℕ). record after { pc_free = x; pc_total = account.pc.total - moves.from_free + moves.left }) free ∙ ap (λ (x : ℕ). record after { pc_total = x }) total
funds-are Ask m account n coin pc =
    let o : Ordering = order_on Ask m account n in
    let sizes : Lots = m.listing.sizes in
    let after : Funds = funds_of (account_after Ask sizes n o account) in
    let moves = moves_by Ask sizes n (plan_by n o) in
    let paid = rested-paid Ask sizes n m.bids in
    let least = min-le_left account.coin.free (n.lots * sizes.coin) in
    let free : account.coin.free - moves.from_free + (moves.left - moves.locked) ≡ after.coin_free = omega (arith, paid, least) in
    let total : account.coin.total - moves.from_free + moves.left ≡ after.coin_total = omega (arith, paid, least, coin) in
    ap (λ (x : ℕ). record after { coin_free = x; coin_total = account.coin.total - moves.from_free + moves.left }) free ∙ ap (λ (x : ℕ). record after { coin_total = x }) total

can-pay : (side : Side) (m : Market) (account : Account) (n : NewOrder) → IsSound m → trader_at n.owner m.traders ≡ Some (Open account) → IsAllowed side m account n
    → CanPay side (moves_by side m.listing.sizes n (plan_by n (order_on side m account n))) (funds_of account)
can-pay side m account n sound known may =
    let o : Ordering = order_on side m account n in
    let fits : AccountFits account = (fields-fit m sound).accounts n.owner account known in
    let after : AccountFits (account_after side m.listing.sizes n o account) =
    (fields-fit _ may.after).accounts n.owner (account_after side m.listing.sizes n o account) (trader_at-put_same n.owner (Open account) (Open (account_after side m.listing.sizes n o account)) m.traders known) in
    let funds : AreFunds (funds_of (account_after side m.listing.sizes n o account)) =
    record { coin = after.free Coin; pc = after.free Pc; coin_fits = after.total Coin; pc_fits = after.total Pc } in
    from-free side m account n fits (subst AreFunds (sym (funds-are side m account n (fits.free Coin) (fits.free Pc))) funds)
  where
    from-free : (side : Side) (m : Market) (account : Account) (n : NewOrder) → AccountFits account
        → AreFunds (funds_with side (moves_by side m.listing.sizes n (plan_by n (order_on side m account n))) (funds_of account))
        → CanPay side (moves_by side m.listing.sizes n (plan_by n (order_on side m account n))) (funds_of account)
    from-free Bid m account n fits funds =
        let least = min-le_left account.pc.free n.max_pc in record {
          from_free = omega (arith, least);
          from_total = omega (arith, least, fits.free Pc);
          locked = omega (arith, rested-paid Bid m.listing.sizes n m.asks);
          after = funds;
        }
    from-free Ask m account n fits funds =
        let least = min-le_left account.coin.free (n.lots * m.listing.sizes.coin) in record {
          from_free = omega (arith, least);
          from_total = omega (arith, least, fits.free Coin);
          locked = omega (arith, rested-paid Ask m.listing.sizes n m.bids);
          after = funds;
        }

-- so all of it can be done
can-apply : (side : Side) (m : Market) (account : Account) (n : NewOrder) → 1 ≤ n.price → n.lots < 2 ^ 64 → IsSound m → trader_at n.owner m.traders ≡ Some (Open account)
    → IsAllowed side m account n → CanApply side n (plan_by n (order_on side m account n)) (parts_in side m account)
can-apply side m account n priced few sound known may = record {
  left = may.sequence;
  trades = can-trade side m account n priced few sound may;
  covers = fee_of-covers side m.listing.sizes n (orders (opposite side) m);
  takes_in = can-take_in side m account n sound may;
  free = free_slot-free account.slots None (omega (arith, sound.form.slots n.owner account known, may.slot));
  fresh = is-fresh side m account n sound known;
  pays = can-pay side m account n sound known may;
}

-- and by what is given of the market
pub given-apply : (side : Side) (n : NewOrder) (given : OrderGiven) (plan : OrderPlan) → 1 ≤ n.price → n.lots < 2 ^ 64 → n.max_pc < 2 ^ 64 → SoundGiven side n.owner given
    → IsDecided plan side n (parts_of given) → CanApply side n plan (parts_of given)
given-apply side n given plan priced few small parts decided =
    let m : Market = parts.market in
    let account : Account = account_of given.account in
    let are : GivenOf side n.owner given m = parts.parts in
    let may : IsAllowed side m account n = allowed side n given m decided.balance parts.sound are priced small decided.accepted in
    subst (λ (p : OrderPlan). CanApply side n p (parts_of given)) (sym decided.planned)
    (subst (λ (p : OrderParts). CanApply side n (plan_by n (ordering_in side n p)) p) (sym (parts-are side n.owner given m are))
    (can-apply side m account n priced few parts.sound are.known may))

-- the funds by what is given
pub given-funds : (side : Side) (n : NewOrder) (given : OrderGiven) (plan : OrderPlan) → SoundGiven side n.owner given → IsDecided plan side n (parts_of given)
    → funds_with side (moves_by side (sizes_of (parts_of given).words) n plan) (funds_of (account_of given.account))
    ≡ funds_of (account_after side (sizes_of (parts_of given).words) n (ordering_in side n (parts_of given)) (account_of given.account))
given-funds side n given plan parts decided =
    let m : Market = parts.market in
    let account : Account = account_of given.account in
    let fits : AccountFits account = (fields-fit m parts.sound).accounts n.owner account parts.parts.known in
    subst
    (λ (p : OrderPlan). funds_with side (moves_by side (sizes_of (parts_of given).words) n p) (funds_of account)
    ≡ funds_of (account_after side (sizes_of (parts_of given).words) n (ordering_in side n (parts_of given)) account))
    (sym decided.planned)
    (subst
    (λ (p : OrderParts). funds_with side (moves_by side (sizes_of p.words) n (plan_by n (ordering_in side n p))) (funds_of account)
    ≡ funds_of (account_after side (sizes_of p.words) n (ordering_in side n p) account))
    (sym (parts-are side n.owner given m parts.parts))
    (funds-are side m account n (fits.free Coin) (fits.free Pc)))

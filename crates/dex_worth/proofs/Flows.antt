-- Nothing is made or lost: what accounts are worth, what a market has taken and what takes moved, over a history.
use Rattle.std.proofs.Common.{ℕ, pos, ◌+◌, ◌+ℤ◌, ◌-ℤ◌, ◌≡◌, false, cond, List, [], ◌∷◌, get_or, map, Option, Some, None, Result, Ok, Err, is_some, take, refl, sym, ap, ◌∙◌, subst, arith}
use Rattle.std.specs.List.{All}
use Rattle.std.proofs.lemmas.Bool.{cond-true, cond-false}
use Rattle.std.proofs.lemmas.Int.{ints}
use Rattle.std.proofs.lemmas.List.Elements.{All-nil, All-cons, All-head, All-tail, All-weaker}
use Rattle.dex_types.specs.declared.addresses.Address.{Address}
use Rattle.dex_types.specs.declared.instructions.BadData.{BadData}
use Rattle.dex_types.specs.declared.instructions.Ix.{Ix}
use Rattle.dex_types.specs.declared.instructions.Ix.TheVariants.{ConsumeEvents, SettleFunds, SweepFees, NewOrderV3, CancelOrderV2, CancelOrderByClientIdV2, SendTake, CloseOpenOrders, InitOpenOrders, Prune, CancelOrdersByClientIds}
use Rattle.dex_types.specs.declared.orders.Order.{Order}
use Rattle.dex_types.specs.declared.refusals.Refusal.{Refusal}
use Rattle.dex_types.specs.declared.replies.Reply.TheVariants.{Cancelled, Consumed}
use Rattle.dex_types.specs.declared.rows.Seen.{Seen}
use Rattle.dex_types.specs.declared.terms.Side.{Side}
use Rattle.dex_types.specs.declared.terms.Side.TheVariants.{Bid, Ask}
use Rattle.dex_types.specs.Addresses.{is_same}
use Rattle.dex_types.specs.Market.{Market, orders}
use Rattle.dex_types.specs.NewOrder.{NewOrder, Ordering, order_on}
use Rattle.dex_types.specs.Owed.{order_lock, owed}
use Rattle.dex_types.specs.QueuedEvent.{QueuedEvent}
use Rattle.dex_types.specs.Requests.{Request, Party, party_of}
use Rattle.dex_types.specs.Settle.{Settlement, settlement}
use Rattle.dex_types.specs.Side.{Token, Coin, Pc, by_token}
use Rattle.dex_types.specs.Solvency.{all_free, all_locked, all_owed, earned, own_locked, vault}
use Rattle.dex_types.specs.Soundness.{AreDistinct, AreHeld, IsSound, event_holding, held_at, held_by, order_holding}
use Rattle.dex_types.specs.Steps.{Step, act, act_cancel, act_close, act_decoded, act_init, act_order, act_settle, act_sweep, act_take, by_party, done, ordered, refused, settled, unless_refused}
use Rattle.dex_types.specs.Take.{Take}
use Rattle.dex_types.specs.Terms.{terms_order, terms_take}
use Rattle.dex_types.specs.Tokens.{locking_side}
use Rattle.dex_types.specs.Totals.{total}
use Rattle.dex_types.specs.Trader.{Holding, Open, Trader, Traders, trader_at}
use Rattle.dex_types.specs.Transfers.{no_transfers}
use Rattle.dex_types.specs.Cancel.{ById, ByClient, ByClients, First}
use Rattle.dex_types.specs.Why.{why}
use Rattle.dex_laws.proofs.TotalLaws.{total-agree, total-none, total-plus}
use Rattle.dex_laws.proofs.TraderLaws.{is_same-refl, is_same-sym, is_same-true, trader_at-here, trader_at-there, traders-induction}
use Rattle.dex_sound.specs.Kept.{KeepsMarket, addresses}
use Rattle.dex_sound.proofs.KeepLaws.{step-keeps}
use Rattle.dex_history.specs.Journal.{Call, IsLegal, acted_of, market_after, step_of}
use Rattle.dex_history.proofs.BalanceLaws.{ArePaid}
use Rattle.dex_history.proofs.HeldLaws.{acted-priced}
use Rattle.dex_history.proofs.PriceLaws.{asked-sound, calls-sound}
use Rattle.dex_history.proofs.StepConserves.{row-paid}
use Rattle.dex_eager.specs.Eager.{Eager}
use Rattle.dex_eager.specs.Histories.{moves_after, moves_of}
use Rattle.dex_eager.specs.Worth.{Ledger, deposit_in, for_account, free_in, held_for, no_moves, own_owed, referred_in, settled_in, swept_in, takings_of, with_step, worth_in, worth_of}
use Rattle.dex_eager.proofs.DelayLaws.{addresses-after, history-market}
use Rattle.dex_eager.proofs.FundSteps.{IsParty, party-is}
use Rattle.dex_eager.proofs.StepMoves.{for_account-none}
use Rattle.dex_worth.specs.Flows.{AddUp, all_brought, all_taken, brought_in, in_token, sum_of, taken_out}

-- ---- each item to its owner

-- an amount of one address
abbrev of_owner : Address → ℕ → Address → ℕ
of_owner owner amount a = cond (is_same a owner) amount 0

abbrev IsHere : Traders → Address → Type 0
IsHere traders a = (trader : Trader) × (trader_at a traders ≡ Some trader)

-- accounts are at other addresses than one that none has
all-apart : (owner : Address) (traders : Traders) → trader_at owner traders ≡ None → All (λ (a : Address). is_same a owner ≡ false) (addresses traders)
all-apart owner =
    traders-induction owner (λ traders. trader_at owner traders ≡ None → All (λ (a : Address). is_same a owner ≡ false) (addresses traders))
    (λ none. All-nil (λ (a : Address). is_same a owner ≡ false))
    (λ entry others same none. let found : trader_at owner (entry ∷ others) ≡ Some entry.1 = trader_at-here owner entry others same in absurd (cc))
    (λ entry others apart rest none.
    All-cons (λ (a : Address). is_same a owner ≡ false) entry.0 (addresses others) (is_same-sym entry.0 owner ∙ apart)
    (rest (sym (trader_at-there owner entry others apart) ∙ none)))

nobody : (owner : Address) (amount : ℕ) (traders : Traders) → trader_at owner traders ≡ None → total (of_owner owner amount) (addresses traders) ≡ 0
nobody owner amount traders none =
    total-none (of_owner owner amount) (addresses traders)
    (All-weaker (λ (a : Address). is_same a owner ≡ false) (λ a. of_owner owner amount a ≡ 0) (λ a far. cond-false (is_same a owner) amount 0 far) (addresses traders)
    (all-apart owner traders none))

one-owner : (owner : Address) (amount : ℕ) (traders : Traders) → AreDistinct traders → IsHere traders owner → total (of_owner owner amount) (addresses traders) ≡ amount
one-owner owner amount =
    traders-induction owner (λ traders. AreDistinct traders → IsHere traders owner → total (of_owner owner amount) (addresses traders) ≡ amount)
    (λ distinct here. let found : trader_at owner [] ≡ Some here.0 = here.1 in absurd (cc))
    (λ entry others same distinct here.
    let none : trader_at owner others ≡ None = ap (λ (a : Address). trader_at a others) (is_same-true owner entry.0 same) ∙ distinct.0 in
    let all : of_owner owner amount entry.0 ≡ amount = cond-true (is_same entry.0 owner) amount 0 (is_same-sym entry.0 owner ∙ same) in
    omega (arith, all, nobody owner amount others none))
    (λ entry others apart rest distinct here.
    let far : of_owner owner amount entry.0 ≡ 0 = cond-false (is_same entry.0 owner) amount 0 (is_same-sym entry.0 owner ∙ apart) in
    omega (arith, far, rest distinct.1 (here.0, sym (trader_at-there owner entry others apart) ∙ here.1)))

all-owners : {X : Type 0} (of : X → Address) (weight : X → ℕ) (traders : Traders) → AreDistinct traders → (xs : List X) → All (λ (x : X). IsHere traders (of x)) xs
    → total (λ (a : Address). total (λ (x : X). of_owner (of x) (weight x) a) xs) (addresses traders) ≡ total weight xs
all-owners of weight traders distinct [] here = total-none (λ (a : Address). 0) (addresses traders) (λ k d lt. refl)
all-owners {X} of weight traders distinct (x ∷ xs) here = omega (
  arith,
  total-plus (of_owner (of x) (weight x)) (λ (a : Address). total (λ (y : X). of_owner (of y) (weight y) a) xs) (addresses traders),
  one-owner (of x) (weight x) traders distinct (All-head (λ (y : X). IsHere traders (of y)) x xs here),
  all-owners of weight traders distinct xs (All-tail (λ (y : X). IsHere traders (of y)) x xs here),
)

-- ---- what a market holds for all its accounts

free-all : (token : Token) (traders : Traders) → AreDistinct traders → total (λ (a : Address). free_in token (trader_at a traders)) (addresses traders) ≡ all_free token traders
free-all token [] distinct = refl
free-all token (entry ∷ others) distinct = omega (
  arith,
  ap (free_in token) (trader_at-here entry.0 entry others (is_same-refl entry.0)),
  total-agree (λ (a : Address). free_in token (trader_at a (entry ∷ others))) (λ (a : Address). free_in token (trader_at a others)) (addresses others)
      (All-weaker (λ (a : Address). is_same a entry.0 ≡ false) (λ a. free_in token (trader_at a (entry ∷ others)) ≡ free_in token (trader_at a others))
      (λ a apart. ap (free_in token) (trader_at-there a entry others apart)) (addresses others) (all-apart entry.0 others distinct.0)),
  free-all token others distinct.1,
)

held-here : (owner : Address) (slot : ℕ) (held : Holding) (traders : Traders) → held_at owner slot traders ≡ Some held → IsHere traders owner
held-here owner slot held traders is = go (trader_at owner traders) is
  where
    go : (found : Option Trader) → held_by found slot ≡ Some held → (trader : Trader) × (found ≡ Some trader)
    go None none = absurd (cc)
    go (Some trader) some = (trader, refl)

events-here : (traders : Traders) (events : List QueuedEvent) → AreHeld traders events → All (λ (event : QueuedEvent). IsHere traders event.owner) events
events-here traders [] held = All-nil _
events-here traders (event ∷ events) held =
    All-cons (λ (one : QueuedEvent). IsHere traders one.owner) event events (held-here event.owner event.slot (event_holding event) traders held.0)
    (events-here traders events held.2)

module _ (token : Token) (m : Market) (sound : IsSound m) where
  abbrev accounts : List Address
  accounts = addresses m.traders

  abbrev side : Side
  side = locking_side token

  orders-here : All (λ (order : Order). IsHere m.traders order.owner) (orders side m)
  orders-here =
      All-weaker (λ (order : Order). held_at order.owner order.slot m.traders ≡ Some (order_holding side order)) (λ (order : Order). IsHere m.traders order.owner)
      (λ order is. held-here order.owner order.slot (order_holding side order) m.traders is) (orders side m) (sound.slots.resting side)

  locked-all : total (λ (a : Address). own_locked token a m) accounts ≡ all_locked token m
  locked-all = all-owners (λ (order : Order). order.owner) (order_lock side m.listing.sizes) m.traders sound.form.distinct (orders side m) orders-here

  owed-all : total (λ (a : Address). own_owed token a m.events) accounts ≡ all_owed token m.events
  owed-all =
      all-owners (λ (event : QueuedEvent). event.owner) (owed token) m.traders sound.form.distinct m.events (events-here m.traders m.events sound.slots.pending)

  -- so the vault has that, and what the market earned
  pub vault-is : vault token m ≡ total (λ (a : Address). held_for token a m) accounts + earned token m
  vault-is = omega (
    arith,
    total-plus (λ (a : Address). free_in token (trader_at a m.traders) + own_locked token a m) (λ (a : Address). own_owed token a m.events) accounts,
    total-plus (λ (a : Address). free_in token (trader_at a m.traders)) (λ (a : Address). own_locked token a m) accounts,
    free-all token m.traders sound.form.distinct,
    locked-all,
    owed-all,
    sound.funds.solvent.vaults token,
  )

-- ---- what enters and leaves with a row

record Flows (token : Token) (named accounts : List Address) (s : Step) : Type 0 where
  enters : by_token token s.transfers.coin_in s.transfers.pc_in
      ≡ total (λ (a : Address). for_account a named (deposit_in token s.reply s.transfers)) accounts + brought_in token s.reply s.transfers
  leaves : by_token token s.transfers.coin_out (s.transfers.pc_out + s.transfers.referrer_out)
      ≡ total (λ (a : Address). for_account a named (settled_in token s.reply)) accounts + by_token token 0 (swept_in s.reply + referred_in s.reply)
      + taken_out token s.reply s.transfers

none-for : (named accounts : List Address) → total (λ (a : Address). for_account a named 0) accounts ≡ 0
none-for named accounts = total-none (λ (a : Address). for_account a named 0) accounts (λ k d lt. for_account-none (get_or accounts k d) named)

module _ (request : Request) (m : Market) (sound : IsSound m) where
  abbrev Balanced : Step → Type 0
  Balanced s = (token : Token) → Flows token request.named (addresses m.traders) s

  none : total (λ (a : Address). for_account a request.named 0) (addresses m.traders) ≡ 0
  none = none-for request.named (addresses m.traders)

  done-flows : (after : Market) → Balanced (done after)
  done-flows after Coin = record { enters = omega (arith, none); leaves = omega (arith, none) }
  done-flows after Pc = record { enters = omega (arith, none); leaves = omega (arith, none) }

  refused-flows : (refusal : Refusal) → Balanced (refused refusal m)
  refused-flows refusal Coin = record { enters = omega (arith, none); leaves = omega (arith, none) }
  refused-flows refusal Pc = record { enters = omega (arith, none); leaves = omega (arith, none) }

  cancel-flows : (gone : ℕ) (after : Market) → Balanced (record { market = after; reply = Cancelled gone; transfers = no_transfers })
  cancel-flows gone after Coin = record { enters = omega (arith, none); leaves = omega (arith, none) }
  cancel-flows gone after Pc = record { enters = omega (arith, none); leaves = omega (arith, none) }

  consume-flows : (count : ℕ) (after : Market) → Balanced (record { market = after; reply = Consumed count; transfers = no_transfers })
  consume-flows count after Coin = record { enters = omega (arith, none); leaves = omega (arith, none) }
  consume-flows count after Pc = record { enters = omega (arith, none); leaves = omega (arith, none) }

  sweep-flows : Balanced (act_sweep m)
  sweep-flows Coin = record { enters = omega (arith, none); leaves = omega (arith, none) }
  sweep-flows Pc = record { enters = omega (arith, none); leaves = omega (arith, none) }

  take-flows : (side : Side) (t : Take) → Balanced (act_take side t m)
  take-flows side t Coin = record { enters = omega (arith, none); leaves = omega (arith, none) }
  take-flows side t Pc = record { enters = omega (arith, none); leaves = omega (arith, none) }

  -- an amount for the account that the row acts on
  party-sum : (party : Party) → party_of request.named m.traders ≡ Some party → (amount : ℕ)
      → total (λ (a : Address). for_account a request.named amount) (addresses m.traders) ≡ amount
  party-sum party found amount =
      let is : IsParty request.named m.traders party = party-is request.named m.traders party found in
      total-agree (λ (a : Address). for_account a request.named amount) (of_owner party.address amount) (addresses m.traders)
      (λ k d lt. ap (λ own. cond own amount 0) (is.first (get_or (addresses m.traders) k d)))
      ∙ one-owner party.address amount m.traders sound.form.distinct (Open party.account, is.found)

  ordered-flows : (side : Side) (n : NewOrder) (party : Party) (ordering : Ordering) → party_of request.named m.traders ≡ Some party → Balanced (ordered side n m party ordering)
  ordered-flows Bid n party ordering found Coin = record { enters = omega (arith, none); leaves = omega (arith, none) }
  ordered-flows Bid n party ordering found Pc = record { enters = omega (arith, party-sum party found ordering.deposit); leaves = omega (arith, none) }
  ordered-flows Ask n party ordering found Coin = record { enters = omega (arith, party-sum party found ordering.deposit); leaves = omega (arith, none) }
  ordered-flows Ask n party ordering found Pc = record { enters = omega (arith, none); leaves = omega (arith, none) }

  settled-flows : (party : Party) (s : Settlement) → party_of request.named m.traders ≡ Some party → Balanced (settled m party s)
  settled-flows party s found Coin = record { enters = omega (arith, none); leaves = omega (arith, party-sum party found s.coin) }
  settled-flows party s found Pc = record { enters = omega (arith, none); leaves = omega (arith, party-sum party found s.pc) }

  party-flows : (does : Party → Step) (party : Option Party) → ((p : Party) → party ≡ Some p → Balanced (does p)) → Balanced (by_party does m party)
  party-flows does None each = done-flows m
  party-flows does (Some p) each = each p refl

  init-flows : (some : List Address) (signer : Address) → Balanced (act_init some signer m)
  init-flows [] signer = done-flows m
  init-flows (address ∷ others) signer = done-flows _

  acts : (ix : Ix) (seen : Seen) → Balanced (act ix request seen m)
  acts (ConsumeEvents limit) seen = consume-flows _ _
  acts SettleFunds seen =
      party-flows (act_settle seen m) (party_of request.named m.traders) (λ party found. settled-flows party (settlement (is_some seen.referrer) party.account) found)
  acts SweepFees seen = sweep-flows
  acts (NewOrderV3 side price lots max_pc self_trade order_type client limit latest) seen =
      let order : Address → NewOrder = terms_order request seen price lots max_pc self_trade order_type client limit latest in
      party-flows (act_order side order m) (party_of request.named m.traders)
      (λ party found. ordered-flows side (order party.address) party (order_on side m party.account (order party.address)) found)
  acts (CancelOrderV2 side id) seen = party-flows (act_cancel (ById side id) m) (party_of request.named m.traders) (λ party found. cancel-flows _ _)
  acts (CancelOrderByClientIdV2 client) seen = party-flows (act_cancel (ByClient client) m) (party_of request.named m.traders) (λ party found. cancel-flows _ _)
  acts (SendTake side price lots max_pc min_lots min_pc limit) seen = take-flows side (terms_take seen price lots max_pc min_lots min_pc limit)
  acts CloseOpenOrders seen = party-flows (act_close m) (party_of request.named m.traders) (λ party found. done-flows _)
  acts InitOpenOrders seen = init-flows request.named request.signer
  acts (Prune limit) seen = party-flows (act_cancel (First limit) m) (party_of request.named m.traders) (λ party found. cancel-flows _ _)
  acts (CancelOrdersByClientIds ids) seen = party-flows (act_cancel (ByClients (take ids.count ids.ids)) m) (party_of request.named m.traders) (λ party found. cancel-flows _ _)
  acts ix seen = done-flows _

  decoded-flows : (decodes : Result Ix BadData) (seen : Seen) → Balanced (act_decoded decodes request seen m)
  decoded-flows (Err rule) seen = done-flows m
  decoded-flows (Ok ix) seen = acts ix seen

  unless-flows : (reason : Option Refusal) (acted : Step) → Balanced acted → Balanced (unless_refused reason m acted)
  unless-flows None acted flows = flows
  unless-flows (Some refusal) acted flows = refused-flows refusal

step-flows : (call : Call) (m : Market) → IsSound m → (token : Token) → Flows token (acted_of call).request.named (addresses m.traders) (step_of call m)
step-flows call m sound =
    let request : Request = (acted_of call).request in
    unless-flows request m sound (why request call.seen m) (act_decoded request.instruction request call.seen m) (decoded-flows request m sound request.instruction call.seen)

-- a vault rises by what enters and falls by what leaves
vault-moves : (token : Token) (m : Market) (s : Step) → KeepsMarket m s → ArePaid s.transfers m
    → vault token s.market + by_token token s.transfers.coin_out (s.transfers.pc_out + s.transfers.referrer_out)
    ≡ vault token m + by_token token s.transfers.coin_in s.transfers.pc_in
vault-moves Coin m s keeps paid = omega (arith, keeps.coin, paid.coin)
vault-moves Pc m s keeps paid = omega (arith, keeps.pc, paid.pc)

-- ---- over a history

-- what was swept and paid to referrers so far, which is quote
abbrev paid_away : Token → Ledger → ℕ
paid_away token ledger = by_token token 0 (ledger.swept + ledger.referred)

away-more : (token : Token) (named : List Address) (s : Step) (ledger : Ledger)
    → paid_away token (with_step named s ledger) ≡ paid_away token ledger + by_token token 0 (swept_in s.reply + referred_in s.reply)
away-more Coin named s ledger = omega arith
away-more Pc named s ledger = omega arith

moved-sums : (token : Token) (accounts : List Address) (calls : List Call) (m : Market) (ledger : Ledger) → addresses m.traders ≡ accounts → IsSound m → IsLegal m calls
    → vault token (market_after m calls) + total (λ (a : Address). (moves_after m calls ledger).settled token a) accounts + paid_away token (moves_after m calls ledger)
    + all_taken token m calls + total (λ (a : Address). ledger.deposited token a) accounts
    ≡ vault token m + total (λ (a : Address). ledger.settled token a) accounts + paid_away token ledger
    + total (λ (a : Address). (moves_after m calls ledger).deposited token a) accounts + all_brought token m calls
moved-sums token accounts [] m ledger same sound legal = omega arith
moved-sums token accounts (call ∷ calls) m ledger same sound legal =
    let named : List Address = (acted_of call).request.named in
    let s : Step = step_of call m in
    let keeps : KeepsMarket m s = step-keeps (acted_of call).request call.seen m in
    let later : Ledger = with_step named s ledger in
    let flows : Flows token named accounts s = subst (λ (some : List Address). Flows token named some s) same (step-flows call m sound token) in
    omega (
      arith,
      moved-sums token accounts calls s.market later (keeps.accounts ∙ same) (asked-sound (acted_of call) call.seen m sound (acted-priced call legal.0.price)) legal.1,
      flows.enters,
      flows.leaves,
      vault-moves token m s keeps (row-paid (acted_of call) call.seen m sound),
      away-more token named s ledger,
      total-plus (λ (a : Address). ledger.settled token a) (λ (a : Address). for_account a named (settled_in token s.reply)) accounts,
      total-plus (λ (a : Address). ledger.deposited token a) (λ (a : Address). for_account a named (deposit_in token s.reply s.transfers)) accounts,
    )

in-token-is : (token : Token) (a : Address) (m : Market) (ledger : Ledger) → in_token token (worth_of a m ledger) ≡ worth_in token a m ledger
in-token-is Coin a m ledger = refl
in-token-is Pc a m ledger = refl

worths-sum : (token : Token) (m : Market) (ledger : Ledger) (traders : Traders)
    → sum_of token (map (λ (entry : Address × Trader). (entry.0, worth_of entry.0 m ledger)) traders)
    ≡ (pos (total (λ (a : Address). held_for token a m) (addresses traders)) -ℤ pos (total (λ (a : Address). ledger.deposited token a) (addresses traders)))
    +ℤ pos (total (λ (a : Address). ledger.settled token a) (addresses traders))
worths-sum token m ledger [] = refl
worths-sum token m ledger (entry ∷ others) = omega (arith, ints, in-token-is token entry.0 m ledger, worths-sum token m ledger others)

part-is : (token : Token) (m : Market) (ledger : Ledger) → by_token token m.coin_fees (takings_of m ledger) ≡ earned token m + paid_away token ledger
part-is Coin m ledger = omega arith
part-is Pc m ledger = omega arith

away-none : (token : Token) → paid_away token no_moves ≡ 0
away-none Coin = refl
away-none Pc = refl

pub add-up : (token : Token) (m : Market) (calls : List Call) → IsSound m → IsLegal m calls → AddUp token m calls
add-up token m calls sound legal =
    let after : Market = market_after m calls in
    let ledger : Ledger = moves_of m calls in
    let same : addresses after.traders ≡ addresses m.traders = addresses-after calls m in
    let worths = ap (λ (e : Eager). sum_of token e.worths) (history-market calls m no_moves sound legal) ∙ worths-sum token after ledger after.traders in
    let vaults = vault-is token after (calls-sound calls m sound legal) in
    let moved = moved-sums token (addresses after.traders) calls m no_moves (sym same) sound legal in
    omega (arith, ints, worths, vaults, moved, part-is token after ledger, away-none token, total-none (λ (a : Address). 0) (addresses after.traders) (λ k d lt. refl))

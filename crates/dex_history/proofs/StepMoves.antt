-- each row makes transfers that its wallets can make
use Rattle.std.proofs.Common.{ℕ, ◌+◌, ◌<◌, ◌≡◌, ◌^◌, ◌⊎◌, inl, inr, ⊎_elim, true, false, List, [], ◌∷◌, map, Option, Some, None, Result, Ok, Err, is_some, take, refl, ap, ◌∙◌, subst, arith}
use Rattle.std.specs.List.{All}
use Rattle.std.proofs.lemmas.Bool.{cases_Bool, cond-false, ltb-false, leb-false}
use Rattle.std.proofs.lemmas.List.Elements.{All-nil, All-cons}
use Rattle.dex_types.specs.declared.addresses.Address.{Address}
use Rattle.dex_types.specs.declared.instructions.BadData.{BadData}
use Rattle.dex_types.specs.declared.instructions.Ix.{Ix}
use Rattle.dex_types.specs.declared.instructions.Ix.TheVariants.{InitializeMarket, MatchOrders, ConsumeEvents, SettleFunds, DisableMarket, SweepFees, NewOrderV3, CancelOrderV2, CancelOrderByClientIdV2, SendTake, CloseOpenOrders, InitOpenOrders, Prune, CancelOrdersByClientIds}
use Rattle.dex_types.specs.declared.movements.Movement.{Movement}
use Rattle.dex_types.specs.declared.refusals.Refusal.{Refusal}
use Rattle.dex_types.specs.declared.rows.Seen.{Seen}
use Rattle.dex_types.specs.declared.rows.WalletSeen.{WalletSeen}
use Rattle.dex_types.specs.declared.terms.Side.{Side}
use Rattle.dex_types.specs.declared.terms.Side.TheVariants.{Bid, Ask}
use Rattle.dex_types.specs.Addresses.{is_same}
use Rattle.dex_types.specs.Cancel.{ById, ByClient, ByClients, First}
use Rattle.dex_types.specs.Market.{Market, orders}
use Rattle.dex_types.specs.Meeting.{Meeting}
use Rattle.dex_types.specs.NewOrder.{NewOrder, Ordering, order_on, after_order}
use Rattle.dex_types.specs.Reasons.{disabled, other_mint, short_of, too_full}
use Rattle.dex_types.specs.Requests.{Request, Party, party_of}
use Rattle.dex_types.specs.Settle.{settlement, settle_transfers, sweep_transfers}
use Rattle.dex_types.specs.Side.{Coin, Pc, opposite, locked_token}
use Rattle.dex_types.specs.Steps.{Step, by_party, act_order, act_cancel, act_settle, act_init, act_close, act, act_decoded, unless_refused}
use Rattle.dex_types.specs.Soundness.{IsSound}
use Rattle.dex_types.specs.Take.{Take, take_meeting, take_transfers, take_paid, take_got, after_take}
use Rattle.dex_types.specs.Terms.{terms_order, terms_take}
use Rattle.dex_types.specs.Transfers.{Transfers, no_transfers, deposit}
use Rattle.dex_types.specs.Wallets.{amount_at, brought_to, taken_from, movement_of, movements, seen_wallets}
use Rattle.dex_types.specs.WalletJournal.{CanMove}
use Rattle.dex_types.specs.Why.{payer, of_party, settling_reasons, sweeping_reasons, why_order, why_take, why_settle, why_sweep, why_instruction, why_decoded, why}
use Rattle.dex_laws.proofs.TraderLaws.{is_same-true}
use Rattle.dex_sound.proofs.OrderSoundReasons.{first_of-none, order-none, refused_where-none, take-none}
use Rattle.dex_history.specs.Journal.{Agree, Asked, Sees, asked_step}
use Rattle.dex_history.specs.Moves.{Moves}
use Rattle.dex_history.proofs.BalanceLaws.{agree-one, amount-le, apart-amount, right-mint}
use Rattle.dex_history.proofs.MoveLaws.{Covers, HasRoom, CanTransfer, transfers-move}

-- a wallet that is not short pays, and one that would not be too full has room
short_of-none : (amount : ℕ) (role : Option WalletSeen) → short_of amount role ≡ None → Covers role amount
short_of-none amount None none wallet is = absurd (cc)
short_of-none amount (Some found) none wallet is =
    let one : found ≡ wallet = cc in
    omega (arith, ltb-false found.balance amount (refused_where-none _ _ none), ap (λ (w : WalletSeen). w.balance) one)

too_full-none : (seen : Seen) (t : Transfers) (role : Option WalletSeen) (amount : ℕ) → too_full seen t role ≡ None → HasRoom seen t role amount
too_full-none seen t None amount none wallet is = absurd (cc)
too_full-none seen t (Some found) amount none wallet is =
    let one : found ≡ wallet = cc in
    inr (subst (λ (w : WalletSeen). w.balance + brought_to seen t w.address < 2 ^ 64) one
    (leb-false (2 ^ 64) (found.balance + brought_to seen t found.address) (refused_where-none _ _ none)))

-- nothing is covered, and fits
covers-none : (role : Option WalletSeen) → Covers role 0
covers-none role wallet is = omega arith

room-none : (seen : Seen) (t : Transfers) (role : Option WalletSeen) → HasRoom seen t role 0
room-none seen t role wallet is = inl refl

none-at : (address : Address) (role : Option WalletSeen) → amount_at address role 0 ≡ 0
none-at address role = omega (arith, amount-le address role 0)

taken-none : (seen : Seen) (t : Transfers) (address : Address) → t.coin_in ≡ 0 → t.pc_in ≡ 0 → taken_from seen t address ≡ 0
taken-none seen t address coin pc = omega (arith, coin, pc, amount-le address seen.coin t.coin_in, amount-le address seen.pc t.pc_in)

brought-none : (seen : Seen) (t : Transfers) (address : Address) → t.coin_out ≡ 0 → t.pc_out ≡ 0 → t.referrer_out ≡ 0 → brought_to seen t address ≡ 0
brought-none seen t address coin pc referrer =
    omega (arith, coin, pc, referrer, amount-le address seen.coin t.coin_out, amount-le address seen.pc t.pc_out, amount-le address seen.referrer t.referrer_out)

-- rows that move nothing
still : (seen : Seen) → CanTransfer seen no_transfers
still seen = record {
  one_in = inl refl;
  coin_in = covers-none seen.coin;
  pc_in = covers-none seen.pc;
  coin_out = room-none seen no_transfers seen.coin;
  pc_out = room-none seen no_transfers seen.pc;
  referrer_out = room-none seen no_transfers seen.referrer;
  one_way = λ address. inl (taken-none seen no_transfers address refl refl);
}

-- a deposit
deposit-can : (side : Side) (seen : Seen) (amount : ℕ) → short_of amount (payer side seen) ≡ None → CanTransfer seen (deposit (locked_token side) amount)
deposit-can Bid seen amount none =
    let t : Transfers = deposit Pc amount in record {
      one_in = inl refl;
      coin_in = covers-none seen.coin;
      pc_in = short_of-none amount seen.pc none;
      coin_out = room-none seen t seen.coin;
      pc_out = room-none seen t seen.pc;
      referrer_out = room-none seen t seen.referrer;
      one_way = λ address. inr (brought-none seen t address refl refl refl);
    }
deposit-can Ask seen amount none =
    let t : Transfers = deposit Coin amount in record {
      one_in = inr refl;
      coin_in = short_of-none amount seen.coin none;
      pc_in = covers-none seen.pc;
      coin_out = room-none seen t seen.coin;
      pc_out = room-none seen t seen.pc;
      referrer_out = room-none seen t seen.referrer;
      one_way = λ address. inr (brought-none seen t address refl refl refl);
    }

-- a payout
payout-can : (seen : Seen) (t : Transfers) → t.coin_in ≡ 0 → t.pc_in ≡ 0 → HasRoom seen t seen.coin t.coin_out → HasRoom seen t seen.pc t.pc_out → HasRoom seen t seen.referrer t.referrer_out
    → CanTransfer seen t
payout-can seen t coin_in pc_in coin pc referrer = record {
  one_in = inl coin_in;
  coin_in = λ wallet is. omega (arith, coin_in);
  pc_in = λ wallet is. omega (arith, pc_in);
  coin_out = coin;
  pc_out = pc;
  referrer_out = referrer;
  one_way = λ address. inl (taken-none seen t address coin_in pc_in);
}

-- two roles of two mints are never one wallet's
apart-roles : (mint other : Address) (first second : Option WalletSeen) → is_same mint other ≡ false → other_mint mint first ≡ None → other_mint other second ≡ None → Agree first second
    → (address : Address) (amount more : ℕ) → (amount_at address first amount ≡ 0) ⊎ (amount_at address second more ≡ 0)
apart-roles mint other None second apart right there agree address amount more = inl refl
apart-roles mint other (Some wallet) second apart right there agree address amount more =
    ⊎_elim
    (λ (same : is_same address wallet.address ≡ true).
    let is : address ≡ wallet.address = is_same-true address wallet.address same in
    inr (ap (λ a. amount_at a second more) is ∙ apart-amount mint other wallet second more apart (right-mint mint wallet right) there (agree-one wallet second agree)))
    (λ (away : is_same address wallet.address ≡ false). inl (cond-false (is_same address wallet.address) amount 0 away))
    (cases_Bool (is_same address wallet.address))

-- a take pays under one role and gets under the other
take-can : (row : Asked) (side : Side) (t : Take) (seen : Seen) (m : Market) (met : Meeting) → IsSound m → Sees row seen
    → other_mint m.listing.coin_mint seen.coin ≡ None → other_mint m.listing.pc_mint seen.pc ≡ None
    → short_of (take_paid side m.listing.sizes t met) (payer side seen) ≡ None
    → too_full seen (take_transfers side m.listing.sizes t met) seen.coin ≡ None → too_full seen (take_transfers side m.listing.sizes t met) seen.pc ≡ None
    → CanTransfer seen (take_transfers side m.listing.sizes t met)
take-can row Bid t seen m met sound sees coin pc pays coin_fits pc_fits =
    let transfers : Transfers = take_transfers Bid m.listing.sizes t met in
    let paid : ℕ = take_paid Bid m.listing.sizes t met in
    let got : ℕ = take_got Bid m.listing.sizes t met in
    record {
      one_in = inl refl;
      coin_in = covers-none seen.coin;
      pc_in = short_of-none paid seen.pc pays;
      coin_out = too_full-none seen transfers seen.coin got coin_fits;
      pc_out = room-none seen transfers seen.pc;
      referrer_out = room-none seen transfers seen.referrer;
      one_way = λ address.
          ⊎_elim
          (λ (gets_not : amount_at address seen.coin got ≡ 0). inr (omega (arith, gets_not, none-at address seen.pc, none-at address seen.referrer)))
          (λ (pays_not : amount_at address seen.pc paid ≡ 0). inl (omega (arith, pays_not, none-at address seen.coin)))
          (apart-roles m.listing.coin_mint m.listing.pc_mint seen.coin seen.pc sound.form.mints coin pc sees.coin_pc address got paid);
    }
take-can row Ask t seen m met sound sees coin pc pays coin_fits pc_fits =
    let transfers : Transfers = take_transfers Ask m.listing.sizes t met in
    let paid : ℕ = take_paid Ask m.listing.sizes t met in
    let got : ℕ = take_got Ask m.listing.sizes t met in
    record {
      one_in = inr refl;
      coin_in = short_of-none paid seen.coin pays;
      pc_in = covers-none seen.pc;
      coin_out = room-none seen transfers seen.coin;
      pc_out = too_full-none seen transfers seen.pc got pc_fits;
      referrer_out = room-none seen transfers seen.referrer;
      one_way = λ address.
          ⊎_elim
          (λ (pays_not : amount_at address seen.coin paid ≡ 0). inl (omega (arith, pays_not, none-at address seen.pc)))
          (λ (gets_not : amount_at address seen.pc got ≡ 0). inr (omega (arith, gets_not, none-at address seen.coin, none-at address seen.referrer)))
          (apart-roles m.listing.coin_mint m.listing.pc_mint seen.coin seen.pc sound.form.mints coin pc sees.coin_pc address paid got);
    }

send_take-can : (row : Asked) (side : Side) (t : Take) (request : Request) (seen : Seen) (m : Market) → IsSound m → Sees row seen → why_take side t request seen m ≡ None
    → CanTransfer seen (take_transfers side m.listing.sizes t (take_meeting side m.listing.sizes t (orders (opposite side) m)))
send_take-can row side t request seen m sound sees none =
    let met : Meeting = take_meeting side m.listing.sizes t (orders (opposite side) m) in
    let after : Market = after_take side t met m in
    let transfers : Transfers = take_transfers side m.listing.sizes t met in
    let none_holds = take-none side t request seen m none in
    let early = none_holds.asking in
    let taking = none_holds.rest.taking in
    take-can row side t seen m met sound sees early.1.1.1.0 early.1.1.1.1.0 taking.1.1.0 taking.1.1.1.0 taking.1.1.1.1.0

-- a new order deposits
order-can : (side : Side) (order : Address → NewOrder) (request : Request) (seen : Seen) (m : Market) (party : Party) → why_order side order request seen m party ≡ None
    → CanTransfer seen (act_order side order m party).transfers
order-can side order request seen m party none =
    let n : NewOrder = order party.address in
    let ordering : Ordering = order_on side m party.account n in
    let after : Market = after_order side party.account n ordering m in
    let acts = (order-none side n request seen m party none).rest.ordering in
    deposit-can side seen ordering.deposit acts.1.1.0

-- settling and sweeping pay out
settle-can : (request : Request) (seen : Seen) (m : Market) (party : Party) → why_settle request seen m party ≡ None → CanTransfer seen (act_settle seen m party).transfers
settle-can request seen m party none =
    let t : Transfers = settle_transfers (settlement (is_some seen.referrer) party.account) in
    let parts = first_of-none (settling_reasons seen request.signer m.listing.coin_mint m.listing.pc_mint party.account) none in
    payout-can seen t refl refl (too_full-none seen t seen.coin t.coin_out parts.1.1.1.1.1.1.0) (too_full-none seen t seen.pc t.pc_out parts.1.1.1.1.1.1.1.0)
    (too_full-none seen t seen.referrer t.referrer_out parts.1.1.1.1.1.1.1.1.0)

sweep-can : (request : Request) (seen : Seen) (m : Market) → why_sweep request seen m ≡ None → CanTransfer seen (sweep_transfers m)
sweep-can request seen m none =
    let t : Transfers = sweep_transfers m in
    let parts = first_of-none (sweeping_reasons seen request.signer m.listing.authority m.listing.pc_mint m.pc_fees) none in
    payout-can seen t refl refl (room-none seen t seen.coin) (too_full-none seen t seen.pc t.pc_out parts.1.1.1.0) (room-none seen t seen.referrer)

-- what an open account asks
party-can : (why : Party → Option Refusal) (acts : Party → Step) (seen : Seen) (m : Market) (party : Option Party)
    → ((found : Party) → why found ≡ None → CanTransfer seen (acts found).transfers) → of_party why party ≡ None → CanTransfer seen (by_party acts m party).transfers
party-can why acts seen m None each none = absurd (cc)
party-can why acts seen m (Some found) each none = each found none

still-party : (acts : Party → Step) (seen : Seen) (m : Market) (party : Option Party) → ((found : Party) → CanTransfer seen (acts found).transfers) → CanTransfer seen (by_party acts m party).transfers
still-party acts seen m None each = still seen
still-party acts seen m (Some found) each = each found

init-can : (named : List Address) (signer : Address) (seen : Seen) (m : Market) → CanTransfer seen (act_init named signer m).transfers
init-can [] signer seen m = still seen
init-can (address ∷ others) signer seen m = still seen

act-can : (row : Asked) (ix : Ix) (request : Request) (seen : Seen) (m : Market) → IsSound m → Sees row seen → why_instruction ix request seen m ≡ None
    → CanTransfer seen (act ix request seen m).transfers
act-can row (InitializeMarket coin_lot pc_lot fee_rate_bps nonce dust) request seen m sound sees none = still seen
act-can row (MatchOrders limit) request seen m sound sees none = still seen
act-can row (ConsumeEvents limit) request seen m sound sees none = still seen
act-can row SettleFunds request seen m sound sees none =
    party-can (why_settle request seen m) (act_settle seen m) seen m (party_of request.named m.traders) (λ party why_not. settle-can request seen m party why_not) none
act-can row DisableMarket request seen m sound sees none = still seen
act-can row SweepFees request seen m sound sees none = sweep-can request seen m none
act-can row (NewOrderV3 side price lots max_pc self_trade order_type client limit latest) request seen m sound sees none =
    let order : Address → NewOrder = terms_order request seen price lots max_pc self_trade order_type client limit latest in
    party-can (why_order side order request seen m) (act_order side order m) seen m (party_of request.named m.traders)
    (λ party why_not. order-can side order request seen m party why_not)
    (first_of-none (disabled m ∷ of_party (why_order side order request seen m) (party_of request.named m.traders) ∷ []) none).1.0
act-can row (CancelOrderV2 side id) request seen m sound sees none =
    still-party (act_cancel (ById side id) m) seen m (party_of request.named m.traders) (λ party. still seen)
act-can row (CancelOrderByClientIdV2 client) request seen m sound sees none =
    still-party (act_cancel (ByClient client) m) seen m (party_of request.named m.traders) (λ party. still seen)
act-can row (SendTake side price lots max_pc min_lots min_pc limit) request seen m sound sees none =
    send_take-can row side (terms_take seen price lots max_pc min_lots min_pc limit) request seen m sound sees none
act-can row CloseOpenOrders request seen m sound sees none = still-party (act_close m) seen m (party_of request.named m.traders) (λ party. still seen)
act-can row InitOpenOrders request seen m sound sees none = init-can request.named request.signer seen m
act-can row (Prune limit) request seen m sound sees none =
    still-party (act_cancel (First limit) m) seen m (party_of request.named m.traders) (λ party. still seen)
act-can row (CancelOrdersByClientIds ids) request seen m sound sees none =
    still-party (act_cancel (ByClients (take ids.count ids.ids)) m) seen m (party_of request.named m.traders) (λ party. still seen)

decoded-can : (row : Asked) (instruction : Result Ix BadData) (request : Request) (seen : Seen) (m : Market) → IsSound m → Sees row seen → why_decoded instruction request seen m ≡ None
    → CanTransfer seen (act_decoded instruction request seen m).transfers
decoded-can row (Err rule) request seen m sound sees none = still seen
decoded-can row (Ok ix) request seen m sound sees none = act-can row ix request seen m sound sees none

unless-can : (reason : Option Refusal) (seen : Seen) (m : Market) (acted : Step) → (reason ≡ None → CanTransfer seen acted.transfers) → CanTransfer seen (unless_refused reason m acted).transfers
unless-can None seen m acted can = can refl
unless-can (Some refusal) seen m acted can = still seen

pub row-can : (row : Asked) (seen : Seen) (m : Market) → IsSound m → Sees row seen → CanTransfer seen (asked_step row seen m).transfers
row-can row seen m sound sees =
    unless-can (why row.request seen m) seen m (act_decoded row.request.instruction row.request seen m)
    (decoded-can row row.request.instruction row.request seen m sound sees)

-- so the movement of each wallet is what the row's transfers move
pub row-moves : (row : Asked) (seen : Seen) (m : Market) (address : Address) → IsSound m → Sees row seen → Moves seen (asked_step row seen m).transfers address
row-moves row seen m address sound sees = transfers-move row seen (asked_step row seen m).transfers address sees (row-can row seen m sound sees)

-- and each movement that it makes is possible
map-possible : (seen : Seen) (t : Transfers) (addresses : List Address) → ((address : Address) → Moves seen t address)
    → All (λ (move : Movement). CanMove move.kind move.amount move.before) (map (movement_of seen t) addresses)
map-possible seen t [] moves = All-nil _
map-possible seen t (address ∷ addresses) moves =
    All-cons (λ (move : Movement). CanMove move.kind move.amount move.before) (movement_of seen t address) (map (movement_of seen t) addresses)
    (moves address).possible (map-possible seen t addresses moves)

pub row-possible : (row : Asked) (seen : Seen) (m : Market) → IsSound m → Sees row seen
    → All (λ (move : Movement). CanMove move.kind move.amount move.before) (movements seen (asked_step row seen m).transfers)
row-possible row seen m sound sees =
    map-possible seen (asked_step row seen m).transfers (seen_wallets seen) (λ address. row-moves row seen m address sound sees)

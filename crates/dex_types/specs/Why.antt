-- Why a row is refused, if it is: for each instruction its reasons in order, of which the first that holds is given.
-- Each is said over what it reads, which a call that is handed parts of a market can cite, and of a market over what it
-- reads there.
use Rattle.std.specs.Prelude.{ℕ, List, [], ◌∷◌, Option, Some, None, Result, Ok, Err, Bool, is_some, length, take}
use Rattle.dex_types.specs.declared.addresses.Address.{Address}
use Rattle.dex_types.specs.declared.instructions.BadData.{BadData}
use Rattle.dex_types.specs.declared.instructions.Ix.{Ix}
use Rattle.dex_types.specs.declared.instructions.Ix.TheVariants.{InitializeMarket, MatchOrders, ConsumeEvents, SettleFunds, DisableMarket, SweepFees, NewOrderV3, CancelOrderV2, CancelOrderByClientIdV2, SendTake, CloseOpenOrders, InitOpenOrders, Prune, CancelOrdersByClientIds}
use Rattle.dex_types.specs.declared.orders.Order.{Order}
use Rattle.dex_types.specs.declared.refusals.Refusal.{Refusal}
use Rattle.dex_types.specs.declared.refusals.Refusal.TheVariants as refusal
use Rattle.dex_types.specs.declared.rows.Seen.{Seen}
use Rattle.dex_types.specs.declared.rows.WalletSeen.{WalletSeen}
use Rattle.dex_types.specs.declared.terms.Lots.{Lots}
use Rattle.dex_types.specs.declared.terms.Side.{Side}
use Rattle.dex_types.specs.Cancel.{RestingOrder, CancelBy, ById, ByClient, ByClients, First, cancelled, order_with}
use Rattle.dex_types.specs.Market.{Market, orders}
use Rattle.dex_types.specs.Meeting.{Meeting}
use Rattle.dex_types.specs.NewOrder.{NewOrder, Ordering, order_on, after_order}
use Rattle.dex_types.specs.Settle.{settlement, settle_transfers}
use Rattle.dex_types.specs.Side.{Token, Coin, Pc, by_side, opposite}
use Rattle.dex_types.specs.Solvency.{vault, all_leaving}
use Rattle.dex_types.specs.Take.{Take, take_meeting, take_paid, take_transfers, after_take, too_little}
use Rattle.dex_types.specs.Trader.{Account, Trader, Traders, trader_at}
use Rattle.dex_types.specs.Transfers.{payout}
use Rattle.dex_types.specs.Requests.{Request, Party, party_of}
use Rattle.dex_types.specs.Terms.{terms_order, terms_take}
use Rattle.dex_types.specs.Reasons.{first_of, when_disabled, disabled, missing, not_blank, not_person, not_owner, not_this_authority, not_authority, other_mint, other_discount_mint, not_signed_by, not_empty, no_slot, ask_too_large, used_up, time_past, not_resting, not_yours, zero_client, no_order, would_self_trade, below_minimum, event_room, no_room, balance_of, short_by, too_full, beyond}

-- the wallet that pays for an order of the side: a bid's quote wallet, an ask's base wallet
abbrev pub payer : Side → Seen → Option WalletSeen
payer side seen = by_side side seen.pc seen.coin

-- the mint of what an order of the side pays with
abbrev pub payer_mint : Side → Market → Address
payer_mint side m = by_side side m.listing.pc_mint m.listing.coin_mint

-- why what an open account asks is refused; without one it is refused for that
abbrev pub of_party : (Party → Option Refusal) → Option Party → Option Refusal
of_party why None = Some refusal.NoAccount
of_party why (Some party) = why party

-- why opening an account of a market is refused: the market is disabled, or it has no blank account at the address
abbrev pub why_opening : Bool → Option Trader → Option Refusal
why_opening is_disabled trader = first_of (when_disabled is_disabled ∷ not_blank trader ∷ [])

-- the trader at the address that a row names first
abbrev pub named_first : List Address → Traders → Option Trader
named_first [] traders = None
named_first (address ∷ others) traders = trader_at address traders

-- why opening the account that a row names first is refused
abbrev pub why_init : Request → Market → Option Refusal
why_init request m = why_opening m.is_disabled (named_first request.named m.traders)

-- why closing an open account is refused
abbrev pub why_closing : Address → Account → Option Refusal
why_closing signer account = first_of (not_person account.person signer ∷ not_empty account ∷ [])

-- why closing the open account of a row is refused
abbrev pub why_close : Request → Party → Option Refusal
why_close request party = why_closing request.signer party.account

-- a vault, and what pending makers' fills are still to take off totals of its token
pub record TokenSum : Type 0 where
  pub vault : ℕ
  pub leaving : ℕ

-- what the reasons read that ask whether an order or a take can be done: the free places of the event queue, the
-- balance of the wallet that pays, and for each token the sum that the row would leave
pub record Limits : Type 0 where
  pub room : ℕ
  pub balance : Option ℕ
  pub coin : TokenSum
  pub pc : TokenSum

-- a market's vault of a token, in native units, and what pending makers' fills are still to take off its totals
abbrev pub sum_of : Token → Market → TokenSum
sum_of token m = record { vault = vault token m; leaving = all_leaving token m.events }

-- the limits for a row on the first market that would leave the second one
abbrev pub limits_of : Side → Seen → Market → Market → Limits
limits_of side seen m after = record { room = event_room m; balance = balance_of (payer side seen); coin = sum_of Coin after; pc = sum_of Pc after }

-- the reasons against a new order that ask for wallets, mints and who signs alone: the signer, the mint of what is
-- paid, and the account's owning person
abbrev pub asking_reasons : Side → Seen → Address → Address → Address → List (Option Refusal)
asking_reasons side seen signer mint person =
    missing (payer side seen)
    ∷ not_person person signer
    ∷ other_mint mint (payer side seen)
    ∷ other_discount_mint seen seen.discount
    ∷ not_signed_by signer (payer side seen)
    ∷ not_signed_by signer seen.discount
    ∷ []

-- the first reason against a new order that looks at wallets, mints and signer alone
abbrev pub why_order_early : Side → Request → Seen → Market → Party → Option Refusal
why_order_early side request seen m party = first_of (asking_reasons side seen request.signer (payer_mint side m) party.account.person)

-- what the other reasons against a new order read: lot sizes, next sequence number and account before it meets
-- anything, what it would do, and the limits for that
pub record OrderReading : Type 0 where
  pub sizes : Lots
  pub next_sequence : ℕ
  pub account : Account
  pub ordering : Ordering
  pub limits : Limits

-- the reasons against a new order that ask for its account, the next sequence number and the clock
abbrev pub standing_reasons : Side → NewOrder → Lots → ℕ → Account → List (Option Refusal)
standing_reasons side n sizes next_sequence account =
    no_slot account
    ∷ ask_too_large side sizes n.lots
    ∷ used_up next_sequence
    ∷ time_past n.now n.latest
    ∷ []

-- the reasons against what a new order would do
abbrev pub ordering_reasons : Ordering → Limits → List (Option Refusal)
ordering_reasons ordering limits =
    would_self_trade ordering.met.aborts
    ∷ no_room (length ordering.events) limits.room
    ∷ short_by ordering.deposit limits.balance
    ∷ beyond limits.coin.vault limits.coin.leaving
    ∷ beyond limits.pc.vault limits.pc.leaving
    ∷ []

-- why a new order is refused, once it may be asked for
abbrev pub why_ordering : Side → NewOrder → OrderReading → Option Refusal
why_ordering side n reading = first_of (
    first_of (standing_reasons side n reading.sizes reading.next_sequence reading.account)
    ∷ first_of (ordering_reasons reading.ordering reading.limits)
    ∷ []
    )

-- what is read of a market for it
abbrev pub order_reading : Side → NewOrder → Seen → Market → Account → OrderReading
order_reading side n seen m account =
    let ordering = order_on side m account n in
    record {
      sizes = m.listing.sizes;
      next_sequence = m.next_sequence;
      account = account;
      ordering = ordering;
      limits = limits_of side seen m (after_order side account n ordering m);
    }

-- why this new order of an open account is refused: first by wallets, mints and signer, then by what it would do
abbrev pub why_order_of : Side → NewOrder → Request → Seen → Market → Party → Option Refusal
why_order_of side n request seen m party = first_of (
    why_order_early side request seen m party
    ∷ why_ordering side n (order_reading side n seen m party.account)
    ∷ []
    )

-- why a new order of the account is refused
abbrev pub why_order : Side → (Address → NewOrder) → Request → Seen → Market → Party → Option Refusal
why_order side order request seen m party = why_order_of side (order party.address) request seen m party

-- the reasons against a take that ask for the market's flag, for wallets, mints and who signs alone
abbrev pub take_asking_reasons : Side → Seen → Address → Bool → Address → Address → List (Option Refusal)
take_asking_reasons side seen signer is_disabled coin_mint pc_mint =
    when_disabled is_disabled
    ∷ missing seen.coin
    ∷ missing seen.pc
    ∷ other_mint coin_mint seen.coin
    ∷ other_mint pc_mint seen.pc
    ∷ other_discount_mint seen seen.discount
    ∷ not_signed_by signer (payer side seen)
    ∷ not_signed_by signer seen.discount
    ∷ []

-- the first reason against a take that looks at the market's flag, wallets, mints and signer alone
abbrev pub why_take_early : Side → Request → Seen → Market → Option Refusal
why_take_early side request seen m =
    first_of (take_asking_reasons side seen request.signer m.is_disabled m.listing.coin_mint m.listing.pc_mint)

-- what the other reasons against a take read: the lot sizes, what it would meet, and the limits of what it would do
pub record TakeReading : Type 0 where
  pub sizes : Lots
  pub met : Meeting
  pub limits : Limits

-- the reasons against what a take would do
abbrev pub taking_reasons : Side → Take → Seen → TakeReading → List (Option Refusal)
taking_reasons side t seen reading =
    below_minimum (too_little side t reading.met)
    ∷ no_room (length reading.met.events) reading.limits.room
    ∷ short_by (take_paid side reading.sizes t reading.met) reading.limits.balance
    ∷ too_full seen (take_transfers side reading.sizes t reading.met) seen.coin
    ∷ too_full seen (take_transfers side reading.sizes t reading.met) seen.pc
    ∷ beyond reading.limits.coin.vault reading.limits.coin.leaving
    ∷ beyond reading.limits.pc.vault reading.limits.pc.leaving
    ∷ []

-- why a take is refused, once it may be asked for
abbrev pub why_taking : Side → Take → Seen → TakeReading → Option Refusal
why_taking side t seen reading = first_of (ask_too_large side reading.sizes t.lots ∷ first_of (taking_reasons side t seen reading) ∷ [])

-- what is read of a market for it
abbrev pub take_reading : Side → Take → Seen → Market → TakeReading
take_reading side t seen m =
    let met = take_meeting side m.listing.sizes t (orders (opposite side) m) in
    record { sizes = m.listing.sizes; met = met; limits = limits_of side seen m (after_take side t met m) }

-- why a take is refused: first by the market's flag, wallets, mints and signer, then by what it would do
abbrev pub why_take : Side → Take → Request → Seen → Market → Option Refusal
why_take side t request seen m = first_of (why_take_early side request seen m ∷ why_taking side t seen (take_reading side t seen m) ∷ [])

-- why a cancel does not name an order of the account, by what rests on the two sides: by id, or by a client id
abbrev pub why_unnamed : CancelBy → Address → List Order → List Order → List RestingOrder → Option Refusal
why_unnamed (ById side id) owner bids asks gone = first_of (
    not_resting (order_with id (by_side side bids asks)) (order_with id (by_side (opposite side) bids asks))
    ∷ not_yours owner (order_with id (by_side side bids asks))
    ∷ []
    )
why_unnamed (ByClient client) owner bids asks gone = first_of (zero_client client ∷ no_order (length gone) ∷ [])
why_unnamed (ByClients clients) owner bids asks gone = None
why_unnamed (First count) owner bids asks gone = None

-- why a cancel is refused, once its signer may ask for it, by the two sides and the free places of the event queue
abbrev pub why_cancelling : CancelBy → Address → List Order → List Order → ℕ → Option Refusal
why_cancelling by owner bids asks room =
    let gone = cancelled by owner bids asks in
    first_of (why_unnamed by owner bids asks gone ∷ no_room (length gone) room ∷ [])

-- why a cancel is refused by a market, once its signer may ask for it
abbrev pub why_cancelled : CancelBy → Address → Market → Option Refusal
why_cancelled by owner m = why_cancelling by owner m.bids m.asks (event_room m)

-- why a cancel of an account by its person is refused
abbrev pub why_cancel : CancelBy → Request → Market → Party → Option Refusal
why_cancel by request m party = first_of (not_owner request party.account ∷ why_cancelled by party.address m ∷ [])

-- why pruning an account is refused: it is the authority's to do
abbrev pub why_prune : CancelBy → Request → Market → Party → Option Refusal
why_prune by request m party = first_of (not_authority request m ∷ why_cancelled by party.address m ∷ [])

-- the reasons against settling an account, by the two mints and the signer
abbrev pub settling_reasons : Seen → Address → Address → Address → Account → List (Option Refusal)
settling_reasons seen signer coin_mint pc_mint account =
    let transfers = settle_transfers (settlement (is_some seen.referrer) account) in
    missing seen.coin
    ∷ missing seen.pc
    ∷ not_person account.person signer
    ∷ other_mint coin_mint seen.coin
    ∷ other_mint pc_mint seen.pc
    ∷ other_mint pc_mint seen.referrer
    ∷ too_full seen transfers seen.coin
    ∷ too_full seen transfers seen.pc
    ∷ too_full seen transfers seen.referrer
    ∷ []

-- why settling an account is refused
abbrev pub why_settle : Request → Seen → Market → Party → Option Refusal
why_settle request seen m party =
    first_of (settling_reasons seen request.signer m.listing.coin_mint m.listing.pc_mint party.account)

-- the reasons against sweeping such fees, by the market's authority and its quote mint
abbrev pub sweeping_reasons : Seen → Address → Address → Address → ℕ → List (Option Refusal)
sweeping_reasons seen signer authority pc_mint fees =
    missing seen.pc
    ∷ not_this_authority authority signer
    ∷ other_mint pc_mint seen.pc
    ∷ too_full seen (payout 0 fees 0) seen.pc
    ∷ []

-- why sweeping the fees is refused
abbrev pub why_sweep : Request → Seen → Market → Option Refusal
why_sweep request seen m = first_of (sweeping_reasons seen request.signer m.listing.authority m.listing.pc_mint m.pc_fees)

-- why disabling a market of this authority is refused
abbrev pub why_disabling : Bool → Address → Address → Option Refusal
why_disabling is_disabled authority signer = first_of (when_disabled is_disabled ∷ not_this_authority authority signer ∷ [])

-- why disabling a market is refused
abbrev pub why_disable : Request → Market → Option Refusal
why_disable request m = why_disabling m.is_disabled m.listing.authority request.signer

-- why an instruction is refused, if it is
abbrev pub why_instruction : Ix → Request → Seen → Market → Option Refusal
why_instruction (InitializeMarket coin_lot pc_lot fee_rate_bps nonce dust) request seen m = Some refusal.AccountExists
why_instruction (MatchOrders limit) request seen m = None
why_instruction (ConsumeEvents limit) request seen m = None
why_instruction SettleFunds request seen m = of_party (why_settle request seen m) (party_of request.named m.traders)
why_instruction DisableMarket request seen m = why_disable request m
why_instruction SweepFees request seen m = why_sweep request seen m
why_instruction (NewOrderV3 side price lots max_pc self_trade order_type client limit latest) request seen m = first_of (
    disabled m
    ∷ of_party (why_order side (terms_order request seen price lots max_pc self_trade order_type client limit latest) request seen m) (party_of request.named m.traders)
    ∷ []
    )
why_instruction (CancelOrderV2 side id) request seen m = of_party (why_cancel (ById side id) request m) (party_of request.named m.traders)
why_instruction (CancelOrderByClientIdV2 client) request seen m = of_party (why_cancel (ByClient client) request m) (party_of request.named m.traders)
why_instruction (SendTake side price lots max_pc min_lots min_pc limit) request seen m =
    why_take side (terms_take seen price lots max_pc min_lots min_pc limit) request seen m
why_instruction CloseOpenOrders request seen m = of_party (why_close request) (party_of request.named m.traders)
why_instruction InitOpenOrders request seen m = why_init request m
why_instruction (Prune limit) request seen m = of_party (why_prune (First limit) request m) (party_of request.named m.traders)
why_instruction (CancelOrdersByClientIds ids) request seen m =
    of_party (why_cancel (ByClients (take ids.count ids.ids)) request m) (party_of request.named m.traders)

-- why what was decoded, or was not, is refused
abbrev pub why_decoded : Result Ix BadData → Request → Seen → Market → Option Refusal
why_decoded (Err rule) request seen m = Some (refusal.BadData rule)
why_decoded (Ok ix) request seen m = why_instruction ix request seen m

-- why a row is refused by a market, if it is
abbrev pub why : Request → Seen → Market → Option Refusal
why request seen m = why_decoded request.instruction request seen m

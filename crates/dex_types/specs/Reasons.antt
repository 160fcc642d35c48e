-- What an instruction can be refused for, each reason by itself: over what it reads, and of a market over what it reads
-- there.
use Rattle.std.specs.Prelude.{ℕ, ℤ, ◌+◌, ◌-◌, ◌*◌, ◌^◌, List, [], ◌∷◌, Option, Some, None, Result, Ok, Err, Bool, false, not, ◌||◌, nat_lt, nat_le, int_lt, ◌==◌, length, if◌then◌else◌}
use Rattle.dex_types.specs.declared.addresses.Address.{Address}
use Rattle.dex_types.specs.declared.orders.Order.{Order}
use Rattle.dex_types.specs.declared.refusals.Refusal.{Refusal}
use Rattle.dex_types.specs.declared.refusals.Refusal.TheVariants as refusal
use Rattle.dex_types.specs.declared.rows.Seen.{Seen}
use Rattle.dex_types.specs.declared.rows.WalletSeen.{WalletSeen}
use Rattle.dex_types.specs.declared.terms.Lots.{Lots}
use Rattle.dex_types.specs.declared.terms.Side.{Side}
use Rattle.dex_types.specs.declared.terms.Side.TheVariants.{Bid, Ask}
use Rattle.dex_types.specs.Addresses.{is_same}
use Rattle.dex_types.specs.Market.{Market}
use Rattle.dex_types.specs.Side.{Token}
use Rattle.dex_types.specs.Solvency.{vault, all_leaving}
use Rattle.dex_types.specs.Trader.{Account, Trader, Open, Closed, Blank, free_slot}
use Rattle.dex_types.specs.Transfers.{Transfers}
use Rattle.dex_types.specs.Upkeep.{taken_slots, all_funds}
use Rattle.dex_types.specs.Wallets.{brought_to}
use Rattle.dex_types.specs.Requests.{Request}

-- the first of these reasons, if there is one
abbrev pub first_of : List (Option Refusal) → Option Refusal
first_of [] = None
first_of (None ∷ later) = first_of later
first_of ((Some why) ∷ later) = Some why

-- what a call answers: the reason to refuse, if there is one, or else this
abbrev pub answered : {X : Type 0} → Option Refusal → X → Result X Refusal
answered None x = Ok x
answered (Some why) x = Err why

-- this reason, where the test holds
abbrev pub refused_where : Bool → Refusal → Option Refusal
refused_where test why = if test then Some why else None

-- the market is disabled, where this says so
abbrev pub when_disabled : Bool → Option Refusal
when_disabled is_disabled = refused_where is_disabled refusal.MarketDisabled

-- the market is disabled
abbrev pub disabled : Market → Option Refusal
disabled m = when_disabled m.is_disabled

-- the row names no wallet in a role that the instruction uses
abbrev pub missing : Option WalletSeen → Option Refusal
missing None = Some refusal.NoAccount
missing (Some wallet) = None

-- the account that is to be opened is none of the market's, or was opened before
abbrev pub not_blank : Option Trader → Option Refusal
not_blank None = Some refusal.NoAccount
not_blank (Some Blank) = None
not_blank (Some Closed) = Some refusal.AccountExists
not_blank (Some (Open account)) = Some refusal.AccountExists

-- the signer is not this person
abbrev pub not_person : Address → Address → Option Refusal
not_person person signer = refused_where (not (is_same person signer)) (refusal.NotOwner person)

-- the signer is not the account's owning person
abbrev pub not_owner : Request → Account → Option Refusal
not_owner request account = not_person account.person request.signer

-- the signer is not this authority
abbrev pub not_this_authority : Address → Address → Option Refusal
not_this_authority authority signer = refused_where (not (is_same authority signer)) (refusal.NotAuthority authority)

-- the signer is not the market's authority
abbrev pub not_authority : Request → Market → Option Refusal
not_authority request m = not_this_authority m.listing.authority request.signer

-- a mint is another than the one that is wanted
abbrev pub wrong_mint : Address → Address → Option Refusal
wrong_mint wanted mint = refused_where (not (is_same wanted mint)) (refusal.WrongMint mint)

-- a wallet, where one is named, is of another token than this mint's
abbrev pub other_mint : Address → Option WalletSeen → Option Refusal
other_mint mint None = None
other_mint mint (Some wallet) = wrong_mint mint wallet.mint

-- the mint is this one, where there is one
abbrev pub is_mint : Option Address → Address → Bool
is_mint None mint = false
is_mint (Some known) mint = is_same known mint

-- a discount wallet, where one is named, is of neither SRM nor MSRM
abbrev pub other_discount_mint : Seen → Option WalletSeen → Option Refusal
other_discount_mint seen None = None
other_discount_mint seen (Some wallet) =
    refused_where (not (is_mint seen.srm wallet.mint || is_mint seen.msrm wallet.mint)) (refusal.WrongMint wallet.mint)

-- a wallet, where one is named, is another person's than this signer
abbrev pub not_signed_by : Address → Option WalletSeen → Option Refusal
not_signed_by signer None = None
not_signed_by signer (Some wallet) = refused_where (not (is_same wallet.owner signer)) (refusal.WalletNotSigned wallet.owner)

-- a wallet, where one is named, is another person's than the row's signer
abbrev pub not_signed : Request → Option WalletSeen → Option Refusal
not_signed request wallet = not_signed_by request.signer wallet

-- the account holds orders or funds
abbrev pub not_empty : Account → Option Refusal
not_empty account =
    refused_where (nat_lt 0 (taken_slots account.slots) || nat_lt 0 (all_funds account)) (refusal.NotEmpty (taken_slots account.slots) (all_funds account))

-- all 128 slots are taken
abbrev pub no_slot : Account → Option Refusal
no_slot account = refused_where (free_slot account.slots == 128) refusal.TooManyOpenOrders

-- the native base of an ask is 2^64 or more
abbrev pub ask_too_large : Side → Lots → ℕ → Option Refusal
ask_too_large Bid sizes lots = None
ask_too_large Ask sizes lots = refused_where (nat_le (2 ^ 64) (lots * sizes.coin)) refusal.AskTooLarge

-- the next sequence number is the one after all that can be given out
abbrev pub used_up : ℕ → Option Refusal
used_up next = refused_where (next == 2 ^ 64 - 1) refusal.SequenceExhausted

-- the market has given out all sequence numbers
abbrev pub no_sequence : Market → Option Refusal
no_sequence m = used_up m.next_sequence

-- the clock is past the latest time of an order that has one
abbrev pub time_past : ℤ → Option ℤ → Option Refusal
time_past now None = None
time_past now (Some latest) = refused_where (int_lt latest now) (refusal.TimePast now latest)

-- an order of the id rests on the other side only, or on neither; the first is the named side's
abbrev pub not_resting : Option Order → Option Order → Option Refusal
not_resting None None = Some refusal.OrderNotFound
not_resting None (Some other) = Some refusal.SideMismatch
not_resting (Some order) _ = None

-- the order, where there is one, is another account's
abbrev pub not_yours : Address → Option Order → Option Refusal
not_yours owner None = None
not_yours owner (Some order) = refused_where (not (is_same owner order.owner)) (refusal.OrderNotYours order.owner)

-- the client id is 0
abbrev pub zero_client : ℕ → Option Refusal
zero_client client = refused_where (client == 0) refusal.ClientIdZero

-- a cancel by client id takes no order
abbrev pub no_order : ℕ → Option Refusal
no_order count = refused_where (count == 0) refusal.ClientIdNotFound

-- the order would meet an own one at which it has to abort
abbrev pub would_self_trade : Option ℕ → Option Refusal
would_self_trade None = None
would_self_trade (Some order) = Some (refusal.WouldSelfTrade order)

-- a take filled too little, which is reported
abbrev pub below_minimum : Option ℕ → Option Refusal
below_minimum None = None
below_minimum (Some got) = Some (refusal.BelowMinimum got)

-- the free places of the event queue
abbrev pub event_room : Market → ℕ
event_room m = m.listing.event_capacity - length m.events

-- this many events are more than this room of the event queue
abbrev pub no_room : ℕ → ℕ → Option Refusal
no_room needed room = refused_where (nat_lt room needed) (refusal.EventQueueFull needed room)

-- this many events are more than the free places of the market's queue
abbrev pub queue_full : ℕ → Market → Option Refusal
queue_full needed m = no_room needed (event_room m)

-- a deposit is more than the balance that pays it, where there is one
abbrev pub short_by : ℕ → Option ℕ → Option Refusal
short_by deposit None = None
short_by deposit (Some balance) = refused_where (nat_lt balance deposit) (refusal.InsufficientFunds deposit balance)

-- the native amount in a wallet, where one is named
abbrev pub balance_of : Option WalletSeen → Option ℕ
balance_of None = None
balance_of (Some wallet) = Some wallet.balance

-- the wallet that pays has less than the deposit
abbrev pub short_of : ℕ → Option WalletSeen → Option Refusal
short_of deposit wallet = short_by deposit (balance_of wallet)

-- a balance would be 2^64 or more with this amount more
abbrev pub overfull : ℕ → ℕ → Option Refusal
overfull balance amount = refused_where (nat_le (2 ^ 64) (balance + amount)) (refusal.BalanceTooLarge balance amount)

-- with all that the row credits to it, a wallet would hold 2^64 or more
abbrev pub too_full : Seen → Transfers → Option WalletSeen → Option Refusal
too_full seen t None = None
too_full seen t (Some wallet) = overfull wallet.balance (brought_to seen t wallet.address)

-- a vault, with what pending makers' fills are still to take off totals, is 2^64 or more
abbrev pub beyond : ℕ → ℕ → Option Refusal
beyond vault pending = refused_where (nat_le (2 ^ 64) (vault + pending)) (refusal.SumTooLarge vault pending)

-- the market that the row would leave passes the bound of a token
abbrev pub past_bound : Token → Market → Option Refusal
past_bound token m = beyond (vault token m) (all_leaving token m.events)

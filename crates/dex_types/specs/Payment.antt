-- Consuming events: what each pays its owner, and how far a call gets.
use Rattle.std.specs.Prelude.{ℕ, ◌+◌, ◌-◌, List, [], ◌∷◌, Option, Some, None, Bool, false, ◌&&◌, ◌||◌, nat_lt, ◌==◌, take, drop, slice_set, if◌then◌else◌}
use Rattle.dex_types.specs.declared.addresses.Address.{Address}
use Rattle.dex_types.specs.declared.terms.Side.{Side}
use Rattle.dex_types.specs.declared.terms.Side.TheVariants.{Bid, Ask}
use Rattle.dex_types.specs.Addresses.{is_same}
use Rattle.dex_types.specs.Fees.{referrer_part}
use Rattle.dex_types.specs.Market.{Market}
use Rattle.dex_types.specs.QueuedEvent.{EventKind, MakerFill, TakerFill, PlainOut, ReleasingOut, QueuedEvent}
use Rattle.dex_types.specs.Side.{locked_token, gained_token}
use Rattle.dex_types.specs.Trader.{Account, Balance, Trader, Open, Traders, balance, with_balance, trader_at, put_trader}

-- the part of a maker's rebate that is paid in the token that it locked: a bid locked quote, and gets its rebate back
-- in it; an ask has its rebate in what it receives
abbrev pub rebate_back : Side → QueuedEvent → ℕ
rebate_back Bid event = event.fee_or_rebate
rebate_back Ask event = 0

-- the locked token's funds of a maker: what it pays leaves the total, and its rebate is free
abbrev pub maker_paid : Side → QueuedEvent → Balance → Balance
maker_paid side event funds = record { free = funds.free + rebate_back side event; total = funds.total - event.paid }

-- the other token's funds of a maker, which get what it receives
abbrev pub maker_received : QueuedEvent → Balance → Balance
maker_received event funds = record { free = funds.free + event.released; total = funds.total + event.released }

-- funds of which an out unlocks a part
abbrev pub unlocked_funds : QueuedEvent → Balance → Balance
unlocked_funds event funds = record funds { free = funds.free + event.released }

-- the account without the order in its slot, where the event leaves nothing of it locked
abbrev pub freed : QueuedEvent → Account → Account
freed event account = if event.paid == 0 then record account { slots = slice_set account.slots event.slot None } else account

-- an account after an event of this kind was consumed: a maker's fill pays it, a taker's fill adds the referrer's part
-- of its fee, and an out frees the slot and, if it releases, unlocks
abbrev pub paid_as : EventKind → QueuedEvent → Account → Account
paid_as (MakerFill side) event account =
    with_balance (gained_token side) (maker_received event (balance (gained_token side) account))
    (with_balance (locked_token side) (maker_paid side event (balance (locked_token side) account)) account)
paid_as (TakerFill side) event account = record account { referrer = account.referrer + referrer_part event.fee_or_rebate }
paid_as (PlainOut side) event account = freed event account
paid_as (ReleasingOut side) event account =
    freed event (with_balance (locked_token side) (unlocked_funds event (balance (locked_token side) account)) account)

-- a trader after an event of it was consumed; one that is not open has none
abbrev pub pay : QueuedEvent → Trader → Trader
pay event (Open account) = Open (paid_as event.kind event account)
pay event trader = trader

-- the traders, with the owner's account, if there is one, paid for the event
abbrev pub put_paid : Address → QueuedEvent → Option Trader → Traders → Traders
put_paid owner event None traders = traders
put_paid owner event (Some trader) traders = put_trader owner (pay event trader) traders

-- the traders after an event was consumed
abbrev pub pay_owner : QueuedEvent → Traders → Traders
pay_owner event traders = put_paid event.owner event (trader_at event.owner traders) traders

-- the traders after these events were consumed, one after the other
abbrev pub pay_all : List QueuedEvent → Traders → Traders
pay_all [] traders = traders
pay_all (event ∷ events) traders = pay_all events (pay_owner event traders)

-- the address is one of these
abbrev pub is_named : Address → List Address → Bool
is_named address [] = false
is_named address (named ∷ others) = is_same address named || is_named address others

-- how many events a call consumes: from the front, at most this many, up to the first whose owner it does not name
abbrev pub consumable : ℕ → List Address → List QueuedEvent → ℕ
consumable limit named [] = 0
consumable limit named (event ∷ events) =
    if nat_lt 0 limit && is_named event.owner named then consumable (limit - 1) named events + 1 else 0

-- the market after its first n events were consumed
abbrev pub after_crank : ℕ → Market → Market
after_crank count m = record m { events = drop count m.events; traders = pay_all (take count m.events) m.traders }

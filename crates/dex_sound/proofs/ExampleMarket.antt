-- the market of the worked examples: base lots of 100 and quote lots of 10, its accounts amy of ann and ben of bob, and
-- their wallets
use Rattle.std.proofs.Common.{ℕ, pos, List, [], ◌∷◌, Option, Some, None, Ok, false, map, codes}
use Rattle.dex_types.specs.declared.addresses.Address.{Address}
use Rattle.dex_types.specs.declared.instructions.Ix.{Ix}
use Rattle.dex_types.specs.declared.instructions.Ix.TheVariants.{ConsumeEvents, SettleFunds, NewOrderV3, InitOpenOrders}
use Rattle.dex_types.specs.declared.movements.MoveKind.TheVariants.{Probe, Debit, Credit}
use Rattle.dex_types.specs.declared.movements.Movement.{Movement}
use Rattle.dex_types.specs.declared.orders.Order.{Order}
use Rattle.dex_types.specs.declared.replies.Reply.{Reply}
use Rattle.dex_types.specs.declared.rows.Seen.{Seen}
use Rattle.dex_types.specs.declared.rows.WalletSeen.{WalletSeen}
use Rattle.dex_types.specs.declared.terms.OrderType.{OrderType}
use Rattle.dex_types.specs.declared.terms.OrderType.TheVariants.{Limit, Ioc}
use Rattle.dex_types.specs.declared.terms.Program.TheVariants.{Serum}
use Rattle.dex_types.specs.declared.terms.SelfTrade.{SelfTrade}
use Rattle.dex_types.specs.declared.terms.SelfTrade.TheVariants.{Decrement}
use Rattle.dex_types.specs.declared.terms.Side.{Side}
use Rattle.dex_types.specs.declared.terms.Side.TheVariants.{Bid, Ask}
use Rattle.dex_types.specs.Market.{Market, Listing}
use Rattle.dex_types.specs.QueuedEvent.{encoded_event}
use Rattle.dex_types.specs.Trader.{Trader, Open, Blank, Holding, trader_at}
use Rattle.dex_types.specs.Requests.{Request}
use Rattle.dex_types.specs.Steps.{Step, step}

abbrev pub label : List ℕ → Address
label name = record { 0 = name }

abbrev pub amy : Address
amy = label (codes "amy")

abbrev pub ben : Address
ben = label (codes "ben")

abbrev pub ann : Address
ann = label (codes "ann")

abbrev pub bob : Address
bob = label (codes "bob")

abbrev pub coin : Address
coin = label (codes "coin")

abbrev pub usd : Address
usd = label (codes "usd")

-- a listing with so much base in a lot, and room for this many bids and events
abbrev pub listing : ℕ → ℕ → ℕ → Listing
listing coin_lot bids events = record {
  address = label (codes "m");
  authority = label (codes "admin");
  coin_mint = coin;
  pc_mint = usd;
  sizes = record { coin = coin_lot; pc = 10 };
  coin_vault = label [];
  pc_vault = label [];
  coin_vault_owner = label [];
  pc_vault_owner = label [];
  request_queue = label [];
  event_queue = label [];
  bids = label [];
  asks = label [];
  vault_signer_nonce = 0;
  pc_dust_threshold = 1;
  fee_rate_bps = 0;
  bid_capacity = bids;
  ask_capacity = 455;
  event_capacity = events;
}

-- a made market, with two accounts that are not open yet
abbrev pub made : Listing → Market
made listed = record {
  listing = listed;
  bids = [];
  asks = [];
  events = [];
  traders = (amy, Blank) ∷ (ben, Blank) ∷ [];
  coin_vault = 0;
  pc_vault = 0;
  coin_fees = 0;
  pc_fees = 0;
  referrer_rebates = 0;
  next_sequence = 0;
  events_appended = 0;
  is_disabled = false;
}

-- a row of this signer that names these accounts
abbrev pub row : Ix → Address → List Address → Request
row ix signer named = record { instruction = Ok ix; signer = signer; named = named; now = pos 0 }

-- an order that may be taken at any time
abbrev pub new : Side → ℕ → ℕ → ℕ → SelfTrade → OrderType → ℕ → ℕ → Ix
new side price lots max_pc rule order_type client limit = NewOrderV3 side price lots max_pc rule order_type client limit None

abbrev pub wallet : List ℕ → Address → Address → ℕ → Option WalletSeen
wallet name mint owner balance = Some (record { address = label name; mint = mint; owner = owner; balance = balance })

abbrev pub ann_coin : ℕ → Option WalletSeen
ann_coin balance = wallet (codes "ann_coin") coin ann balance

abbrev pub ann_usd : ℕ → Option WalletSeen
ann_usd balance = wallet (codes "ann_usd") usd ann balance

abbrev pub bob_coin : ℕ → Option WalletSeen
bob_coin balance = wallet (codes "bob_coin") coin bob balance

abbrev pub bob_usd : ℕ → Option WalletSeen
bob_usd balance = wallet (codes "bob_usd") usd bob balance

-- what a row sees, in a script without SRM and MSRM
abbrev pub sees : Option WalletSeen → Option WalletSeen → Seen
sees coin_wallet pc_wallet = record {
  coin = coin_wallet;
  pc = pc_wallet;
  discount = None;
  referrer = None;
  srm = None;
  msrm = None;
  program = Serum;
}

abbrev pub nothing : Seen
nothing = sees None None

-- movements of wallets
abbrev pub debit : List ℕ → ℕ → ℕ → Movement
debit name amount before = record { wallet = label name; kind = Debit; amount = amount; before = before }

abbrev pub credit : List ℕ → ℕ → ℕ → Movement
credit name amount before = record { wallet = label name; kind = Credit; amount = amount; before = before }

abbrev pub probe : List ℕ → ℕ → Movement
probe name before = record { wallet = label name; kind = Probe; amount = 0; before = before }

-- a trader's free base, its total, free quote, its total, and its referrer part
abbrev pub funds_in : Option Trader → List ℕ
funds_in (Some (Open account)) = account.coin.free ∷ account.coin.total ∷ account.pc.free ∷ account.pc.total ∷ account.referrer ∷ []
funds_in _ = []

abbrev pub funds : Address → Market → List ℕ
funds owner m = funds_in (trader_at owner m.traders)

-- flags and the three amounts of each event
abbrev pub events : Market → List (List ℕ)
events m = map (λ e. (encoded_event e).flags ∷ e.released ∷ e.paid ∷ e.fee_or_rebate ∷ []) m.events

-- ids and lots
abbrev pub resting : List Order → List (List ℕ)
resting orders = map (λ (o : Order). o.id ∷ o.lots ∷ []) orders

-- the vaults, the quote fees and the referrer rebates
abbrev pub held : Market → List ℕ
held m = m.coin_vault ∷ m.pc_vault ∷ m.pc_fees ∷ m.referrer_rebates ∷ []

-- ann and bob open their accounts
abbrev pub open_on : Listing → Market
open_on listed = (step (row InitOpenOrders bob (ben ∷ [])) nothing (step (row InitOpenOrders ann (amy ∷ [])) nothing (made listed)).market).market

abbrev pub base : Market
base = open_on (listing 100 455 2978)

-- the market after a row
abbrev pub after : Request → Seen → Market → Market
after request seen m = (step request seen m).market

-- the answer to a row
abbrev pub answer : Request → Seen → Market → Reply
answer request seen m = (step request seen m).reply

abbrev pub ask_row : Request
ask_row = row (new Ask 50 4 1 Decrement Limit 7 10) ann (amy ∷ [])

abbrev pub ask_sees : ℕ → Seen
ask_sees balance = sees (ann_coin balance) None

abbrev pub asked : Step
asked = step ask_row (ask_sees 1000) base

abbrev pub buy_row : Request
buy_row = row (new Bid 60 3 2000 Decrement Ioc 8 10) bob (ben ∷ [])

abbrev pub buy_sees : Seen
buy_sees = sees None (bob_usd 5000)

abbrev pub bought : Step
bought = step buy_row buy_sees asked.market

abbrev pub consume : ℕ → List Address → Market → Step
consume limit named m = step (row (ConsumeEvents limit) bob named) nothing m

abbrev pub slots_in : Option Trader → List (Option Holding)
slots_in (Some (Open account)) = account.slots
slots_in _ = []

abbrev pub traded : Market
traded = (step (row (new Bid 100 200 200440 Decrement Limit 8 10) bob (ben ∷ [])) (sees None (bob_usd 300000))
    (step (row (new Ask 100 200 1 Decrement Limit 7 10) ann (amy ∷ [])) (ask_sees 20000) base).market).market

abbrev pub cranked : Market
cranked = (consume 4 (amy ∷ ben ∷ []) traded).market

abbrev pub settle : Seen → Market → Step
settle seen m = step (row SettleFunds bob (ben ∷ [])) seen m

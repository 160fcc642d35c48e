-- Histories of a market: each row answered by the step at its place.
use Rattle.std.specs.Prelude.{ℕ, ◌≡◌, ◌&&◌, Bool, true, false, List, [], ◌∷◌, ◌++◌, Option, Some, None, Result, Ok, Err, map, take, replicate, if◌then◌else◌}
use Rattle.dex_types.specs.declared.instructions.BadData.{BadData}
use Rattle.dex_types.specs.declared.instructions.Ix.{Ix}
use Rattle.dex_types.specs.declared.instructions.Ix.TheVariants.{MatchOrders, SendTake}
use Rattle.dex_types.specs.declared.replies.Reply.{Reply}
use Rattle.dex_types.specs.declared.replies.Reply.TheVariants.{Done, Refused, Took}
use Rattle.dex_types.specs.declared.movements.Entry.{Entry}
use Rattle.dex_types.specs.declared.movements.Movement.{Movement}
use Rattle.dex_types.specs.declared.addresses.Address.{Address}
use Rattle.dex_types.specs.declared.movements.WalletEntry.{WalletEntry}
use Rattle.dex_types.specs.declared.rows.Seen.{Seen}
use Rattle.dex_types.specs.declared.rows.WalletSeen.{WalletSeen}
use Rattle.dex_types.specs.Market.{Market}
use Rattle.dex_types.specs.Rows.{PlainRow}
use Rattle.dex_types.specs.Wallets.{address_seen, movements, with_role}
use Rattle.dex_types.specs.Requests.{HasPrice, Request}
use Rattle.dex_types.specs.Steps.{Step, step}
use Rattle.dex_types.specs.Why.{why}
use Rattle.dex_instruction.specs.Reading.{decoded}

-- two roles of one wallet see one wallet, with one mint, one owner and one balance
abbrev pub Agree : Option WalletSeen → Option WalletSeen → Type 0
Agree (Some wallet) (Some other) = wallet.address ≡ other.address → wallet ≡ other
Agree _ _ = Unit {0}

-- the movements that stand in such places: those before the first empty one
abbrev pub front : List (Option Movement) → List Movement
front [] = []
front (None ∷ others) = []
front (Some move ∷ others) = move ∷ front others

-- the entry that a movement of a market's entry makes in its wallet's journal
abbrev pub wallet_entry_of : Address → Entry → Movement → WalletEntry
wallet_entry_of market entry move = record {
  market = market;
  lane = entry.lane;
  row = entry.row;
  kind = move.kind;
  amount = move.amount;
  before = move.before;
}

-- what a row asks of its market: what its data decodes to, by whom, of which accounts, and when
abbrev pub request_of : PlainRow → Request
request_of row = record { instruction = decoded row.bytes; signer = row.signer; named = row.named; now = row.now }

-- what a row asked for, as a journal tells it: its lane and number, its market, its request and the wallets of its
-- roles. The bytes of its data are no part of it, since different data may break one rule
pub record Asked : Type 0 where
  pub lane : ℕ
  pub number : ℕ
  pub market : Address
  pub request : Request
  pub coin : Option Address
  pub pc : Option Address
  pub discount : Option Address
  pub referrer : Option Address

-- what a row asks for
abbrev pub asked_of : PlainRow → Asked
asked_of row = record {
  lane = row.lane;
  number = row.number;
  market = row.market;
  request = request_of row;
  coin = row.coin;
  pc = row.pc;
  discount = row.discount;
  referrer = row.referrer;
}

-- the wallets that were asked for, under whichever roles, by rising address, each once
abbrev pub asked_wallets : Asked → List Address
asked_wallets asked = with_role asked.coin (with_role asked.pc (with_role asked.discount (with_role asked.referrer [])))

-- exactly the wallets that were asked for are seen, and where one is named under two roles, one wallet in both
pub record Sees (asked : Asked) (seen : Seen) : Type 0 where
  pub coin : address_seen seen.coin ≡ asked.coin
  pub pc : address_seen seen.pc ≡ asked.pc
  pub discount : address_seen seen.discount ≡ asked.discount
  pub referrer : address_seen seen.referrer ≡ asked.referrer
  pub coin_pc : Agree seen.coin seen.pc
  pub coin_discount : Agree seen.coin seen.discount
  pub coin_referrer : Agree seen.coin seen.referrer
  pub pc_discount : Agree seen.pc seen.discount
  pub pc_referrer : Agree seen.pc seen.referrer
  pub discount_referrer : Agree seen.discount seen.referrer

-- up to four movements, from the front
abbrev pub places : List Movement → List (Option Movement)
places moves = take 4 (map (λ move. Some move) moves ++ replicate 4 None)

-- the step of what was asked on a market
abbrev pub asked_step : Asked → Seen → Market → Step
asked_step asked seen m = step asked.request seen m

-- the step of a row on a market
abbrev pub row_step : PlainRow → Seen → Market → Step
row_step row seen m = asked_step (asked_of row) seen m

-- a call of a history: what its row asked for, what it saw, and the entry that it made in the market's journal
pub record Call : Type 0 where
  pub asked : Asked
  pub seen : Seen
  pub entry : Entry

-- ---- takes that were held back

-- what was decoded is a take
abbrev pub is_take : Result Ix BadData → Bool
is_take (Ok (SendTake side price lots max_pc min_lots min_pc limit)) = true
is_take instruction = false

-- what was decoded is a take, or broke a rule: the data of a row that can be held back, or that any market refuses
abbrev pub is_take_or_bad : Result Ix BadData → Bool
is_take_or_bad (Err bad) = true
is_take_or_bad (Ok ix) = is_take (Ok ix)

-- the reply is that there is nothing to tell
abbrev pub is_done : Reply → Bool
is_done Done = true
is_done reply = false

-- the reply tells what was taken
abbrev pub is_took : Reply → Bool
is_took (Took lots pc fee) = true
is_took reply = false

-- the reply is a refusal
abbrev pub is_refusal : Reply → Bool
is_refusal (Refused refusal) = true
is_refusal reply = false

-- the call was refused
abbrev pub is_refused : Call → Bool
is_refused call = is_refusal call.entry.reply

-- a call was held back: a take is answered Done only so, since what it took it tells, and else why it is refused
abbrev pub is_held : Call → Bool
is_held call = is_take call.asked.request.instruction && is_done call.entry.reply

-- what was asked, with an instruction that does nothing in the place of its own
abbrev pub idle : Asked → Asked
idle asked = record asked { request = record asked.request { instruction = Ok (MatchOrders 0) } }

-- what the market does for a call: what was asked, and nothing where it was held back
abbrev pub acted_of : Call → Asked
acted_of call = if is_held call then idle call.asked else call.asked

-- the step of a call on a market
abbrev pub step_of : Call → Market → Step
step_of call m = asked_step (acted_of call) call.seen m

-- the entry of a call with this step: its reply, and one movement for each wallet that the row names
abbrev pub entry_by : Call → Step → Entry
entry_by call s = record { lane = call.asked.lane; row = call.asked.number; reply = s.reply; moves = places (movements call.seen s.transfers) }

-- the entry that a call makes on a market
abbrev pub entry_on : Call → Market → Entry
entry_on call m = entry_by call (step_of call m)

-- a call stands in a market's history at this place: its row is one of the market, what it asks for states a price
-- where it is an order or a take, it saw the wallets that its row names, it was held back only where it would not be
-- refused, and it has the entry that it makes here
pub record Stands (call : Call) (m : Market) : Type 0 where
  pub market : call.asked.market ≡ m.listing.address
  pub price : HasPrice call.asked.request.instruction
  pub sees : Sees call.asked call.seen
  pub held : is_held call ≡ true → why call.asked.request call.seen m ≡ None
  pub entry : call.entry ≡ entry_on call m

-- these calls are a history of the market from here on: each stands at its place
abbrev pub IsLegal : Market → List Call → Type 0
IsLegal m [] = Unit {0}
IsLegal m (call ∷ calls) = Stands call m × IsLegal (step_of call m).market calls

-- the market after these calls
abbrev pub market_after : Market → List Call → Market
market_after m [] = m
market_after m (call ∷ calls) = market_after (step_of call m).market calls

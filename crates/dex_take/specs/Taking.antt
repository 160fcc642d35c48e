-- Why a take is refused, or else its plan, read from the parts that it is handed.
use Rattle.std.specs.Prelude.{◌≡◌, ℕ, ◌+◌, ◌-◌, ◌^◌, ◌<◌, ◌≤◌, List, [], ◌∷◌, ◌++◌, Option, Some, None, Result, length, nat_lt, if◌then◌else◌}
use Rattle.dex_types.specs.declared.refusals.Refusal.{Refusal}
use Rattle.dex_types.specs.declared.rows.Seen.{Seen}
use Rattle.dex_types.specs.declared.terms.Lots.{Lots}
use Rattle.dex_types.specs.declared.terms.Side.{Side}
use Rattle.dex_types.specs.Meeting.{Meeting}
use Rattle.dex_types.specs.Reasons.{answered, ask_too_large, balance_of, below_minimum, beyond, first_of, no_room, short_of, too_full}
use Rattle.dex_types.specs.Side.{Token, Coin, Pc, by_side, by_token, gained_token, locked_token, opposite}
use Rattle.dex_types.specs.Solvency.{all_leaving}
use Rattle.dex_types.specs.Take.{Take, take_fee, take_got, take_meeting, take_paid, take_transfers}
use Rattle.dex_types.specs.Transfers.{Transfers, exchange}
use Rattle.dex_types.specs.Why.{TakeReading, payer, why_taking}
use Rattle.dex_laws.specs.Locks.{locked}
use Rattle.dex_market.specs.MarketAccount.{MarketWords, sizes_of, vault_of}
use Rattle.dex_match.specs.declared.order_terms.Taker.{Taker}
use Rattle.dex_ring.specs.Appended.{HasRoom}
use Rattle.dex_ring.specs.declared.pending_fills.PendingFills.{PendingFills}
use Rattle.dex_ring.specs.PendingFills.{pending_fills_of}
use Rattle.dex_ring.specs.Ring.{room_of}
use Rattle.dex_take.specs.declared.outlook.TakeOutlook.{TakeOutlook}
use Rattle.dex_take.specs.declared.plan.DecidedTake.{DecidedTake}
use Rattle.dex_take.specs.declared.plan.TakePlan.{TakePlan}
use Rattle.dex_take.specs.Exchanging.{CanExchange, kept_of}
use Rattle.dex_take.specs.TakeGiven.{TakeRead}
use Rattle.dex_take.specs.TakeTerms.{bare_take, take_of}

-- the lot sizes of the market
abbrev pub sizes_in : TakeRead → Lots
sizes_in read = sizes_of read.words

-- what a take meets
abbrev pub meeting_in : Side → Take → TakeRead → Meeting
meeting_in side t read = take_meeting side (sizes_in read) t read.opposing

-- the plan that says what it does
abbrev pub plan_by : Side → Lots → Take → Meeting → TakePlan
plan_by side sizes t met = record {
  deposit = take_paid side sizes t met;
  payout = take_got side sizes t met;
  lots = met.lots;
  pc = met.pc;
  fee = take_fee t met;
}

-- the plan of a take, by what it reads
abbrev pub plan_in : Side → Take → TakeRead → TakePlan
plan_in side t read = plan_by side (sizes_in read) t (meeting_in side t read)

-- what moves between wallets and vaults, by a plan
abbrev pub transfers_by : Side → TakePlan → Transfers
transfers_by side plan = exchange (locked_token side) plan.deposit plan.payout

-- what moves between wallets and vaults, by what a take reads
abbrev pub moved_in : Side → Take → TakeRead → Transfers
moved_in side t read = take_transfers side (sizes_in read) t (meeting_in side t read)

-- what a plan fills, where that is too little: the lots where they are too few, else the native quote with its fee
abbrev pub too_little_by : Side → TakePlan → ℕ → ℕ → Option ℕ
too_little_by side plan min_lots min_pc =
    if nat_lt plan.lots min_lots then Some plan.lots
    else (if nat_lt (by_side side plan.deposit plan.payout) min_pc then Some (by_side side plan.deposit plan.payout) else None)

-- the native amount of a token in its vault after the transfers
abbrev pub vault_after : Token → Transfers → MarketWords → ℕ
vault_after token moved words = vault_of token words + by_token token moved.coin_in moved.pc_in - by_token token moved.coin_out moved.pc_out

-- what pending makers' fills are to take off totals of a token after a take
abbrev pub leaving_after : Token → TakeRead → Meeting → ℕ
leaving_after token read met = all_leaving token (read.ring.events ++ met.events)

-- what the reasons to refuse a take read
abbrev pub reading_in : Side → Take → Seen → TakeRead → TakeReading
reading_in side t seen read =
    let met = meeting_in side t read in
    record {
      sizes = sizes_in read;
      met = met;
      limits = record {
        room = room_of read.ring;
        balance = balance_of (payer side seen);
        coin = record { vault = vault_after Coin (moved_in side t read) read.words; leaving = leaving_after Coin read met };
        pc = record { vault = vault_after Pc (moved_in side t read) read.words; leaving = leaving_after Pc read met };
      };
    }

-- why a take is refused, once it may be asked for
abbrev pub take_reason : Side → Take → TakeRead → Seen → Option Refusal
take_reason side t read seen = why_taking side t seen (reading_in side t seen read)

-- what deciding answers
abbrev pub take_answer : Side → Take → TakeRead → Seen → Result TakePlan Refusal
take_answer side t read seen = answered (take_reason side t read seen) (plan_in side t read)

-- what pending makers' fills are still to take off totals once those of the take are pending too
abbrev pub left_in : Side → Take → TakeRead → PendingFills
left_in side t read = pending_fills_of (read.ring.events ++ (meeting_in side t read).events)

-- what deciding answers, with the sums after the take beside the plan
abbrev pub take_outcome : Side → Take → TakeRead → Seen → Result DecidedTake Refusal
take_outcome side t read seen = answered (take_reason side t read seen) (record { plan = plan_in side t read; pending = left_in side t read })

-- what the side that is met locks fits 64 bits, and is in its vault
pub record IsBacked (side : Side) (read : TakeRead) : Type 0 where
  pub fits : locked (opposite side) (sizes_in read) read.opposing < 2 ^ 64
  pub held : locked (opposite side) (sizes_in read) read.opposing ≤ vault_of (gained_token side) read.words

-- the plan says what the take does with what is given, and it can be done there: its native base fits, its events have
-- room, and the words of the market can take in and pay out what it moves
pub record CanBeDone (plan : TakePlan) (taker : Taker) (read : TakeRead) : Type 0 where
  pub planned : plan ≡ plan_in taker.id_side (bare_take taker) read
  pub size : ask_too_large taker.id_side (sizes_in read) taker.lots ≡ None
  pub room : HasRoom (length (meeting_in taker.id_side (bare_take taker) read).events) read.ring
  pub counted : read.ring.seq_num < 2 ^ 64
  pub can : CanExchange (moved_in taker.id_side (bare_take taker) read) (kept_of (bare_take taker) (meeting_in taker.id_side (bare_take taker) read)) read.words

-- the plan was decided on what is given, with some least fill, for wallets as some row saw them
pub record IsDecided (plan : TakePlan) (taker : Taker) (read : TakeRead) : Type 0 where
  pub min_lots : ℕ
  pub min_pc : ℕ
  pub seen : Seen
  pub accepted : take_reason taker.id_side (take_of taker min_lots min_pc) read seen ≡ None
  pub planned : plan ≡ plan_in taker.id_side (take_of taker min_lots min_pc) read

-- what was foreseen of a take is what it does with what is read
pub record IsForeseen (side : Side) (t : Take) (read : TakeRead) (outlook : TakeOutlook) : Type 0 where
  pub plan : outlook.plan ≡ plan_in side t read
  pub events : outlook.events ≡ length (meeting_in side t read).events
  pub lots : outlook.sums.lots ≡ (meeting_in side t read).lots
  pub pc : outlook.sums.pc ≡ (meeting_in side t read).pc
  pub rebates : outlook.sums.rebates ≡ (meeting_in side t read).rebates

-- the reasons against a take that ask for its plan and its events
abbrev pub before_bound : Side → TakePlan → ℕ → ℕ → ℕ → ℕ → Seen → List (Option Refusal)
before_bound side plan min_lots min_pc events room seen =
    below_minimum (too_little_by side plan min_lots min_pc)
    ∷ no_room events room
    ∷ short_of plan.deposit (payer side seen)
    ∷ too_full seen (transfers_by side plan) seen.coin
    ∷ too_full seen (transfers_by side plan) seen.pc
    ∷ []

-- the reasons against a take that ask for the bound, by the sums after it
abbrev pub at_bound : Side → TakePlan → MarketWords → PendingFills → List (Option Refusal)
at_bound side plan words pending =
    beyond (vault_after Coin (transfers_by side plan) words) pending.coin
    ∷ beyond (vault_after Pc (transfers_by side plan) words) pending.pc
    ∷ []

-- no reason before the bound holds against a take
pub record IsWithin (side : Side) (t : Take) (read : TakeRead) (seen : Seen) : Type 0 where
  pub size : ask_too_large side (sizes_in read) t.lots ≡ None
  pub rest : first_of (before_bound side (plan_in side t read) t.min_lots t.min_pc (length (meeting_in side t read).events) (room_of read.ring) seen) ≡ None

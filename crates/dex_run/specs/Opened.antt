-- A bank's gates and the passes for them, when no row has acted.
use Rattle.std.specs.Prelude.{ℕ, ◌+◌, List, [], Some, map}
use Rattle.dex_gate.specs.GateView.{GateView}
use Rattle.dex_gate.specs.PassView.{PassView}
use Rattle.dex_gate.specs.declared.stage.Stage.TheVariants.{Idle}
use Rattle.dex_turns.specs.Bank.{BankState}
use Rattle.dex_turns.specs.Seats.{SeatState, fresh_seat}

-- a pass for a gate, of this number, that may hand out the numbers from the next one on, and has made nothing
abbrev pub fresh_pass : {E O : Type 0} → ℕ → ℕ → GateView E O → PassView E O
fresh_pass number next gate = record {
  gate = Some gate;
  number = number;
  next = next;
  until = gate.passes;
  seen = gate.opening;
  mine = [];
  stage = Idle;
}

-- a pass that has handed out one number
abbrev pub split_once : {E O : Type 0} → PassView E O → PassView E O
split_once pass = record pass { next = pass.next + 1 }

-- the first passes for all gates, which may hand out the numbers from the next one on
abbrev pub first_passes : {E O : Type 0} → ℕ → List (GateView E O) → List (PassView E O)
first_passes next gates = map (λ gate. fresh_pass 0 next gate) gates

-- the passes of one number for all gates, which have no number to hand out
abbrev pub passes_of : {E O : Type 0} → ℕ → List (GateView E O) → List (PassView E O)
passes_of number gates = map (λ gate. fresh_pass number gate.passes gate) gates

-- the seat of a lane with which a bank is built, at this bank
abbrev pub seat_in : BankState → ℕ → SeatState
seat_in bank lane = fresh_seat lane bank.script (passes_of lane bank.markets) (passes_of lane bank.wallets)

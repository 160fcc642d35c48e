-- Histories of a market, and the eager market beside them.
use Rattle.std.specs.Prelude.{ℕ, ◌≡◌, List, [], ◌∷◌, ◌++◌, Bool, true, false, not, ◌&&◌, Result, Ok, length, map, drop, if◌then◌else◌}
use Rattle.dex_types.specs.declared.addresses.Address.{Address}
use Rattle.dex_types.specs.declared.instructions.BadData.{BadData}
use Rattle.dex_types.specs.declared.instructions.Ix.{Ix}
use Rattle.dex_types.specs.declared.instructions.Ix.TheVariants.{ConsumeEvents}
use Rattle.dex_types.specs.declared.terms.Program.{Program}
use Rattle.dex_types.specs.declared.terms.Tier.{Tier}
use Rattle.dex_types.specs.Market.{Market}
use Rattle.dex_types.specs.QueuedEvent.{QueuedEvent}
use Rattle.dex_types.specs.Requests.{Request}
use Rattle.dex_types.specs.Steps.{Step}
use Rattle.dex_types.specs.Terms.{tier_seen}
use Rattle.dex_history.specs.Journal.{Asked, Call, acted_of, is_refusal, step_of}
use Rattle.dex_eager.specs.Eager.{Eager, EagerStep, eager_at, eager_step}
use Rattle.dex_eager.specs.Slots.{maker_fills}
use Rattle.dex_eager.specs.Worth.{Ledger, no_moves, with_step}

-- the instruction is a crank
abbrev pub is_crank : Result Ix BadData → Bool
is_crank (Ok (ConsumeEvents limit)) = true
is_crank instruction = false

-- the call was accepted, and is no crank
abbrev pub counts : Call → Bool
counts call = not (is_refusal call.entry.reply) && not (is_crank (acted_of call).request.instruction)

-- the accepted calls but cranks
abbrev pub counted : List Call → List Call
counted [] = []
counted (call ∷ calls) = if counts call then call ∷ counted calls else counted calls

-- the eager market after a call, and the fills that it made
abbrev pub eager_call : Call → Eager → EagerStep
eager_call call e = eager_step (acted_of call).request call.seen e

-- the eager market after these calls, each of which counts
abbrev pub eager_after : Eager → List Call → Eager
eager_after e [] = e
eager_after e (call ∷ calls) = eager_after (eager_call call e).market calls

-- the eager market that begins with a market, where nothing moved yet
abbrev pub eager_start : Market → Eager
eager_start m = eager_at m no_moves

-- the eager market at the end of a history: after its accepted calls but cranks
abbrev pub eager_end : Market → List Call → Eager
eager_end m calls = eager_after (eager_start m) (counted calls)

-- a fill of a resting order, with slot 0, and the number of the row that made it
pub record Fill : Type 0 where
  pub row : ℕ
  pub event : QueuedEvent

-- the fills that a row made
abbrev pub fills_by : Call → List QueuedEvent → List Fill
fills_by call events = map (λ event. record { row = (acted_of call).number; event = event }) events

-- the events that stand in a market after those that stood in an earlier one; a row appends events, or takes some from
-- the front
abbrev pub appended : Market → Market → List QueuedEvent
appended m after = drop (length m.events) after.events

-- the fills that a history of a market appended
abbrev pub fills_of : Market → List Call → List Fill
fills_of m [] = []
fills_of m (call ∷ calls) = fills_by call (maker_fills (appended m (step_of call m).market)) ++ fills_of (step_of call m).market calls

-- the fills of an eager market
abbrev pub eager_fills : Eager → List Call → List Fill
eager_fills e [] = []
eager_fills e (call ∷ calls) = fills_by call (eager_call call e).fills ++ eager_fills (eager_call call e).market calls

-- what moved between wallets and the market in a history
abbrev pub moves_after : Market → List Call → Ledger → Ledger
moves_after m [] ledger = ledger
moves_after m (call ∷ calls) ledger = moves_after (step_of call m).market calls (with_step (acted_of call).request.named (step_of call m) ledger)

-- what moved since the start
abbrev pub moves_of : Market → List Call → Ledger
moves_of m calls = moves_after m calls no_moves

-- what a trade goes by: what its row asks for, the tier that it reaches, and the program that runs
pub record Trade : Type 0 where
  pub asked : Asked
  pub tier : Tier
  pub program : Program

-- what a call's trade goes by
abbrev pub trade_of : Call → Trade
trade_of call = record { asked = acted_of call; tier = tier_seen call.seen; program = call.seen.program }

-- what the accepted calls of a history but cranks go by
abbrev pub trades : List Call → List Trade
trades calls = map trade_of (counted calls)

-- what a trade does goes by: its row's request (instruction, signer, accounts and time, but no lane, number or wallet),
-- the tier and the program
pub record Deal : Type 0 where
  pub request : Request
  pub tier : Tier
  pub program : Program

-- what a call's trade does goes by
abbrev pub deal_of : Call → Deal
deal_of call = record { request = (acted_of call).request; tier = tier_seen call.seen; program = call.seen.program }

-- what the accepted calls of a history but cranks do goes by
abbrev pub deals : List Call → List Deal
deals calls = map deal_of (counted calls)

-- the step of a row (`named`: the accounts that it names) leaves the eager market that the eager step leaves, and
-- appends the fills of that
pub record IsPaidAs (m : Market) (ledger : Ledger) (named : List Address) (s : Step) (paid : EagerStep) : Type 0 where
  pub market : eager_at s.market (with_step named s ledger) ≡ paid.market
  pub fills : maker_fills (appended m s.market) ≡ paid.fills

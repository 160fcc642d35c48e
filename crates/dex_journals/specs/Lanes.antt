-- What a lane made.
use Rattle.std.specs.Prelude.{ℕ, ◌≡◌, ◌==◌, ◌<◌, ◌&&◌, true, false, not, List, All, length, map, take}
use Rattle.std.specs.List.{AllPairs, list_any}
use Rattle.dex_world.specs.Groups.{Group, grouped, members}
use Rattle.dex_world.specs.Items.{rows_of_lane}
use Rattle.dex_types.specs.declared.movements.Movement.{Movement}
use Rattle.dex_history.specs.Journal.{Call, asked_of, asked_wallets, front, is_held, is_refused}
use Rattle.dex_script_types.specs.PlainScript.{PlainScript}
use Rattle.dex_script_types.specs.Sight.{IsSight}
use Rattle.dex_stamps.specs.Stamped.{Stamped}

-- a call moves each wallet that its row names, once, by rising address
abbrev pub MovesEach : Call → Type 0
MovesEach call = map (λ (move : Movement). move.wallet) (front call.entry.moves) ≡ asked_wallets call.asked

-- ---- calls of one number: those of an item

-- the number of a call's row
abbrev pub number_in : Stamped Call → ℕ
number_in call = call.item.asked.number

-- of two calls the later one has the higher stamp; but those of one number have one stamp
pub record IsBefore (one other : Stamped Call) : Type 0 where
  pub together : (number_in one == number_in other) ≡ true → one.stamp ≡ other.stamp
  pub later : (number_in one == number_in other) ≡ false → one.stamp < other.stamp

-- a call is held back exactly where it is not refused, and another of these is
abbrev pub IsAsOthers : List (Stamped Call) → Stamped Call → Type 0
IsAsOthers calls call = is_held call.item ≡ (list_any (λ (other : Stamped Call). is_refused other.item) calls && not (is_refused call.item))

-- of an item's calls none is refused and none held back, or each is the one or the other
abbrev pub AreAllOrNone : Group (Stamped Call) → Type 0
AreAllOrNone calls = All (IsAsOthers (members calls)) (members calls)

-- the calls that a lane of the script made so far: they ask for its first rows, one for each, in their order; each sees
-- what a row of the script may see and moves the wallets of its row; their stamps rise from item to item; and each item
-- did all or none
pub record IsLane (script : PlainScript) (lane : ℕ) (calls : List (Stamped Call)) : Type 0 where
  pub asks : map (λ (call : Stamped Call). call.item.asked) calls
      ≡ map asked_of (take (length calls) (rows_of_lane lane script.rows))
  pub sees : All (λ (call : Stamped Call). IsSight script call.item.seen) calls
  pub moves : All (λ (call : Stamped Call). MovesEach call.item) calls
  pub rising : AllPairs IsBefore calls
  pub items : All AreAllOrNone (grouped number_in calls)

-- a lane and all that it made
pub record Lane : Type 0 where
  pub number : ℕ
  pub calls : List (Stamped Call)

-- a lane whose rows are all done
pub record IsLaneDone (script : PlainScript) (lane : Lane) : Type 0 where
  pub calls : IsLane script lane.number lane.calls
  pub done : length lane.calls ≡ length (rows_of_lane lane.number script.rows)

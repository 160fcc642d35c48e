-- Passes by the gates that they are of: a column for each gate, with a pass of each lane; and what gates give for them.
use Rattle.std.specs.Prelude.{ℕ, ◌≡◌, ◌<◌, ◌≤◌, List, [], ◌∷◌, ◌++◌, All, Some, Vec, length, vec_capacity}
use Rattle.dex_gate.specs.declared.stage.Stage.TheVariants.{Idle}
use Rattle.dex_gate.specs.GateView.{GateView}
use Rattle.dex_gate.specs.History.{added, of_lane}
use Rattle.dex_gate.specs.PassView.{AreAll, PassView}

-- a list has one item more, and no less room
pub record IsLonger {T Z : Type 0} (before : Vec T Z) (item : T) (after : Vec T Z) : Type 0 where
  pub items : after.items ≡ before.items ++ item ∷ []
  pub reserved : vec_capacity before ≤ vec_capacity after

-- the first lists have one of these items more, each that at its place, and the others are as they were
abbrev pub AreLonger : {T Z : Type 0} → List (Vec T Z) → List T → List (Vec T Z) → Type 0
AreLonger before [] after = after ≡ before
AreLonger (old ∷ before) (item ∷ items) (new ∷ after) = IsLonger old item new × AreLonger before items after
AreLonger _ _ _ = ⊥

-- this many empty lists, each with room for this many items
pub record AreEmpty {T Z : Type 0} (count room : ℕ) (columns : List (Vec T Z)) : Type 0 where
  pub so_many : length columns ≡ count
  pub empty : All (λ (column : Vec T Z). column.items ≡ []) columns
  pub enough : All (λ (column : Vec T Z). room ≤ vec_capacity column) columns

module _ {E O : Type 0} where
  -- these are all passes of a gate, and none holds a ticket
  pub record CanClose (gate : GateView E O) (passes : List (PassView E O)) : Type 0 where
    pub of_gate : All (λ (pass : PassView E O). pass.gate ≡ Some gate) passes
    pub idle : All (λ (pass : PassView E O). pass.stage ≡ Idle) passes
    pub numbers : AreAll gate.passes passes

module _ {V E O : Type 0} (entries : V → List E) (lane : E → ℕ) (origin : V → O) where
  -- what a gate gives for all its passes: a value of its origin, whose list has beyond the gate's own for each pass
  -- just what that made, and nothing else
  pub record IsClosed (gate : GateView E O) (passes : List (PassView E O)) (value : V) : Type 0 where
    pub start : origin value ≡ gate.origin
    pub of_lanes : All (λ (entry : E). lane entry < gate.passes) (added gate.opening (entries value))
    pub each : All (λ (pass : PassView E O). of_lane lane pass.number (added gate.opening (entries value)) ≡ pass.mine)
        passes

-- an empty list with room for this many items
pub record IsRoom {T Z : Type 0} (count : ℕ) (items : Vec T Z) : Type 0 where
  pub empty : items.items ≡ []
  pub enough : count ≤ vec_capacity items

-- What contracts see of a turn.
use Rattle.std.specs.Prelude.{ℕ, List, Option}
use Rattle.dex_gate.specs.GateView.{GateView}

-- its gate, the number of the pass whose turn it is, the value's list at the start of the turn, and the value
pub record TurnView (V E O : Type 0) : Type 0 where
  pub gate : Option (GateView E O)
  pub number : ℕ
  pub start : List E
  pub value : V

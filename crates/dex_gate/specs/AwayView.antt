-- What contracts see of a turn whose value is out.
use Rattle.std.specs.Prelude.{ℕ, List, Option}
use Rattle.dex_gate.specs.GateView.{GateView}

-- its gate, the number of the pass whose turn it is, and the value's list at the start of the turn
pub record AwayView (E O : Type 0) : Type 0 where
  pub gate : Option (GateView E O)
  pub number : ℕ
  pub start : List E

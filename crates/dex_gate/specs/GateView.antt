-- What contracts see of a gate.
use Rattle.std.specs.Prelude.{ℕ, List}
use Rattle.atomic_table.specs.Seated.{TableId}

-- which gate it is, how many passes there may be, and the origin and the list of the value that it was opened with
pub record GateView (E O : Type 0) : Type 0 where
  pub table : TableId
  pub passes : ℕ
  pub origin : O
  pub opening : List E

-- What a write does to a sink with room.
use Rattle.std.specs.Prelude.{◌≡◌, ◌<◌, ◌-◌, ◌↔◌, ◌++◌, ℕ, List, length, take, min, Result, IsErr, IfOk, OnErr}
use Rattle.dex_io.specs.States.{SinkState}
use Rattle.dex_io.specs.Faults.{next_count}

-- A write takes what fits the room. It fails exactly where no room is left for a piece that is not empty, and counts
-- that.
pub record Writes {E : Type 0} (old : SinkState) (piece : List ℕ) (result : Result ℕ E) (new : SinkState) : Type 0 where
  pub refused : IsErr result ↔ ((0 < length piece) × (old.room ≡ 0))
  pub count : IfOk result (λ n. n ≡ min (length piece) old.room)
  pub ok : IfOk result (λ n. new ≡ record old { taken = old.taken ++ take n piece; room = old.room - n })
  pub err : OnErr result (new ≡ record old { faults = next_count old.faults })

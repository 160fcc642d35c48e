-- What a contract sees of the sources and sinks over memory.
use Rattle.std.specs.Prelude.{ℕ, List}

-- a sink with room: the bytes it took, how many more it takes, and how many of its writes failed
pub record SinkState : Type 0 where
  pub taken : List ℕ
  pub room : ℕ
  pub faults : ℕ

-- a sink with room, the number of its next call, and the numbers of the calls that fail
pub record ListedSinkState : Type 0 where
  pub sink : SinkState
  pub calls : ℕ
  pub fails : List ℕ

-- a source: the bytes still to come, how many of its reads failed, the number of its next call, and the numbers of
-- the calls that fail
pub record ListedSourceState : Type 0 where
  pub left : List ℕ
  pub faults : ℕ
  pub calls : ℕ
  pub fails : List ℕ

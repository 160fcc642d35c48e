-- What a session hears and says, in one order.
use Rattle.std.specs.Prelude.{ℕ, List, [], ◌∷◌, ◌++◌, Option, Some, None}

-- a call heard these bytes, or one said these
pub data Turn : Type 0 where
  Heard : (bytes : List ℕ) → Turn
  Said : (bytes : List ℕ) → Turn

-- one turn more behind those that are told
abbrev pub and_then : Option (List Turn) → Turn → Option (List Turn)
and_then None turn = None
and_then (Some turns) turn = Some (turns ++ turn ∷ [])

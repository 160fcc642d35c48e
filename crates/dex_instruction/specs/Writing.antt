-- Writing a text over bytes.
use Rattle.std.specs.Prelude.{ℕ, ◌+◌, List, ◌++◌, length, take, drop}

-- the bytes with a text written over them from a place on
unfoldable pub written : ℕ → List ℕ → List ℕ → List ℕ
written place text bytes = take place bytes ++ (text ++ drop (place + length text) bytes)

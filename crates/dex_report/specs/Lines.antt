-- Lines of a text.
use Rattle.std.specs.Prelude.{ℕ, zero, suc, List, [], ◌∷◌, ◌++◌}

-- a line and its line feed
abbrev pub line : List ℕ → List ℕ
line text = text ++ 10 ∷ []

-- the texts of the numbers below this one, in rising order
unfoldable pub numbered : (ℕ → List ℕ) → ℕ → List ℕ
numbered text zero = []
numbered text (suc n) = numbered text n ++ text n

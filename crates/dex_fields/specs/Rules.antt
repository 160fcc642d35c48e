-- Rules that are tried one after another, each of which tells a fault where it is broken.
use Rattle.std.specs.Prelude.{List, [], ◌∷◌, Option, None}
use Rattle.std.specs.Option.{option_or}

-- the first of some faults that is there
abbrev pub first_fault : {X : Type 0} → List (Option X) → Option X
first_fault [] = None
first_fault (fault ∷ faults) = option_or fault (first_fault faults)

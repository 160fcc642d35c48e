-- Lists in parts, by numbers that stand beside their elements.
use Rattle.std.specs.Prelude.{◌≡◌, ℕ, ◌<◌, ◌==◌, List, [], ◌∷◌, length, if◌then◌else◌, slice_index_or}

-- the elements beside which this number stands
abbrev pub part : {A : Type 0} → List ℕ → ℕ → List A → List A
part [] number xs = []
part (n ∷ numbers) number [] = []
part (n ∷ numbers) number (x ∷ xs) = if n == number then x ∷ part numbers number xs else part numbers number xs

-- the parts are those of a list
pub record AreParts (A : Type 0) (numbers : List ℕ) (whole : List A) (parts : List (List A)) : Type 0 where
  pub long : length whole ≡ length numbers
  pub each : (number : ℕ) (d : List A) → number < length parts → slice_index_or parts number d ≡ part numbers number whole

-- each part is as long as there are its number
abbrev pub AreAsLong : {A : Type 0} → List ℕ → List (List A) → Type 0
AreAsLong {A} numbers parts =
    (number : ℕ) (d : List A) → number < length parts → length (slice_index_or parts number d) ≡ length (part numbers number numbers)

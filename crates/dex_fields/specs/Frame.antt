-- The text at the front and at the end of every account of the program.
use Rattle.std.specs.Prelude.{◌≡◌, ℕ, suc, ◌-◌, List, [], ◌∷◌, length, Option, None, Some, if◌then◌else◌, ◌==◌}
use Rattle.std.specs.Option.{option_or}
use Rattle.dex_fields.specs.declared.field.Field.{Field}
use Rattle.dex_fields.specs.declared.frame.Difference.{Difference}
use Rattle.dex_fields.specs.declared.frame.TheConstants.{FRONT, FRONT_TEXT, END_TEXT}
use Rattle.dex_fields.specs.Bytes.{bytes_in}

-- the first place at which bytes that begin at `start` differ from a text
abbrev pub difference_from : ℕ → List ℕ → List ℕ → Option Difference
difference_from start [] text = None
difference_from start (b ∷ bytes) [] = None
difference_from start (b ∷ bytes) (t ∷ text) =
    if b == t then difference_from (suc start) bytes text else Some (record { place = start; found = b; wanted = t })

-- the last seven bytes
abbrev pub end_field : List ℕ → Field
end_field bytes = record { at = length bytes - 7; len = 7 }

-- the account begins with `serum` and ends with `padding`
pub record IsFramed (bytes : List ℕ) : Type 0 where
  pub front : bytes_in bytes FRONT ≡ FRONT_TEXT
  pub end : bytes_in bytes (end_field bytes) ≡ END_TEXT

-- the first place at which the account differs from `serum` at its front or `padding` at its end
unfoldable pub frame_difference : List ℕ → Option Difference
frame_difference bytes =
    option_or (difference_from 0 (bytes_in bytes FRONT) FRONT_TEXT) (difference_from (length bytes - 7) (bytes_in bytes (end_field bytes)) END_TEXT)

-- An account of the program with nothing in it.
use Rattle.std.specs.Prelude.{ℕ, ◌-◌, List, replicate}
use Rattle.dex_fields.specs.declared.empty.TheConstants.{FLAGS}
use Rattle.dex_fields.specs.declared.field.Field.{Field}
use Rattle.dex_fields.specs.declared.frame.TheConstants.{END_TEXT, FRONT, FRONT_TEXT}
use Rattle.dex_fields.specs.Bytes.{with_bytes, with_number}

-- the last seven of this many bytes
abbrev pub last_field : ℕ → Field
last_field size = record { at = size - 7; len = 7 }

-- this many zeros, with `serum` at the front, `padding` at the end, and the flags behind the front
unfoldable pub empty_account : ℕ → ℕ → List ℕ
empty_account size flags =
    with_number
    (with_bytes (with_bytes (replicate {A = ℕ} size 0) FRONT FRONT_TEXT) (last_field size) END_TEXT)
    FLAGS
    flags

-- Fields that are written one after another.
use Rattle.std.specs.Prelude.{ℕ, List, [], ◌∷◌}
use Rattle.dex_fields.specs.declared.field.Field.{Field}
use Rattle.dex_fields.specs.Bytes.{bytes_of_number, with_bytes}

-- what is written into a field
pub record Write : Type 0 where
  pub field : Field
  pub piece : List ℕ

-- a number into a field
abbrev pub number_write : Field → ℕ → Write
number_write field x = record { field = field; piece = bytes_of_number field.len x }

-- bytes into a field
abbrev pub bytes_write : Field → List ℕ → Write
bytes_write field piece = record { field = field; piece = piece }

-- the bytes after the writes, the first one first
abbrev pub wrote : List ℕ → List Write → List ℕ
wrote bytes [] = bytes
wrote bytes (w ∷ ws) = wrote (with_bytes bytes w.field w.piece) ws

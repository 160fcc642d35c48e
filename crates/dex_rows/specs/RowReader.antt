-- A reader of rows, by the rows that it still gives.
use Rattle.std.specs.Prelude.{ℕ, ◌+◌, ◌≡◌, Bool, true, false, List, [], length, Option, Some, None, IsSome}
use Rattle.std.specs.Borrow.{Bor}
use Rattle.csv.specs.Machine.{ends_at_end}
use Rattle.csv.specs.Reading.{Ready, default_config, reader_config, reader_state, reader_trim, records_from, source_of}
use Rattle.csv.specs.declared.parser.State.{State}
use Rattle.csv.specs.declared.reader.Reader.{Reader}
use Rattle.csv.specs.declared.reader.Trim.TheVariants as trim

-- the bytes that a reader of a text has still to read
abbrev pub text_left : Reader (Bor (List ℕ)) → Option (List ℕ)
text_left reader = source_of (λ (text : Bor (List ℕ)). Some text.now) reader

-- the rows of such bytes, from where a reader stands
unfoldable pub rows_from : State → Option (List ℕ) → List (List (List ℕ))
rows_from state None = []
rows_from state (Some text) = records_from default_config (length text + 1) state text

-- the rows that a reader still gives
abbrev pub rows_left : Reader (Bor (List ℕ)) → List (List (List ℕ))
rows_left reader = rows_from (reader_state reader) (text_left reader)

-- the rows that a reader still gives, or none where it is over
abbrev pub rows_unless : Bool → Reader (Bor (List ℕ)) → List (List (List ℕ))
rows_unless true reader = []
rows_unless false reader = rows_left reader

-- a reader that gives each row, of any length, and stands between two rows
pub record GivesRows (reader : Reader (Bor (List ℕ))) : Type 0 where
  pub config : reader_config reader ≡ default_config
  pub trim : reader_trim reader ≡ trim.None
  pub ready : Ready reader
  pub between : ends_at_end (reader_state reader) ≡ false
  pub told : IsSome (text_left reader)

-- Rows as they are written are read back.
use Rattle.std.proofs.Common.{◌≡◌, ◌∷◌, ◌==◌, [], ℕ, List, false, get_or, map, refl}
use Rattle.csv.specs.Machine.{next_record}
use Rattle.csv.specs.Reading.{Reached, default_config, strip_bom}
use Rattle.csv.specs.Writing.{read_back}
use Rattle.csv.specs.declared.parser.State.TheVariants as st
use Rattle.csv.proofs.RoundTrip.{read-write, rows_text}
use Rattle.dex_rows.specs.Records.{rows_of}
use Rattle.dex_rows.proofs.RecordLemmas.{are_records}

-- a text that does not begin with the byte 239 has no byte-order mark
pub strip_bom-none : (text : List ℕ) → (get_or text 0 0 == 239) ≡ false → strip_bom text ≡ text
unfolding strip_bom
strip_bom-none [] h = refl
strip_bom-none (a ∷ []) h = refl
strip_bom-none (a ∷ b ∷ []) h = refl
strip_bom-none (a ∷ b ∷ c ∷ rest) h = rw h refl

-- written rows are reached one after the other
reached_written : (rows : List (List (List ℕ))) → Reached default_config st.StartRecord (rows_text rows) (map read_back rows) st.StartRecord []
unfolding Reached rows_text
reached_written [] = (refl, refl)
reached_written (row ∷ rows) = ((read_back row, st.StartRecord, rows_text rows), read-write row (rows_text rows), refl, reached_written rows)

-- the rows of a text that a writer with the usual settings wrote are those that it was given
pub rows_of-written : (rows : List (List (List ℕ))) → strip_bom (rows_text rows) ≡ rows_text rows → map read_back rows ≡ rows_of (rows_text rows)
unfolding next_record
rows_of-written rows plain = are_records (rows_text rows) (map read_back rows) (rw plain (st.StartRecord, [], reached_written rows, refl))

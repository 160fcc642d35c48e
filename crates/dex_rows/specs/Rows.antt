-- The fields of a row, and the rows of a text, by where they stand.
use Rattle.std.specs.Prelude.{ℕ, ⊤, List, Option, None, Some}
use Rattle.csv.specs.Records.{fields_of}
use Rattle.csv.specs.declared.record.ByteRecord.{ByteRecord}
use Rattle.dex_rows.specs.Records.{rows_of}
use Rattle.dex_rows.specs.Lines.{HasNoQuote, cells_of, rows_in}
use Rattle.dex_rows.specs.declared.lines.Line.{Line}
use Rattle.dex_rows.specs.declared.records.Source.{Source}
use Rattle.dex_rows.specs.declared.records.Source.TheVariants as source

-- the fields of a row
abbrev pub fields_in : Line → Option ByteRecord → List (List ℕ)
fields_in line None = cells_of line.bytes.now
fields_in line (Some quoted) = fields_of quoted

-- the rows of what is left of a text
abbrev pub rows_behind : Source → List (List (List ℕ))
rows_behind (source.Plain rest) = rows_in rest.now
rows_behind (source.Unread alloc text) = rows_of text.now
rows_behind (source.Quoted rows) = rows.value

-- what is cut where it stands has no quote
abbrev pub IsSource : Source → Type 0
IsSource (source.Plain rest) = HasNoQuote rest.now
IsSource (source.Unread alloc text) = ⊤
IsSource (source.Quoted rows) = ⊤

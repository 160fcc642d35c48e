-- The calls of a cell's fields and its journal, with one more.
use Rattle.std.proofs.Common.{◌≡◌, List, [], ◌∷◌, ◌++◌, map, refl, sym, ap, ◌∙◌}
use Rattle.std.proofs.lemmas.List.{map-append}
use Rattle.dex_types.specs.declared.movements.Entry.{Entry}
use Rattle.dex_types.specs.declared.replies.Reply.{Reply}
use Rattle.dex_types.specs.declared.rows.Row.{Row}
use Rattle.dex_types.specs.declared.rows.Seen.{Seen}
use Rattle.dex_types.specs.Rows.{row_of}
use Rattle.dex_types.specs.Transfers.{Transfers}
use Rattle.dex_history.specs.Journal.{Call, asked_of}
use Rattle.dex_movements.specs.Entries.{entry_by}
use Rattle.dex_cell.specs.declared.call_record.CallRecord.{CallRecord}
use Rattle.dex_cell.specs.CellInside.{call_of}

-- what is written down of a row, and what its reply and its transfers are
module _ (row : Row) (seen : Seen) (reply reply_is : Reply) (moved moved_is : Transfers) (replies : reply ≡ reply_is) (moves : moved ≡ moved_is) where
  abbrev written : Entry
  written = entry_by (row_of row) seen reply moved

  abbrev call : Call
  call = record { asked = asked_of (row_of row); seen = seen; entry = entry_by (row_of row) seen reply_is moved_is }

  entry-is : written ≡ call.entry
  entry-is = rw (replies, moves) refl

  -- its call stands after the others
  pub calls-grow : (told more : List (Row × CallRecord)) → more ≡ told ++ (row, record { seen = seen; entry = written }) ∷ []
      → map call_of more ≡ map call_of told ++ call ∷ []
  calls-grow told more grown =
      ap (map call_of) grown ∙ map-append call_of told ((row, record { seen = seen; entry = written }) ∷ [])
      ∙ ap (λ (e : Entry). map call_of told ++ call_of (row, record { seen = seen; entry = e }) ∷ []) entry-is

  -- and its entry after theirs
  pub entries-grow : (entries more : List Entry) (calls : List Call) → entries ≡ map (λ (call : Call). call.entry) calls
      → more ≡ entries ++ written ∷ [] → more ≡ map (λ (call : Call). call.entry) (calls ++ call ∷ [])
  entries-grow entries more calls are grown =
      grown ∙ ap (λ (e : Entry). entries ++ e ∷ []) entry-is ∙ ap (λ (es : List Entry). es ++ call.entry ∷ []) are
      ∙ sym (map-append (λ (call : Call). call.entry) calls (call ∷ []))

-- How reading goes on from one row to the next, and how it ends.
use Rattle.std.proofs.Common.{◌≡◌, ◌∷◌, ℕ, List, true, Some, Err, refl, sym, inl, subst}
use Rattle.dex_types.specs.declared.limits.Limits.{Limits}
use Rattle.dex_dump.specs.declared.faults.DumpError.{DumpError}
use Rattle.dex_dump.specs.declared.faults.DumpError.TheVariants as dump
use Rattle.dex_dump.specs.Answers.{Answers, PlainAnswer, stated}
use Rattle.dex_dump_rows.specs.Lines.{Fields, PlainLine, line_of}
use Rattle.dex_dump.specs.Reading.{PlainReading, is_allowed, start}
use Rattle.dex_dump.specs.Telling.{TellsAccounts, TellsRow}

-- a row of a form that may stand here
pub stated-allowed : (reading : PlainReading) (row : Fields) (line : PlainLine) → line_of row ≡ Some line → is_allowed reading line ≡ true
    → stated reading row ≡ Some line
stated-allowed reading row line states allowed = rw (states, allowed) refl

-- reading stops at a row that is not added
pub stops : (limits : Limits) (error : DumpError) (number : ℕ) (reading next : PlainReading) (row : Fields) (all rows left behind : List Fields)
    → TellsRow (Err error) number reading next row → rows ≡ row ∷ behind
    → ((answer : PlainAnswer) → Answers number reading rows answer → Answers 2 (start limits) all answer)
    → TellsAccounts limits (Err error) all left
stops limits (dump.Refused fault) number reading next row all rows left behind told split goes =
    goes (Err fault) (subst (λ (rows : List Fields). Answers number reading rows (Err fault)) (sym split) (inl (told behind)))
stops limits dump.NoMemory number reading next row all rows left behind told split goes = tt

-- What is read is read in one way: rows that give accounts give no others, and no fault.
use Rattle.std.proofs.Common.{◌≡◌, ◌∷◌, [], ℕ, List, Some, Result, Ok, Err, sym, ap, subst, inl, inr, ◌∙◌}
use Rattle.std.proofs.lemmas.Bool.{false≢true}
use Rattle.std.proofs.lemmas.Option.{none-some, same_Some}
use Rattle.dex_types.specs.declared.addresses.Address.{Address}
use Rattle.dex_types.specs.declared.faults.AccountFault.{AccountFault}
use Rattle.dex_types.specs.Accounts.{PlainAccounts}
use Rattle.dex_dump.specs.declared.faults.DumpFault.{DumpFault}
use Rattle.dex_rows.specs.Records.{rows_of}
use Rattle.dex_types.specs.declared.limits.Limits.{Limits}
use Rattle.dex_dump.specs.Answers.{Adds, Answers, AnswersDump, AnswersText, Ends, PlainAnswer, PlainDump, next_number, stated, with_end}
use Rattle.dex_dump.specs.Answers.Ends.{AtEnd, AtRow, AtAccount}
use Rattle.dex_dump.specs.Checks.{AccountCheck, AllHold, Check, Fails, FirstFails, Holds, checks}
use Rattle.dex_dump.specs.Checks.Check.{Rules, Slab}
use Rattle.dex_dump_rows.specs.Lines.{Fields, PlainLine}
use Rattle.dex_dump_rows.specs.Lines.PlainLine.{End}
use Rattle.dex_dump.specs.Reading.{PlainReading, after_line, start}

-- ---- checks that all hold have no first that fails

holds-fails : (check : Check) (fault : AccountFault) → Holds check → Fails check fault → ⊥
holds-fails (Rules found) fault holds fails = none-some fault (sym holds ∙ fails)
holds-fails (Slab bytes) fault holds fails = fails.0 holds

none-fails : (checks : List AccountCheck) (account : Address) (fault : AccountFault) → AllHold checks → FirstFails checks account fault → ⊥
none-fails [] account fault hold fails = fails
none-fails (first ∷ others) account fault hold (inl here) = holds-fails first.check fault hold.0 here.1
none-fails (first ∷ others) account fault hold (inr later) = none-fails others account fault hold.1 later.1

end-fails : (reading : PlainReading) (line : PlainLine) (account : Address) (fault : AccountFault) → line ≡ End
    → FirstFails (checks reading line) account fault → ⊥
unfolding checks
end-fails reading line account fault is fails = subst (λ (l : PlainLine). FirstFails (checks reading l) account fault) is fails

-- ---- one row

-- two lines of one row
lines-same : (reading : PlainReading) (row : Fields) (line other : PlainLine) → stated reading row ≡ Some line → stated reading row ≡ Some other → line ≡ other
lines-same reading row line other h k = same_Some line other (sym h ∙ k)

module _ (number : ℕ) (reading : PlainReading) (row : Fields) (rows : List Fields) where
  -- a row that ends a dump
  ends-once : (dump : PlainDump) (answer : PlainAnswer) → Ends number reading row rows (Ok dump) → Ends number reading row rows answer → answer ≡ Ok dump
  ends-once dump answer (AtEnd states is) (AtEnd states_too is_too) = is_too ∙ sym is
  ends-once dump answer (AtEnd states is) (AtRow none is_too) = absurd (none-some End (sym none ∙ states))
  ends-once dump answer (AtEnd states is) (AtAccount line states_too account fault fails is_too) =
      absurd (end-fails reading line account fault (lines-same reading row line End states_too states) fails)
  ends-once dump answer (AtRow none is) other = absurd cc
  ends-once dump answer (AtAccount line states account fault fails is) other = absurd cc

  ends-adds : (dump : PlainDump) (next : PlainReading) → Ends number reading row rows (Ok dump) → Adds reading row next → ⊥
  ends-adds dump next (AtEnd states is) adds = adds.goes_on (lines-same reading row adds.line End adds.states states)
  ends-adds dump next (AtRow none is) adds = absurd cc
  ends-adds dump next (AtAccount line states account fault fails is) adds = absurd cc

  adds-ends : (next : PlainReading) (answer : PlainAnswer) → Adds reading row next → Ends number reading row rows answer → ⊥
  adds-ends next answer adds (AtEnd states is) = adds.goes_on (lines-same reading row adds.line End adds.states states)
  adds-ends next answer adds (AtRow none is) = none-some adds.line (sym none ∙ adds.states)
  adds-ends next answer adds (AtAccount line states account fault fails is) =
      none-fails (checks reading line) account fault
      (subst (λ (l : PlainLine). AllHold (checks reading l)) (lines-same reading row adds.line line adds.states states) adds.hold) fails

  adds-once : (next other : PlainReading) → Adds reading row next → Adds reading row other → other ≡ next
  adds-once next other adds too =
      too.adds ∙ subst (λ (l : PlainLine). after_line reading l ≡ next) (lines-same reading row adds.line too.line adds.states too.states) (sym adds.adds)

-- ---- all rows

rows-once : (number : ℕ) (reading : PlainReading) (rows : List Fields) (dump : PlainDump) (answer : PlainAnswer)
    → Answers number reading rows (Ok dump) → Answers number reading rows answer → answer ≡ Ok dump
rows-once number reading [] dump answer h k = absurd cc
rows-once number reading (row ∷ rows) dump answer (inl ends) (inl ends_too) = ends-once number reading row rows dump answer ends ends_too
rows-once number reading (row ∷ rows) dump answer (inl ends) (inr more) = absurd (ends-adds number reading row rows dump more.0 ends more.1)
rows-once number reading (row ∷ rows) dump answer (inr more) (inl ends) = absurd (adds-ends number reading row rows more.0 answer more.1 ends)
rows-once number reading (row ∷ rows) dump answer (inr more) (inr too) =
    rows-once (next_number number) more.0 rows dump answer more.2
    (subst (λ (r : PlainReading). Answers (next_number number) r rows answer) (adds-once number reading row rows more.0 too.0 more.1 too.1) too.2)

pub dump-once : (limits : Limits) (rows : List Fields) (dump : PlainDump) (answer : PlainAnswer) → AnswersDump limits rows (Ok dump) → AnswersDump limits rows answer → answer ≡ Ok dump
dump-once limits [] dump answer h k = absurd cc
dump-once limits (row ∷ rows) dump answer (inl first) (inl first_too) = rows-once 2 (start limits) rows dump answer first.1 first_too.1
dump-once limits (row ∷ rows) dump answer (inl first) (inr other) = absurd (false≢true (sym other.0 ∙ first.0))
dump-once limits (row ∷ rows) dump answer (inr other) k = absurd (let no = other.1 in cc)

-- a text that is read as accounts is read as nothing else
pub text-once : (limits : Limits) (text : List ℕ) (accounts : PlainAccounts) (answer : Result PlainAccounts DumpFault) → AnswersText limits text (Ok accounts) → AnswersText limits text answer
    → answer ≡ Ok accounts
text-once limits text accounts answer h k = from h.0 h.1 h.2
  where
    from : (first : PlainAnswer) → AnswersDump limits (rows_of text) first → Ok accounts ≡ with_end first → answer ≡ Ok accounts
    from (Err fault) of is = absurd cc
    from (Ok dump) of is =
        let same : k.0 ≡ Ok dump = dump-once limits (rows_of text) dump k.0 of k.1 in
        k.2 ∙ ap with_end same ∙ sym is

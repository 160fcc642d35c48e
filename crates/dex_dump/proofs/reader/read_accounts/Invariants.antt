use Rattle.std.proofs.Common.{length}
use Rattle.dex_dump.specs.Answers.{Answers, PlainAnswer}
use Rattle.dex_dump.specs.Reading.{start}
use Rattle.dex_dump.specs.Telling.{plain_reading}
use Rattle.dex_dump.proofs.reader.read_accounts.Given as goal

abbrev pub invariant-rows : goal.invariant-rows
invariant-rows l = (answer : PlainAnswer) → Answers l.number (plain_reading l.reading) l.rows answer → Answers 2 (start l.fn.limits) l.fn.rows answer

abbrev pub decreases-rows : goal.decreases-rows
decreases-rows l = length l.rows

use Rattle.std.proofs.Common.{◌≡◌, map, take}
use Rattle.dex_state.specs.Outcomes.{market_journal_of}
use Rattle.dex_report.specs.Bulk.{counts_with}
use Rattle.dex_report.proofs.bulk.Counts.take.Given as goal

abbrev pub invariant-loop-journal : goal.invariant-loop-journal
invariant-loop-journal l = l.self ≡ counts_with l.initial.self (map market_journal_of (take l.journal-index l.journals))

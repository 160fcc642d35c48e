use Rattle.std.proofs.Common.{All, ◌≡◌, ◌++◌}
use Rattle.std.specs.List.{flat_map}
use Rattle.dex_dump.specs.Pieces.{text_in}
use Rattle.dex_report.specs.Growing.{IsCounted, journal_text}
use Rattle.dex_report.proofs.growing.add_journals.Given as goal

abbrev pub invariant-loop-journal : goal.invariant-loop-journal
invariant-loop-journal l = record {
  text : text_in l.text ≡ text_in l.initial.text ++ flat_map (journal_text l.word) l.yielded;
  counted : All IsCounted l.yielded;
}

use Rattle.std.proofs.Common.{All, ◌≡◌, ◌++◌, take}
use Rattle.std.specs.List.{flat_map}
use Rattle.dex_dump.specs.Pieces.{text_in}
use Rattle.dex_report.proofs.growing.add_lines.Given as goal

abbrev pub invariant-entries : goal.invariant-entries
invariant-entries g l = record {
  text : text_in l.text ≡ text_in l.initial.text ++ flat_map g.T.Told.lines (take l.entry-index l.entries);
  fits : All g.T.Told.fits (take l.entry-index l.entries);
}

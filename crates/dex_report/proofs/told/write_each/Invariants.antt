use Rattle.std.proofs.Common.{All, ◌≡◌, ◌++◌, take}
use Rattle.std.specs.List.{flat_map}
use Rattle.dex_report.proofs.told.write_each.Given as goal

abbrev pub invariant-told : goal.invariant-told
invariant-told g l = record {
  text : l.text.items ≡ l.initial.text.items ++ flat_map g.T.Told.lines (take l.one-index l.told);
  fits : All g.T.Told.fits (take l.one-index l.told);
}

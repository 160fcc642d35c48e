use Rattle.std.proofs.Common.{All, ◌≡◌, ◌++◌}
use Rattle.std.specs.List.{flat_map}
use Rattle.dex_report.proofs.told.take_each.Given as goal

abbrev pub invariant-told : goal.invariant-told
invariant-told g l = record {
  text : l.text.items ≡ l.initial.text.items ++ flat_map g.T.Told.lines l.yielded;
  fits : All g.T.Told.fits l.yielded;
}

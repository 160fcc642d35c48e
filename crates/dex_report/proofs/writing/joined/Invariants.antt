use Rattle.std.proofs.Common.{◌≡◌}
use Rattle.std.specs.List.{flat_map}
use Rattle.dex_report.specs.Parts.{whole}
use Rattle.dex_report.proofs.writing.joined.Given as goal

abbrev pub invariant-loop-text : goal.invariant-loop-text
invariant-loop-text l = whole l.pieces.items ≡ flat_map (λ text. whole text.items) l.yielded

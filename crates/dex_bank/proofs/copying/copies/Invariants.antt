use Rattle.std.proofs.Common.{◌≡◌, map, take}
use Rattle.dex_bank.proofs.copying.copies.Given as goal

abbrev pub invariant-loop-item : goal.invariant-loop-item
invariant-loop-item g l = map g.T.Copied.held l.copies.items ≡ map g.T.Copied.held (take l.item-index l.items)

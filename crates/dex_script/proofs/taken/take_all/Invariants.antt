use Rattle.std.proofs.Common.{◌≡◌, ◌++◌, take}
use Rattle.dex_script.proofs.taken.take_all.Given as goal

abbrev pub invariant-addresses : goal.invariant-addresses
invariant-addresses l = l.taken ≡ l.initial.taken ++ take l.address-index l.new

use Rattle.std.proofs.Common.{◌≡◌}
use Rattle.dex_script.proofs.markets.make_markets.Given as goal

abbrev pub invariant-loop-market : goal.invariant-loop-market
invariant-loop-market l = l.made.items ≡ l.yielded

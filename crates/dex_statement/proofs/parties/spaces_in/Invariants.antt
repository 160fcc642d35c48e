use Rattle.std.proofs.Common.{◌≤◌}
use Rattle.dex_statement.proofs.parties.spaces_in.Given as goal

abbrev pub invariant-bytes : goal.invariant-bytes
invariant-bytes l = l.count ≤ l.place

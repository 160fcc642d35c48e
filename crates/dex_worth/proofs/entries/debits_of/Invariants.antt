use Rattle.std.proofs.Common.{◌≡◌, ◌+◌, ◌*◌, ◌^◌, ◌≤◌, drop}
use Rattle.dex_types.specs.Totals.{total}
use Rattle.dex_history.specs.Journal.{front}
use Rattle.dex_history.specs.Mints.{debited}
use Rattle.dex_worth.proofs.entries.debits_of.Given as goal

abbrev pub invariant-loop-place : goal.invariant-loop-place
invariant-loop-place l = record {
  rest : l.sum + total debited (front (drop l.place l.moves)) ≡ total debited (front l.moves);
  small : l.sum ≤ l.place * 2 ^ 64;
}

use Rattle.std.proofs.Common.{◌≡◌, length, pos}
use Rattle.dex_rows.specs.Records.{rows_of}
use Rattle.dex_script.specs.Pieces.{number_after}
use Rattle.dex_desk.specs.SetUps.{clock_after}
use Rattle.dex_desk.proofs.set_up.behind.Given as goal

abbrev pub invariant-rows : goal.invariant-rows
invariant-rows l = record {
  number : number_after l.number l.rows ≡ number_after 1 (rows_of l.text);
  clock : clock_after l.clock l.rows ≡ clock_after (pos 0) (rows_of l.text);
}

abbrev pub decreases-rows : goal.decreases-rows
decreases-rows l = length l.rows

use Rattle.std.proofs.Common.{◌≡◌, drop, map}
use Rattle.dex_types.specs.Rows.{PlainRow, row_of}
use Rattle.dex_script_types.specs.Firsts.{first_of}
use Rattle.dex_replay.specs.EntryCalls.{is_row_on}
use Rattle.dex_worth.proofs.rows.find_row.Given as goal

abbrev pub invariant-loop-place : goal.invariant-loop-place
invariant-loop-place l =
    first_of (is_row_on l.market l.number) (λ (row : PlainRow). row) (map row_of l.rows)
    ≡ first_of (is_row_on l.market l.number) (λ (row : PlainRow). row) (drop l.place (map row_of l.rows))

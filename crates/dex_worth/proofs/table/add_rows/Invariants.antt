use Rattle.std.proofs.Common.{◌≡◌, ◌++◌, List, map, take}
use Rattle.dex_types.specs.declared.addresses.Address.{Address}
use Rattle.dex_history.specs.Journal.{Call}
use Rattle.dex_worth.specs.declared.amounts.TokenAmounts.{TokenAmounts}
use Rattle.dex_worth.specs.Amounts.{AreSums}
use Rattle.dex_worth.specs.Entries.{all_in, all_out, moved_told}
use Rattle.dex_worth.specs.Rows.{plain_row, row_by}
use Rattle.dex_worth.proofs.table.add_rows.Given as goal

abbrev pub invariant-loop-place : goal.invariant-loop-place
invariant-loop-place l = (amounts : Address → TokenAmounts) (owners : List Address) (calls : List Call) → AreSums amounts owners l.held
    → l.accounts ≡ map (moved_told calls) owners
    → map plain_row l.table.items ≡ map plain_row l.initial.table.items ++ map (row_by l.market amounts (all_in calls) (all_out calls)) (take l.place owners)

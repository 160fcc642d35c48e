use Rattle.std.proofs.Common.{◌≡◌, ◌++◌, Some, List, map, take}
use Rattle.dex_types.specs.declared.addresses.Address.{Address}
use Rattle.dex_types.specs.Rows.{row_of}
use Rattle.dex_history.specs.Journal.{Call}
use Rattle.dex_replay.specs.EntryCalls.{calls_told}
use Rattle.dex_script_types.specs.PlainScript.{PlainScript}
use Rattle.dex_worth.specs.Entries.{moved_told}
use Rattle.dex_worth.proofs.ledger.add_entries.Given as goal

abbrev pub invariant-loop-place : goal.invariant-loop-place
invariant-loop-place l = (script : PlainScript) (owners : List Address) (calls more : List Call) → map row_of l.rows ≡ script.rows
    → calls_told script l.market l.entries ≡ Some more → l.initial.accounts ≡ map (moved_told calls) owners
    → l.accounts ≡ map (moved_told (calls ++ take l.place more)) owners

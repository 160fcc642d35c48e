use Rattle.std.proofs.Common.{◌≡◌, map, take}
use Rattle.dex_types.specs.Accounts.{market_accounts_of}
use Rattle.dex_state.specs.Outcomes.{PlainOutcome}
use Rattle.dex_script_types.specs.PlainScript.{PlainScript}
use Rattle.dex_replay.specs.Lawful.{IsLawful}
use Rattle.dex_replay.specs.WorthTold.{tables_told}
use Rattle.dex_worth.specs.Ledgers.{AreLedgersOf}
use Rattle.dex_worth.specs.Rows.{plain_row}
use Rattle.dex_worth.proofs.table.table_of.Given as goal

abbrev pub invariant-loop-place : goal.invariant-loop-place
invariant-loop-place l = (script : PlainScript) (outcome : PlainOutcome) → IsLawful script outcome → map market_accounts_of l.lasts ≡ outcome.accounts.markets
    → AreLedgersOf script l.ledgers outcome → map plain_row l.table.items ≡ tables_told script (take l.place outcome.accounts.markets) (take l.place outcome.markets)

use Rattle.std.proofs.Common.{ℕ, ◌≡◌, ◌<◌, ◌≤◌, get_or, length, map}
use Rattle.dex_types.specs.Rows.{row_of}
use Rattle.dex_script_types.specs.PlainScript.{PlainScript}
use Rattle.dex_state.specs.Outcomes.{PlainMarketJournal, market_journal_of}
use Rattle.dex_worth.specs.declared.ledger.Ledger.{Ledger}
use Rattle.dex_worth.specs.Ledgers.{IsTaken}
use Rattle.dex_worth.proofs.ledger.take_journals.Given as goal

abbrev pub invariant-loop-place : goal.invariant-loop-place
invariant-loop-place l = record {
  long : length l.ledgers ≡ length l.initial.ledgers;
  taken : (script : PlainScript) → map row_of l.rows ≡ script.rows → (k : ℕ) (ledger : Ledger) (journal : PlainMarketJournal) → k < l.place
      → IsTaken script (get_or l.initial.ledgers k ledger) (get_or (map market_journal_of l.journals) k journal) (get_or l.ledgers k ledger);
  rest : (k : ℕ) (ledger : Ledger) → l.place ≤ k → get_or l.ledgers k ledger ≡ get_or l.initial.ledgers k ledger;
}

use Rattle.std.proofs.Common.{◌≡◌, ◌++◌, map, take}
use Rattle.dex_types.specs.Rows.{row_of}
use Rattle.dex_state.specs.Outcomes.{market_journal_of}
use Rattle.dex_desk.specs.Replies.{answers_to}
use Rattle.dex_desk.proofs.acting.write_answers.Given as goal

abbrev pub invariant-loop-row : goal.invariant-loop-row
invariant-loop-row l = l.text.items ≡ l.initial.text.items ++ answers_to (map market_journal_of l.journals) (map row_of (take l.row-index l.rows))

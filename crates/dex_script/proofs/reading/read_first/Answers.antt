use Rattle.std.proofs.Common.{[], ◌∷◌, Result, ap, rules}
use Rattle.dex_dump.specs.Answers.{next_number}
use Rattle.dex_statement.specs.Faults.{◌>>=◌}
use Rattle.dex_script.specs.Drafts.{PlainDraft}
use Rattle.dex_script.specs.Scripts.{Refusal, draft_after}
use Rattle.dex_script.proofs.BegunLaws.{partway-on}
use Rattle.dex_script.proofs.reading.read_first.Goals as goal

pub rows-preserved : goal.rows-preserved
rows-preserved c = record {
  partway =
      partway-on c.args.reader c.args.number c.args.rows c.rows.reader c.rows.number c.rows.rows (c.next_row.new.row ∷ []) c.next_row.new.self
      c.add_row.new.reader c.next_number-number.result c.rows.invariant.partway (c.in_ok-next_row.ensures.next c.if-not-branch.false)
      (ap (λ (r : Result PlainDraft Refusal). r >>= λ d. draft_after d (next_number c.rows.number) []) c.in_ok-add_row.ensures)
      c.next_number-number.ensures;
  same = search rules;
}

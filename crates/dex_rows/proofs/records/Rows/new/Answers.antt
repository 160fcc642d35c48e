use Rattle.std.proofs.Common.{refl}
use Rattle.dex_rows.proofs.PlainLaws.{no_quote, plain_rows, unmarked}
use Rattle.dex_rows.proofs.records.Rows.new.Goals.{in-None, in-Some}
use Rattle.dex_rows.proofs.records.Rows.new.Goals as goal

pub invariant_of-result : goal.invariant_of-result
invariant_of-result c =
    elim c.match-memchr.branch [
      | in-None w ↦ rw (w.source-is, w.without_mark.ensures) (unmarked c.args.text.now (no_quote c.args.text.now (w.in-None.ensures {u = tt})))
      | in-Some w ↦ rw w.source-is tt
    ]

pub returns : goal.returns
returns c =
    elim c.match-memchr.branch [
      | in-None w ↦ rw w.source-is (plain_rows c.args.text.now w.without_mark.result.now w.without_mark.ensures)
      | in-Some w ↦ rw w.source-is refl
    ]

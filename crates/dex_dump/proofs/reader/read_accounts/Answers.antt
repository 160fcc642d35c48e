use Rattle.dex_dump.proofs.AnswerLaws.{stops}
use Rattle.dex_dump.proofs.reader.read_accounts.Goals as goal

pub returns-in-Err : goal.returns-in-Err
returns-in-Err c =
    stops c.args.limits.now c.in-Err.error c.rows.number _ _ _ c.args.rows.now c.rows.rows c.next_row.new.self c.next_row.new.self
    c.in-Err.ensures (c.in_ok-next_row.ensures.next c.if-branch.true) c.rows.invariant

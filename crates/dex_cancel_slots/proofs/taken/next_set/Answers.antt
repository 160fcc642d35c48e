use Rattle.std.proofs.Common.{arith}
use Rattle.dex_cancel_slots.proofs.TakenLaws.{all-clear, next-clear, next-set, next-within}
use Rattle.dex_cancel_slots.proofs.taken.next_set.Goals as goal

pub returns-then-rest-eq0-clause-clear : goal.returns-then-rest-eq0-clause-clear
returns-then-rest-eq0-clause-clear c = all-clear c.args.bits (omega arith) c.args.from (omega (arith, c.if-rest-eq0.true)) 128

pub returns-clause-within : goal.returns-clause-within
returns-clause-within c =
    let next = next-within c.args.bits (omega arith) c.args.from (omega (arith, c.if-rest-eq0.false)) in
    omega (arith, next)

pub returns-clause-clear : goal.returns-clause-clear
returns-clause-clear c = next-clear c.args.bits (omega arith) c.args.from (omega (arith, c.if-rest-eq0.false))

pub returns-clause-set : goal.returns-clause-set
returns-clause-set c = λ within. next-set c.args.bits (omega arith) c.args.from (omega (arith, c.if-rest-eq0.false))

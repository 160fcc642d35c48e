use Rattle.std.proofs.Common.{arith}
use Rattle.std.proofs.lemmas.Bool.Decides.{nat_tests}
use Rattle.std.proofs.lemmas.List.{take_all}
use Rattle.dex_rows.proofs.NumberLemmas.{digits_more, not_digits}
use Rattle.dex_rows.proofs.numbers.digits_value.Goals as goal

pub returns-then-digit-gt9 : goal.returns-then-digit-gt9
returns-then-digit-gt9 c = not_digits c.args.digits.now c.digits.place c.digits-test.true (grind (arith, nat_tests))

pub overflow_mul-value : goal.overflow_mul-value
overflow_mul-value c =
    let fits = c.type_inv.digits c.digits.place in
    let more = digits_more c.args.digits.now c.digits.place c.digits-test.true c.requires c.digits.invariant.0 (omega arith) (omega arith) in
    omega (arith, c.digits.invariant.1, more.value, more.fits)

pub overflow_add-value : goal.overflow_add-value
overflow_add-value c =
    let fits = c.type_inv.digits c.digits.place in
    let more = digits_more c.args.digits.now c.digits.place c.digits-test.true c.requires c.digits.invariant.0 (omega arith) (omega arith) in
    omega (arith, c.digits.invariant.1, more.value, more.fits)

pub digits-preserved : goal.digits-preserved
digits-preserved c =
    let fits = c.type_inv.digits c.digits.place in
    let more = digits_more c.args.digits.now c.digits.place c.digits-test.true c.requires c.digits.invariant.0 (omega arith) (omega arith) in
    (more.all, omega (arith, c.digits.invariant.1, more.value))

pub returns : goal.returns
returns c = rw (take_all c.digits.place c.args.digits.now c.digits-test.false) at c.digits.invariant

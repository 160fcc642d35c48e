use Rattle.dex_rows.proofs.NumberLemmas.{below-kept, below-none, below-over}
use Rattle.dex_rows.proofs.numbers.number_below.Goals as goal

pub returns-in-None-clause-number : goal.returns-in-None-clause-number
returns-in-None-clause-number c = below-none c.args.limit c.args.text.now c.u64_word.result c.requires c.in-None.is c.u64_word.ensures

pub returns-then-number-limit-clause-number : goal.returns-then-number-limit-clause-number
returns-then-number-limit-clause-number c =
    below-kept c.args.limit c.args.text.now c.u64_word.result c.in-Some.number c.requires c.in-Some.is c.u64_word.ensures c.if-number-limit.true

pub returns-else-number-limit-clause-number : goal.returns-else-number-limit-clause-number
returns-else-number-limit-clause-number c =
    below-over c.args.limit c.args.text.now c.u64_word.result c.in-Some.number c.requires c.in-Some.is c.u64_word.ensures c.if-number-limit.false

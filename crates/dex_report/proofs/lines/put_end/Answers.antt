use Rattle.std.proofs.Common.{arith, refl}
use Rattle.std.proofs.lemmas.List.{drop_all}
use Rattle.dex_report.proofs.lines.put_end.Goals as goal

pub returns-clause-written : goal.returns-clause-written
returns-clause-written c = rw (c.put_word.ensures.written, drop_all 768 c.args.line.now (omega arith)) refl

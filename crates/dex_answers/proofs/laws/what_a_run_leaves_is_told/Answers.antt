use Rattle.dex_answers.proofs.InFront.{lawful-in_front, run-told}
use Rattle.dex_answers.proofs.laws.what_a_run_leaves_is_told.Goals as goal

pub returns-clause-front : goal.returns-clause-front
returns-clause-front c = lawful-in_front

pub returns-clause-told : goal.returns-clause-told
returns-clause-told c = run-told

use Rattle.dex_answers.proofs.AnswerLaws.{answered}
use Rattle.dex_answers.proofs.laws.what_suits_a_command_is_answered.Goals as goal

pub returns : goal.returns
returns c = answered

use Rattle.dex_commands.proofs.LaneAnswerLaws.{all-answered}
use Rattle.dex_commands.proofs.laws.what_suits_a_command_is_answered.Goals as goal

pub returns : goal.returns
returns c = all-answered

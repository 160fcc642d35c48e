use Rattle.dex_answers.proofs.PairLaws.{are-paired}
use Rattle.dex_answers.proofs.laws.both_legs_of_a_swap_take_or_neither.Goals as goal

pub returns : goal.returns
returns c = λ script outcome is lawful. are-paired script is outcome lawful

use Rattle.dex_desk.proofs.TalkLaws.{talks-front}
use Rattle.dex_desk.proofs.laws.a_front_of_turns_that_talk_talks.Goals as goal

pub returns : goal.returns
returns c = λ before after turns more talks. talks-front before after turns more talks

use Rattle.dex_desk.proofs.WholeLaws.{a-whole-session}
use Rattle.dex_desk.proofs.laws.a_session_is_one_replay.Goals as goal

pub returns : goal.returns
returns c = λ turns after talks. a-whole-session turns after talks

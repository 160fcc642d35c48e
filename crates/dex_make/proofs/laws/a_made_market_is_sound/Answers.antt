use Rattle.dex_make.proofs.MadeLaws.{CanMake-made, IsSound-made}
use Rattle.dex_make.proofs.laws.a_made_market_is_sound.Goals as goal

pub returns-clause-can_make : goal.returns-clause-can_make
returns-clause-can_make c = CanMake-made

pub returns-clause-sound : goal.returns-clause-sound
returns-clause-sound c = IsSound-made

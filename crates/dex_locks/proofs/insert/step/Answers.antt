use Rattle.std.proofs.Common.{refl}
use Rattle.dex_locks.specs.Places.{put}
use Rattle.dex_locks.proofs.insert.step.Goals as goal

pub returns-in-Nothing : goal.returns-in-Nothing
unfolding put
returns-in-Nothing c others = rw c.in-Nothing.is refl

pub returns-in-Moved : goal.returns-in-Moved
unfolding put
returns-in-Moved c others = rw (c.in-Moved.is, c.moved-given.ensures) refl

use Rattle.dex_sound.proofs.BoundLaws.{sum-beyond, beyond-refused, sum-exactly}
use Rattle.dex_sound.proofs.bounds.a_sum_is_too_large_where_the_bound_would_break.Goals as goal

pub returns-clause-only : goal.returns-clause-only
returns-clause-only c = sum-beyond

pub returns-clause-always : goal.returns-clause-always
returns-clause-always c = beyond-refused

pub returns-clause-exactly : goal.returns-clause-exactly
returns-clause-exactly c = sum-exactly

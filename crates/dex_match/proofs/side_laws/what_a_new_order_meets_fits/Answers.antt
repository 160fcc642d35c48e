use Rattle.dex_match.proofs.FittingLaws.{locks-fit, meeting-fits}
use Rattle.dex_match.proofs.side_laws.what_a_new_order_meets_fits.Goals as goal

pub returns-clause-sums : goal.returns-clause-sums
returns-clause-sums c side m n sound lots lock = meeting-fits side m n sound lots lock

pub returns-clause-locks : goal.returns-clause-locks
returns-clause-locks c side m sound = locks-fit side m sound

use Rattle.dex_script.proofs.OrderLaws.{read-dump}
use Rattle.dex_script.proofs.laws.a_dump_at_the_start_is_accepted.Goals as goal

pub returns : goal.returns
returns c = λ limits batch text script are begins reads.
    let starts = read-dump limits are batch text script begins reads in (starts.accepted, starts.none)

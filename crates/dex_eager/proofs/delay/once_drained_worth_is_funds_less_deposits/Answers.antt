use Rattle.dex_eager.proofs.DelayLaws.{worth-drained}
use Rattle.dex_eager.proofs.delay.once_drained_worth_is_funds_less_deposits.Goals as goal

pub returns : goal.returns
returns c = worth-drained

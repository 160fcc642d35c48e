use Rattle.dex_fees.proofs.FeeLaws.{IsGreatest-spendable}
use Rattle.dex_fees.proofs.laws.spendable_is_greatest.Goals as goal

pub returns : goal.returns
returns c = IsGreatest-spendable

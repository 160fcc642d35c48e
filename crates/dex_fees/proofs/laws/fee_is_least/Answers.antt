use Rattle.dex_fees.proofs.FeeLaws.{IsLeast-taker_fee}
use Rattle.dex_fees.proofs.laws.fee_is_least.Goals as goal

pub returns : goal.returns
returns c = IsLeast-taker_fee

use Rattle.dex_fees.proofs.FeeLaws.{maker_rate-half, maker_rate-le, greatest_maker_rate-half}
use Rattle.dex_fees.proofs.laws.makers_get_at_most_half.Goals as goal

pub returns-clause-rates : goal.returns-clause-rates
returns-clause-rates c = maker_rate-half

pub returns-clause-greatest : goal.returns-clause-greatest
returns-clause-greatest c = maker_rate-le

pub returns-clause-half : goal.returns-clause-half
returns-clause-half c = greatest_maker_rate-half

use Rattle.dex_fees.proofs.FeeLaws.{taker_fee-le}
use Rattle.dex_fees.proofs.laws.fee_is_part_of_quote.Goals as goal

pub returns : goal.returns
returns c = taker_fee-le

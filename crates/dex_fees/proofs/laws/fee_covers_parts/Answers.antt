use Rattle.dex_fees.proofs.FeeLaws.{fee-covers, maker_rebate-rate}
use Rattle.dex_fees.proofs.laws.fee_covers_parts.Goals as goal

pub returns-clause-one_maker : goal.returns-clause-one_maker
returns-clause-one_maker c = λ program maker taker pc. fee-covers program taker pc _ (maker_rebate-rate program maker pc)

pub returns-clause-many_makers : goal.returns-clause-many_makers
returns-clause-many_makers c = fee-covers

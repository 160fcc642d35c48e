use Rattle.dex_sound.proofs.FillLaws.{order-balanced, take-balanced}
use Rattle.dex_sound.proofs.fills.fills_pay_the_fee_less_the_rebates.Goals as goal

pub returns-clause-orders : goal.returns-clause-orders
returns-clause-orders c = order-balanced

pub returns-clause-takes : goal.returns-clause-takes
returns-clause-takes c = take-balanced

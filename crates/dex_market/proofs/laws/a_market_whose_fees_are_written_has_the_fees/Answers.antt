use Rattle.std.proofs.Common.{refl, arith, lit≤}
use Rattle.dex_fields.specs.declared.market.TheConstants.{PC_FEES_ACCRUED}
use Rattle.dex_fields.proofs.Writing.{number_in-with_number}
use Rattle.dex_market.proofs.WordWrites.{IsMarket-beside, pc_fees_accrued_written}
use Rattle.dex_market.proofs.laws.a_market_whose_fees_are_written_has_the_fees.Goals as goal

pub returns-clause-words : goal.returns-clause-words
returns-clause-words c =
    λ bytes fees market fits. pc_fees_accrued_written bytes fees (number_in-with_number bytes PC_FEES_ACCRUED fees (omega (arith, market.size)) (omega (arith, fits)))

pub returns-clause-accepted : goal.returns-clause-accepted
returns-clause-accepted c = λ bytes fees market. IsMarket-beside bytes PC_FEES_ACCRUED fees refl (lit≤ tt) (lit≤ tt) market

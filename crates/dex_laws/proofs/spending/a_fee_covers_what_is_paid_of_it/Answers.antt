use Rattle.dex_laws.proofs.SpendLaws.{fee_of-le, fee_of-covers}
use Rattle.dex_laws.proofs.spending.a_fee_covers_what_is_paid_of_it.Goals as goal

pub returns-clause-of_quote : goal.returns-clause-of_quote
returns-clause-of_quote c = fee_of-le

pub returns-clause-parts : goal.returns-clause-parts
returns-clause-parts c = fee_of-covers

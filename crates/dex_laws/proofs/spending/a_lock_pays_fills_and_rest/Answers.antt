use Rattle.dex_laws.proofs.SpendLaws.{spent-le, rested-paid}
use Rattle.dex_laws.proofs.spending.a_lock_pays_fills_and_rest.Goals as goal

pub returns-clause-fills : goal.returns-clause-fills
returns-clause-fills c = spent-le

pub returns-clause-rest : goal.returns-clause-rest
returns-clause-rest c = rested-paid

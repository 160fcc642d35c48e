use Rattle.dex_ring.proofs.AmountLaws.{AmountsFit-appended, AmountsFit-events_of}
use Rattle.dex_ring.proofs.amounts.amounts_of_events_fit.Goals as goal

pub returns-clause-pending : goal.returns-clause-pending
returns-clause-pending c = AmountsFit-events_of

pub returns-clause-appended : goal.returns-clause-appended
returns-clause-appended c = AmountsFit-appended

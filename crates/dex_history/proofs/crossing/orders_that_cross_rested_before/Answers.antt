use Rattle.std.proofs.Common.{take}
use Rattle.dex_history.proofs.CrossLaws.{rested-after, rested-stepped}
use Rattle.dex_history.proofs.HistoryLaws.{IsLegal-front}
use Rattle.dex_history.proofs.crossing.orders_that_cross_rested_before.Goals as goal

pub returns-clause-row : goal.returns-clause-row
returns-clause-row c = rested-stepped

pub returns-clause-places : goal.returns-clause-places
returns-clause-places c = λ m calls count sound legal. rested-after (take count calls) m sound (IsLegal-front count calls m legal)

pub returns-clause-end : goal.returns-clause-end
returns-clause-end c = λ m calls. rested-after calls m

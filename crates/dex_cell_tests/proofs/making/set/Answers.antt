use Rattle.std.proofs.Common.{arith}
use Rattle.dex_cell_tests.proofs.SetLaws.{can-trade}
use Rattle.dex_cell_tests.proofs.making.set.Goals as goal

pub returns-clause-trades : goal.returns-clause-trades
returns-clause-trades c = can-trade _ c.labelled-market.ensures c.labelled-coin.ensures c.labelled-pc.ensures (omega arith) (omega arith)

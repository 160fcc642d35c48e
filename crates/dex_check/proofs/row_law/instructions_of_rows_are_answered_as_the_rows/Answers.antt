use Rattle.dex_check.proofs.RowLaws.{rows-market, rows-replies}
use Rattle.dex_check.proofs.row_law.instructions_of_rows_are_answered_as_the_rows.Goals as goal

pub returns-clause-market : goal.returns-clause-market
returns-clause-market c = rows-market

pub returns-clause-replies : goal.returns-clause-replies
returns-clause-replies c = rows-replies

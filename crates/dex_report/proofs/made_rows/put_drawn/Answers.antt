use Rattle.std.proofs.Common.{◌++◌, codes}
use Rattle.std.specs.Fmt.{decimal}
use Rattle.dex_report.specs.MadeRows.{account_text, asked_text, row_place}
use Rattle.dex_report.proofs.MadeTexts.{drawn-words}
use Rattle.dex_report.proofs.made_rows.put_drawn.Goals as goal

pub returns-clause-written : goal.returns-clause-written
returns-clause-written c =
    rw (c.put_place.ensures.written, c.put_accounts-accounts.ensures.written, c.put_asked-asked.ensures.written, c.put_end-end.ensures.written)
    (drawn-words (codes "do," ++ row_place c.args.market c.args.trader ++ codes ",") (account_text c.args.market c.args.trader) (codes ",c")
    (decimal c.args.trader) (codes ",q") (codes ",-,-,") (asked_text c.args.asked) (codes "\n"))

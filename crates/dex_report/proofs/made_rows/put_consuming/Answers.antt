use Rattle.std.proofs.Common.{◌++◌, arith, codes}
use Rattle.std.proofs.lemmas.List.{drop_all}
use Rattle.dex_report.specs.MadeRows.{accounts_text, row_place}
use Rattle.dex_report.proofs.MadeTexts.{account-words}
use Rattle.dex_report.proofs.made_rows.put_consuming.Goals as goal

pub returns-clause-written : goal.returns-clause-written
returns-clause-written c =
    rw (
      c.put_place.ensures.written,
      c.put_word-accounts.ensures.written,
      c.put_word-consume.ensures.written,
      drop_all 768 c.args.line.now (omega arith),
      c.accounts.ensures.text,
    )
    (account-words (codes "do," ++ row_place c.args.market c.args.trader ++ codes ",") (accounts_text c.args.market) (codes ",-,-,-,-,consume 1000") (codes "\n"))

use Rattle.std.proofs.Common.{◌++◌, ◌∷◌, [], arith, codes}
use Rattle.std.proofs.lemmas.List.{drop_all}
use Rattle.dex_report.specs.MadeRows.{account_text, row_place}
use Rattle.dex_report.proofs.MadeTexts.{account-words}
use Rattle.dex_report.proofs.made_rows.put_opening.Goals as goal

pub returns-clause-written : goal.returns-clause-written
unfolding account_text
returns-clause-written c =
    rw (
      c.put_place.ensures.written,
      c.put_word-account.ensures.written,
      c.put_word-init.ensures.written,
      drop_all 768 c.args.line.now (omega arith),
      c.letter.ensures,
      c.digit.ensures,
    )
    (account-words (codes "do," ++ row_place c.args.market c.args.trader ++ codes ",") (c.letter.result ∷ c.digit.result ∷ []) (codes ",-,-,-,-,init") (codes "\n"))

use Rattle.std.proofs.Common.{◌∙◌, codes, map}
use Rattle.std.specs.List.{flat_map}
use Rattle.dex_types.specs.Accounts.{accounts_of, market_accounts_of}
use Rattle.dex_dump.specs.DumpText.{lines_text, market_rows}
use Rattle.dex_dump.specs.Pieces.{text_in}
use Rattle.dex_dump.proofs.PieceLaws.{behind, more}
use Rattle.dex_dump.proofs.WholeLaws.{whole-held, whole-text}
use Rattle.dex_dump.proofs.taking.take_accounts.Goals as goal

pub returns-clause-text : goal.returns-clause-text
returns-clause-text c =
    let markets = lines_text (flat_map market_rows (map market_accounts_of c.args.accounts.markets.items)) in
    more _ _ _ (codes "enddump\n") (behind _ _ _ _ c.in_ok-write_word.ensures)
    (more _ _ _ markets c.in_ok-take_each_market.ensures.text (behind _ _ _ _ c.in_ok-write_front.ensures.text))
    ∙ whole-text (accounts_of c.args.accounts) (text_in c.args.text.now)

pub returns-clause-held : goal.returns-clause-held
returns-clause-held c = whole-held (accounts_of c.args.accounts) c.in_ok-write_front.ensures.held c.in_ok-take_each_market.ensures.held

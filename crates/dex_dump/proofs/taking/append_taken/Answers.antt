use Rattle.dex_types.specs.Accounts.{accounts_of}
use Rattle.dex_dump.proofs.WholeLaws.{whole-held, whole-text}
use Rattle.dex_dump.proofs.taking.append_taken.Goals as goal

pub returns-clause-text : goal.returns-clause-text
returns-clause-text c =
    rw (c.in_ok-write_word.ensures, c.in_ok-take_markets.ensures.text, c.in_ok-write_front.ensures.text)
    (whole-text (accounts_of c.args.accounts) c.args.text.now.items)

pub returns-clause-held : goal.returns-clause-held
returns-clause-held c = whole-held (accounts_of c.args.accounts) c.in_ok-write_front.ensures.held c.in_ok-take_markets.ensures.held

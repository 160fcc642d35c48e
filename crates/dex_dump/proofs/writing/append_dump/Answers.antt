use Rattle.std.proofs.Common.{All, List, map, subst}
use Rattle.dex_types.specs.declared.account_bytes.MarketAccounts.{MarketAccounts}
use Rattle.dex_types.specs.Accounts.{accounts_of, market_accounts_of}
use Rattle.dex_state.specs.Held.{IsHeldMarket}
use Rattle.dex_dump.proofs.WholeLaws.{whole-held, whole-text}
use Rattle.dex_dump.proofs.writing.append_dump.Goals as goal

pub returns-clause-text : goal.returns-clause-text
returns-clause-text c =
    rw (c.in_ok-write_word.ensures, c.in_ok-write_markets.ensures.text, c.in_ok-write_front.ensures.text, c.deref.ensures.value)
    (whole-text (accounts_of c.args.accounts.now) c.args.text.now.items)

pub returns-clause-held : goal.returns-clause-held
returns-clause-held c =
    let markets = λ (markets : List MarketAccounts). All IsHeldMarket (map market_accounts_of markets) in
    whole-held (accounts_of c.args.accounts.now) c.in_ok-write_front.ensures.held (subst markets c.deref.ensures.value c.in_ok-write_markets.ensures.held)

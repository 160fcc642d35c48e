use Rattle.dex_types.specs.Accounts.{market_accounts_of}
use Rattle.dex_check.proofs.checking.account_flaw.Goals as goal

pub returns-in-Ok : goal.returns-in-Ok
returns-in-Ok c =
    (c.checks_of_a_market_hold_exactly_where_it_is_accepted.ensures (market_accounts_of c.args.market.now) c.requires.address.size).0 c.in-Ok.ensures

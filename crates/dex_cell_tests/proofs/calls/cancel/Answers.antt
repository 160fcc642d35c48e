use Rattle.std.proofs.Common.{rules}
use Rattle.dex_types.specs.Accounts.{market_accounts_of}
use Rattle.dex_cell_tests.proofs.CallLaws.{cancel-can}
use Rattle.dex_cell_tests.proofs.calls.cancel.Goals as goal

pub cancel_on_bytes-requires-clause-market : goal.cancel_on_bytes-requires-clause-market
cancel_on_bytes-requires-clause-market c =
    let can = cancel-can (market_accounts_of c.args.accounts.now) c.requires c.sizes_in-sizes.result (search rules) in
    search (rules, can)

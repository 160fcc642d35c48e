use Rattle.std.proofs.Common.{rules}
use Rattle.dex_types.specs.Accounts.{market_accounts_of}
use Rattle.dex_cell_tests.proofs.CallLaws.{consume-can}
use Rattle.dex_cell_tests.proofs.calls.crank.Goals as goal

pub consume_on_bytes-requires : goal.consume_on_bytes-requires
consume_on_bytes-requires c =
    let can = consume-can (market_accounts_of c.args.accounts.now) c.requires in
    search (rules, can)

use Rattle.std.proofs.Common.{◌+◌, ◌∷◌, map, drop, arith}
use Rattle.dex_types.specs.Accounts.{orders_account_of}
use Rattle.dex_dump.specs.Checks.{orders_check}
use Rattle.dex_dump.proofs.AloneLaws.{IsLeft, first-alone, one-done, one-left}
use Rattle.dex_dump.proofs.alone.check_each_orders.Goals as goal

pub loop-place-preserved : goal.loop-place-preserved
loop-place-preserved c =
    one-done (orders_check c.args.market (orders_account_of c.index-accounts-place.result)) _ _
    (one-left c.args.market c.args.accounts.now c.loop-place.place c.index-accounts-place.result _ (omega arith) c.index-accounts-place.is c.loop-place.invariant)
    c.in-Ok.ensures.0

pub returns-in-Err : goal.returns-in-Err
returns-in-Err c =
    let all = map orders_account_of c.args.accounts.now in
    let one = orders_check c.args.market (orders_account_of c.index-accounts-place.result) in
    let others = map (orders_check c.args.market) (drop (c.loop-place.place + 1) all) in
    let left : IsLeft (one ∷ others) (map (orders_check c.args.market) all) =
    one-left c.args.market c.args.accounts.now c.loop-place.place c.index-accounts-place.result _ (omega arith) c.index-accounts-place.is c.loop-place.invariant in
    left.first c.in-Err.failed.account c.in-Err.failed.fault (first-alone one others c.in-Err.failed.account c.in-Err.failed.fault c.in-Err.ensures)

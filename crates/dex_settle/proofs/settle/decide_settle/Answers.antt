use Rattle.dex_orders.specs.OrdersAccount.{account_of}
use Rattle.dex_settle.specs.SettleGiven.{given}
use Rattle.dex_settle.proofs.PayLaws.{given-of_sound, pc-fits}
use Rattle.dex_settle.proofs.settle.decide_settle.Goals as goal

pub decide-requires-clause-fits : goal.decide-requires-clause-fits
decide-requires-clause-fits c =
    let shown = given c.args.market.now.bytes.now c.args.orders.now.bytes.now in
    let is = c.requires.parts in
    let of = given-of_sound shown is in
    pc-fits is.sound.market is.owner (account_of c.args.orders.now.bytes.now) of.sound of.known

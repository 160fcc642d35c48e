use Rattle.dex_settle.specs.SettleGiven.{given}
use Rattle.dex_settle.proofs.PayLaws.{given-can_pay, given-of_sound}
use Rattle.dex_settle.proofs.settle.apply_settle.Goals as goal

pub pay-requires-clause-can_pay : goal.pay-requires-clause-can_pay
pay-requires-clause-can_pay c =
    let old = given c.args.market.now.bytes.now c.args.orders.now.bytes.now in
    let is = c.requires.parts in
    given-can_pay old is.owner is.sound.market c.args.plan.now (given-of_sound old is) c.requires.decided

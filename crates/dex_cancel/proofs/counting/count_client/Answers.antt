use Rattle.std.proofs.Common.{arith}
use Rattle.dex_types.specs.declared.terms.Side.TheVariants.{Bid, Ask}
use Rattle.dex_types.specs.Cancel.{orders_of}
use Rattle.dex_cancel.proofs.WalkSteps.{count_of_client-append}
use Rattle.dex_cancel.proofs.counting.count_client.Goals as goal

pub returns : goal.returns
returns g c =
    let bids = orders_of c.args.account Bid (g.B.SideRead.orders c.args.bids.now) in
    let asks = orders_of c.args.account Ask (g.A.SideRead.orders c.args.asks.now) in
    omega (arith, count_of_client-append c.args.client bids asks)

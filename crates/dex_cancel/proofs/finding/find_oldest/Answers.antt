use Rattle.std.proofs.Common.{sym, ap, ◌∙◌}
use Rattle.dex_types.specs.declared.terms.Side.TheVariants.{Bid, Ask}
use Rattle.dex_types.specs.Cancel.{oldest, orders_of}
use Rattle.dex_cancel.specs.Finding.{maybe_resting, older_of}
use Rattle.dex_cancel.proofs.WalkSteps.{oldest-append}
use Rattle.dex_cancel.proofs.finding.find_oldest.Goals as goal

pub returns : goal.returns
returns g c =
    let bids = orders_of c.args.account Bid (g.B.SideRead.orders c.args.bids.now) in
    let asks = orders_of c.args.account Ask (g.A.SideRead.orders c.args.asks.now) in
    c.older_of.ensures
    ∙ ap (λ o. older_of o (maybe_resting c.oldest_on-ask.result)) c.oldest_on-bid.ensures
    ∙ ap (older_of (oldest c.args.client bids)) c.oldest_on-ask.ensures
    ∙ sym (oldest-append c.args.client bids asks)

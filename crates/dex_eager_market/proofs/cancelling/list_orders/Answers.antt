use Rattle.std.proofs.Common.{arith}
use Rattle.dex_eager_market.proofs.cancelling.list_orders.Goals as goal

pub returns-clause-kept : goal.returns-clause-kept
returns-clause-kept c = λ bound kept.
    record { bids = kept.bids; asks = kept.asks; till = kept.till; listed = omega (arith, kept.listed, c.list_own.ensures.reserved) }

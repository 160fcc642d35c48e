use Rattle.std.proofs.Common.{◌≡◌, ℕ, List}
use Rattle.dex_types.specs.declared.orders.Order.{Order}
use Rattle.dex_types.specs.declared.terms.Side.{Side}
use Rattle.dex_types.specs.declared.terms.Side.TheVariants.{Bid, Ask}
use Rattle.dex_types.specs.Side.{by_side}
use Rattle.dex_types.specs.Soundness.{counts_order}
use Rattle.dex_types.specs.Totals.{total}
use Rattle.dex_totals.specs.declared.counts.Counts.{Counts}
use Rattle.dex_totals.specs.Tallies.{AreIds, times_of}
use Rattle.dex_totals.proofs.counts.all_resting.Goals as goal

resting-of : (counts : Counts) (bids asks : List Order) → AreIds counts.bids bids → AreIds counts.asks asks → (id : ℕ) (side : Side) (client : ℕ)
    → times_of counts (record { id = id; side = side; client = client })
    ≡ total (counts_order side (record { id = id; side = side; client = client })) (by_side side bids asks)
resting-of counts bids asks for_bids for_asks id Bid client = for_bids Bid id client
resting-of counts bids asks for_bids for_asks id Ask client = for_asks Ask id client

pub returns : goal.returns
returns c = λ held.
    resting-of
    (record { bids = c.in_ok-bids.bids; asks = c.in_ok-asks.asks })
    c.args.bids.now
    c.args.asks.now
    c.in_ok-bids.ensures
    c.in_ok-asks.ensures
    held.id
    held.side
    held.client

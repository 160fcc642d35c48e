use Rattle.dex_types.specs.declared.terms.Side.TheVariants.{Bid, Ask}
use Rattle.dex_totals.proofs.counts.Counts.count.Goals as goal

pub count-requires : goal.count-requires
count-requires c = c.requires (record { id = c.args.event.now.id; side = Bid; client = 0 })

pub count-requires-in-Ask : goal.count-requires-in-Ask
count-requires-in-Ask c = c.requires (record { id = c.args.event.now.id; side = Ask; client = 0 })

use Rattle.std.proofs.Common.{arith}
use Rattle.dex_cancel_slots.proofs.TakenLaws.{bits-ask, bits-bid}
use Rattle.dex_cancel_slots.proofs.taken.side_bits.Goals as goal

pub returns-in-Bid : goal.returns-in-Bid
returns-in-Bid c =
    rw c.in-Bid.is (bits-bid c.args.orders.now.bytes.now c.get_u128-taken.result c.get_u128-bids.result c.get_u128-taken.ensures c.get_u128-bids.ensures (omega arith))

pub returns-in-Ask : goal.returns-in-Ask
returns-in-Ask c =
    rw c.in-Ask.is (bits-ask c.args.orders.now.bytes.now c.get_u128-taken.result c.get_u128-bids.result c.get_u128-taken.ensures c.get_u128-bids.ensures (omega arith) (omega arith))

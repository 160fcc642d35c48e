use Rattle.std.proofs.Common.{◌<◌, ◌^◌, ap, arith}
use Rattle.std.specs.Prelude.{count_ones}
use Rattle.dex_fields.specs.declared.open_orders.TheConstants.{FREE_SLOT_BITS}
use Rattle.dex_fields.specs.Bytes.{number_in}
use Rattle.dex_orders.proofs.TakenLaw.{taken_slots-slots_of}
use Rattle.dex_orders.proofs.orders_ref.OrdersRef.taken.Goals as goal

pub returns : goal.returns
returns c =
    let low : number_in c.args.self.now.bytes.now FREE_SLOT_BITS < 2 ^ 128 = omega (arith, c.get_u128.ensures) in
    let same = ap count_ones c.get_u128.ensures in
    omega (arith, taken_slots-slots_of c.args.self.now.bytes.now low, same)

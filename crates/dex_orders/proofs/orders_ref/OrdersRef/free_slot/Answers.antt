use Rattle.std.proofs.Common.{◌<◌, ◌^◌, None, get_or, refl, ap, ◌∙◌, arith}
use Rattle.std.specs.Int.{trailing_zeros, w128}
use Rattle.dex_fields.specs.declared.open_orders.TheConstants.{FREE_SLOT_BITS}
use Rattle.dex_fields.specs.Bytes.{number_in}
use Rattle.dex_orders.specs.OrdersAccount.{slots_of}
use Rattle.dex_orders.proofs.TakenLaw.{full_from_zero, lowest-free, lowest-is, zero_from_full}
use Rattle.dex_orders.proofs.orders_ref.OrdersRef.free_slot.Goals as goal

pub returns-in-0-clause-none : goal.returns-in-0-clause-none
returns-in-0-clause-none c =
    let low : number_in c.args.self.now.bytes.now FREE_SLOT_BITS < 2 ^ 128 = omega (arith, c.get_u128.ensures) in
    ((λ h. full_from_zero c.args.self.now.bytes.now low (omega (arith, c.get_u128.ensures))), (λ h. refl))

pub returns-in_default-clause-none : goal.returns-in_default-clause-none
returns-in_default-clause-none c =
    let low : number_in c.args.self.now.bytes.now FREE_SLOT_BITS < 2 ^ 128 = omega (arith, c.get_u128.ensures) in
    ((λ h. absurd cc), (λ full. absurd (let none = zero_from_full c.args.self.now.bytes.now low full in omega (arith, c.get_u128.ensures, none))))

pub returns-in_default-clause-lowest : goal.returns-in_default-clause-lowest
returns-in_default-clause-lowest c =
    let low : number_in c.args.self.now.bytes.now FREE_SLOT_BITS < 2 ^ 128 = omega (arith, c.get_u128.ensures) in
    let some : 0 < number_in c.args.self.now.bytes.now FREE_SLOT_BITS = omega (arith, c.get_u128.ensures) in
    ap (trailing_zeros w128) c.get_u128.ensures ∙ lowest-is c.args.self.now.bytes.now low some

pub returns-in_default-clause-free : goal.returns-in_default-clause-free
returns-in_default-clause-free c =
    let low : number_in c.args.self.now.bytes.now FREE_SLOT_BITS < 2 ^ 128 = omega (arith, c.get_u128.ensures) in
    let some : 0 < number_in c.args.self.now.bytes.now FREE_SLOT_BITS = omega (arith, c.get_u128.ensures) in
    ap (λ n. get_or (slots_of c.args.self.now.bytes.now) (trailing_zeros w128 n) None) c.get_u128.ensures ∙ lowest-free c.args.self.now.bytes.now low some

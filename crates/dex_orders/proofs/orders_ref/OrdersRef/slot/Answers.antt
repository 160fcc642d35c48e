use Rattle.std.proofs.Common.{ap, sym, ◌∙◌, arith}
use Rattle.std.specs.Option.{option_map}
use Rattle.dex_orders.specs.OrdersAccount.{told_holding}
use Rattle.dex_orders.proofs.SlotLaw.{get_or-slots_of, get_or-slots_of_past}
use Rattle.dex_orders.proofs.orders_ref.OrdersRef.slot.Goals as goal

pub returns-then-slot-lt-SLOT_COUNT : goal.returns-then-slot-lt-SLOT_COUNT
returns-then-slot-lt-SLOT_COUNT c =
    c.holding.ensures ∙ ap (option_map told_holding) (sym (get_or-slots_of c.args.self.now.bytes.now c.args.slot (omega arith)))

pub returns-else-slot-lt-SLOT_COUNT : goal.returns-else-slot-lt-SLOT_COUNT
returns-else-slot-lt-SLOT_COUNT c = ap (option_map told_holding) (sym (get_or-slots_of_past c.args.self.now.bytes.now c.args.slot (omega arith)))

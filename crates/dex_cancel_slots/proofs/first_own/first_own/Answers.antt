use Rattle.std.proofs.Common.{arith}
use Rattle.dex_orders.proofs.SlotLaw.{length-slots_of}
use Rattle.dex_cancel_slots.specs.Given.{slots_in}
use Rattle.dex_cancel_slots.proofs.FirstLaws.{first-more, first-none, first-of-all}
use Rattle.dex_cancel_slots.proofs.first_own.first_own.Goals as goal

pub slots-init : goal.slots-init
slots-init g c =
    let next = c.next_set-slot.ensures in record {
      first = first-none c.args.owner.account (slots_in c.args.owner.orders) c.args.side c.args.last (g.S.SideRead.orders c.args.book.now) c.side_bits-bits.result
          c.side_bits-bits.ensures c.next_set-slot.result next.within next.clear;
      set = next.set;
    }

pub slots-preserved : goal.slots-preserved
slots-preserved g c =
    let next = c.next_set-slot-in-slots.ensures in
    let held = c.slots.invariant in record {
      first = first-more c.args.owner.account (slots_in c.args.owner.orders) c.args.side c.args.last (g.S.SideRead.orders c.args.book.now) c.side_bits-bits.result
          c.side_bits-bits.ensures c.requires.names c.slots.slot c.next_set-slot-in-slots.result c.id_at.result c.slots.first c.earlier-first.result held.first
          c.slots-test.true (held.set c.slots-test.true) c.id_at.ensures c.earlier-first.ensures next.within next.clear;
      set = next.set;
    }

pub returns : goal.returns
returns g c =
    first-of-all c.args.owner.account (slots_in c.args.owner.orders) c.args.side c.args.last (g.S.SideRead.orders c.args.book.now) c.requires.names
    (omega (arith, length-slots_of c.args.owner.orders.bytes.now)) c.slots.slot (omega (arith, c.slots-test.false)) c.slots.first c.slots.invariant.first c.requires.behind

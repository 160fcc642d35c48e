use Rattle.std.proofs.Common.{◌-◌, ◌<◌, ◌≡◌, true}
use Rattle.dex_orders.specs.Bits.{is_set}
use Rattle.dex_cancel_slots.specs.Given.{slots_in}
use Rattle.dex_cancel_slots.proofs.FirstLaws.{IsFirstTo}
use Rattle.dex_cancel_slots.proofs.first_own.first_own.Given as goal

abbrev pub invariant-slots : goal.invariant-slots
invariant-slots g l = record {
  first : IsFirstTo l.fn.owner.account (slots_in l.owner.orders) l.side l.last (g.S.SideRead.orders l.book) l.slot l.first;
  set : l.slot < 128 → is_set l.bits l.slot ≡ true;
}

abbrev pub decreases-slots : goal.decreases-slots
decreases-slots g l = 128 - l.slot

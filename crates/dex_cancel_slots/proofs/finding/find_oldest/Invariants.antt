use Rattle.std.proofs.Common.{◌≡◌, ◌-◌, drop}
use Rattle.dex_cancel.specs.Finding.{maybe_resting, older_of}
use Rattle.dex_cancel_slots.specs.Given.{slots_in}
use Rattle.dex_cancel_slots.specs.Slots.{has_client, oldest_of, orders_in}
use Rattle.dex_cancel_slots.proofs.finding.find_oldest.Given as goal

abbrev pub invariant-slots : goal.invariant-slots
invariant-slots g l =
    let named = orders_in (has_client l.client) (g.B.SideRead.orders l.bids) (g.A.SideRead.orders l.asks) in
    older_of (maybe_resting l.found) (oldest_of (named (drop l.slot (slots_in l.fn.owner.orders)))) ≡ oldest_of (named (slots_in l.fn.owner.orders))

abbrev pub decreases-slots : goal.decreases-slots
decreases-slots g l = l.end - l.slot

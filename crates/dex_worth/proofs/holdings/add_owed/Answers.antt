use Rattle.std.proofs.Common.{◌<◌, [], length, get_or, map, ap, ◌∙◌, arith}
use Rattle.std.proofs.lemmas.List.{get_or-map, get_or_default, length-map}
use Rattle.dex_types.specs.declared.orders.Event.{Event}
use Rattle.dex_types.specs.QueuedEvent.{decoded_event}
use Rattle.dex_worth.proofs.Holding.{owed-more}
use Rattle.dex_worth.proofs.holdings.add_owed.Goals as goal

pub loop-place-preserved : goal.loop-place-preserved
loop-place-preserved c = λ before are.
    let d : Event = record { flags = 0; slot = 0; tier = 0; released = 0; paid = 0; fee_or_rebate = 0; id = 0; owner = record { 0 = [] }; client = 0 } in
    let event : Event = get_or c.args.events.now c.loop-place.place d in
    let lt : c.loop-place.place < length c.args.events.now = c.loop-place-test.true in
    owed-more (map decoded_event c.args.events.now) c.loop-place.place (decoded_event event) before c.args.owners.now c.owed_by-owed.result c.loop-place.held c.add.new.sums
    (omega (arith, lt, length-map c.args.events.now decoded_event))
    (get_or-map decoded_event c.args.events.now c.loop-place.place event (decoded_event event) lt ∙ ap decoded_event (get_or_default c.args.events.now c.loop-place.place event d lt))
    c.owed_by-owed.ensures
    (c.loop-place.invariant before are)
    c.add.ensures

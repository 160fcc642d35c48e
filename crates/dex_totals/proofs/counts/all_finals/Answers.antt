use Rattle.std.proofs.Common.{[], map, sym, ap, arith}
use Rattle.std.proofs.lemmas.List.{get_or-map, length-map}
use Rattle.dex_types.specs.declared.orders.Event.{Event}
use Rattle.dex_types.specs.QueuedEvent.{decoded_event}
use Rattle.dex_types.specs.Soundness.{counts_final}
use Rattle.dex_totals.proofs.FinalLaws.{finals-few, finals-more}
use Rattle.dex_totals.proofs.counts.all_finals.Goals as goal

pub count-requires : goal.count-requires
count-requires c = λ held.
    omega (arith, c.loop-place.invariant held, finals-few (map decoded_event c.args.events.now) held c.loop-place.place, length-map c.args.events.now decoded_event)

pub loop-place-preserved : goal.loop-place-preserved
loop-place-preserved c = λ held.
    let d : Event = record { flags = 0; slot = 0; tier = 0; released = 0; paid = 0; fee_or_rebate = 0; id = 0; owner = record { 0 = [] }; client = 0 } in
    let events = map decoded_event c.args.events.now in
    let event = get_or-map decoded_event c.args.events.now c.loop-place.place d (decoded_event d) (omega arith) in
    omega (
      arith,
      c.in_ok-count.ensures held,
      c.loop-place.invariant held,
      ap (counts_final held) (sym event),
      finals-more held events c.loop-place.place (decoded_event d) (omega (arith, length-map c.args.events.now decoded_event)),
    )

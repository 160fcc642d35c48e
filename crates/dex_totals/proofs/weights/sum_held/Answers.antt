use Rattle.std.proofs.Common.{[], ◌<◌, length, get_or, map, sym, ap, ◌∙◌, arith}
use Rattle.std.proofs.lemmas.List.{get_or-map, length-map}
use Rattle.dex_types.specs.declared.orders.Event.{Event}
use Rattle.dex_types.specs.QueuedEvent.{QueuedEvent, decoded_event}
use Rattle.dex_types.specs.Totals.{weighed_where}
use Rattle.dex_totals.specs.Held.{is_event_held}
use Rattle.dex_totals.specs.Sums.{weight_of}
use Rattle.dex_totals.proofs.SumLaws.{capped-exact, capped-total}
use Rattle.dex_totals.proofs.weights.sum_held.Goals as goal

pub loop-place-preserved : goal.loop-place-preserved
loop-place-preserved c =
    let d : Event = record { flags = 0; slot = 0; tier = 0; released = 0; paid = 0; fee_or_rebate = 0; id = 0; owner = record { 0 = [] }; client = 0 } in
    let events = map decoded_event c.args.events.now in
    let weight : QueuedEvent → _ = weighed_where (is_event_held c.args.owners.now) (weight_of c.args.weight) in
    let lt : c.loop-place.place < length c.args.events.now = omega arith in
    let event = get_or-map decoded_event c.args.events.now c.loop-place.place d (decoded_event d) lt in
    capped-total weight events c.loop-place.place (decoded_event d) c.loop-place.sum c.saturating_add-sum.result c.weigh_held-more.result
    (omega (arith, length-map c.args.events.now decoded_event)) c.loop-place.invariant
    (capped-exact c.weigh_held-more.result (weight (get_or events c.loop-place.place (decoded_event d))) (c.weigh_held-more.ensures.value ∙ ap weight (sym event)) c.weigh_held-more.ensures.small)
    c.saturating_add-sum.ensures

use Rattle.std.proofs.Common.{◌≡◌, ◌<◌, ◌∷◌, [], ◌++◌, length, get_or, map, take, List, sym, ap, ◌∙◌, arith}
use Rattle.std.proofs.lemmas.List.{map-append, take_more}
use Rattle.dex_types.specs.QueuedEvent.{QueuedEvent, decoded_event}
use Rattle.dex_ring.specs.Ring.{ring_of}
use Rattle.dex_totals.proofs.FinalLaws.{decoded-at}
use Rattle.dex_audit_rules.proofs.gathered.pending_events.Goals as goal

pub loop-number-preserved : goal.loop-number-preserved
loop-number-preserved c =
    let events = (ring_of c.args.ring.now.bytes.now).events in
    let d : QueuedEvent = decoded_event c.at.result in
    let lt : c.loop-number.number < length events = omega (arith, c.len-number-end.ensures) in
    let event : decoded_event c.at.result ≡ get_or events c.loop-number.number d = decoded-at c.at.result (get_or events c.loop-number.number d) (c.at.ensures.event d) in
    ap (map decoded_event) c.in_ok-add.ensures
    ∙ map-append decoded_event c.loop-number.events.items (c.at.result ∷ [])
    ∙ ap (λ (l : List QueuedEvent). l ++ decoded_event c.at.result ∷ []) c.loop-number.invariant
    ∙ ap (λ (e : QueuedEvent). take c.loop-number.number events ++ e ∷ []) event
    ∙ sym (take_more events c.loop-number.number d lt)

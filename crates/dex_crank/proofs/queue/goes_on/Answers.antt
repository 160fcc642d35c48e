use Rattle.std.proofs.Common.{◌<◌, length, sym, ap, ◌∙◌, rules}
use Rattle.dex_ring.specs.Ring.{events_of}
use Rattle.dex_types.specs.declared.orders.Event.{Event}
use Rattle.dex_types.specs.Payment.{is_named}
use Rattle.dex_types.specs.QueuedEvent.{decoded_event}
use Rattle.dex_crank.proofs.CountLaws.{goes_on-first}
use Rattle.dex_crank.proofs.queue.goes_on.Goals as goal

pub returns : goal.returns
returns c =
    let default = decoded_event c.at.result in
    let pending : 0 < length (events_of c.args.bytes.now) = search rules in
    c.is_named.ensures ∙ ap (λ (e : Event). is_named e.owner c.args.named.now) (c.at.ensures.event default)
    ∙ sym (goes_on-first c.args.named.now (events_of c.args.bytes.now) default pending)

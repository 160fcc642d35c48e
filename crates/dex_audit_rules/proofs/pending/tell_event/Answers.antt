use Rattle.std.proofs.Common.{◌≡◌, ◌&&◌, eqb, ap, ◌∙◌, Option}
use Rattle.dex_types.specs.declared.terms.Side.{Side}
use Rattle.dex_types.specs.QueuedEvent.{QueuedEvent, decoded_event}
use Rattle.dex_types.specs.Soundness.{event_holding, finals_of, held_at}
use Rattle.dex_types.specs.Trader.{Holding}
use Rattle.dex_totals.specs.Held.{id_held, is_held}
use Rattle.dex_audit_rules.specs.Slots.{is_placed}
use Rattle.dex_totals.specs.Tallies.{times_of}
use Rattle.dex_audit_rules.proofs.pending.tell_event.Goals as goal

pub returns : goal.returns
returns c = λ earlier finals.
    let event : QueuedEvent = decoded_event c.args.event.now in
    let found : Option Holding = held_at event.owner event.slot c.args.owners.now in
    let of_side = λ (side : Side). (let made : Holding = record { id = event.id; side = side; client = event.client } in made) in
    let held : c.is_held-is_held.result ≡ is_held found (event_holding event) =
    c.is_held-is_held.ensures ∙ ap (λ (f : Option Holding). is_held f (of_side c.side_of-side.result)) c.held_at-held.ensures
    ∙ ap (λ (s : Side). is_held found (of_side s)) c.side_of-side.ensures in
    let ended : c.times-ended.result ≡ finals_of (event_holding event) earlier =
    c.times-ended.ensures event.client ∙ ap (λ (s : Side). times_of c.args.finals.now (of_side s)) c.side_of-side.ensures ∙ finals (event_holding event) in
    let placed : c.is_placed-placed.result ≡ is_placed c.args.owners.now earlier event =
    c.is_placed-placed.ensures ∙ ap (λ b. b && (eqb c.times-ended.result 0)) held ∙ ap (λ n. is_held found (event_holding event) && (eqb n 0)) ended in
    let id : c.id_held.result ≡ id_held found = c.id_held.ensures ∙ ap id_held c.held_at-held.ensures in
    rw (placed, id) at c.tell_unless.ensures

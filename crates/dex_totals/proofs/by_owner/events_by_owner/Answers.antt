use Rattle.std.proofs.Common.{map, take, ap, ◌∙◌, arith}
use Rattle.std.specs.List.{filter}
use Rattle.std.proofs.lemmas.List.{take_all}
use Rattle.dex_types.specs.Owed.{is_event_of}
use Rattle.dex_types.specs.QueuedEvent.{decoded_event}
use Rattle.dex_totals.proofs.OwnLaws.{filter-map}
use Rattle.dex_totals.proofs.by_owner.events_by_owner.Goals as goal

pub returns : goal.returns
returns c = λ owner.
    ap (map decoded_event) (c.loop-place.invariant owner)
    ∙ filter-map decoded_event (is_event_of owner) (take c.loop-place.place c.args.events.now)
    ∙ ap (λ l. filter (is_event_of owner) (map decoded_event l)) (take_all c.loop-place.place c.args.events.now (omega arith))

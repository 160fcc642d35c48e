-- final outs of pending events, event by event
use Rattle.std.proofs.Common.{◌≡◌, ℕ, ◌+◌, ◌<◌, ◌≤◌, Bool, true, false, ◌&&◌, cond, List, [], ◌∷◌, length, get_or, take, refl, ap, ◌∙◌, arith}
use Rattle.std.proofs.lemmas.List.{length-take, take_more}
use Rattle.dex_types.specs.declared.orders.Event.{Event}
use Rattle.dex_types.specs.declared.terms.Side.TheVariants.{Bid, Ask}
use Rattle.dex_types.specs.QueuedEvent.{EventKind, MakerFill, TakerFill, PlainOut, ReleasingOut, QueuedEvent, decoded_event, encoded_event, flags_of, kind_of}
use Rattle.dex_types.specs.Soundness.{counts_final, event_holding, finals_of, is_final, is_one_order}
use Rattle.dex_types.specs.Trader.{Holding}
use Rattle.dex_laws.proofs.TotalLaws.{total-append}

-- an event is what is decoded of its code
kind-of_flags : (kind : EventKind) → kind_of (flags_of kind) ≡ kind
kind-of_flags (MakerFill Bid) = refl
kind-of_flags (MakerFill Ask) = refl
kind-of_flags (TakerFill Bid) = refl
kind-of_flags (TakerFill Ask) = refl
kind-of_flags (PlainOut Bid) = refl
kind-of_flags (PlainOut Ask) = refl
kind-of_flags (ReleasingOut Bid) = refl
kind-of_flags (ReleasingOut Ask) = refl

with-kind : (event : QueuedEvent) (kind : EventKind) → kind ≡ event.kind → (let made : QueuedEvent = record event { kind = kind } in made) ≡ event
with-kind event kind is = rw is refl

pub decoded-encoded : (event : QueuedEvent) → decoded_event (encoded_event event) ≡ event
decoded-encoded event = with-kind event (kind_of (flags_of event.kind)) (kind-of_flags event.kind)

pub decoded-at : (event : Event) (queued : QueuedEvent) → event ≡ encoded_event queued → decoded_event event ≡ queued
decoded-at event queued is = ap decoded_event is ∙ decoded-encoded queued

-- ---- final outs

one-le : (final one : Bool) → cond (final && one) 1 0 ≤ 1
one-le true true = omega arith
one-le true false = omega arith
one-le false one = omega arith

finals-le : (held : Holding) (events : List QueuedEvent) → finals_of held events ≤ length events
finals-le held [] = omega arith
finals-le held (event ∷ events) = omega (arith, finals-le held events, one-le (is_final event) (is_one_order held (event_holding event)))

pub finals-more : (held : Holding) (events : List QueuedEvent) (i : ℕ) (d : QueuedEvent) → i < length events
    → finals_of held (take (i + 1) events) ≡ finals_of held (take i events) + counts_final held (get_or events i d)
finals-more held events i d lt =
    let more = ap (finals_of held) (take_more events i d lt) in
    omega (arith, more, total-append (counts_final held) (take i events) (get_or events i d ∷ []))

pub finals-few : (events : List QueuedEvent) (held : Holding) (i : ℕ) → (finals_of held (take i events) ≤ i) × (finals_of held (take i events) ≤ length events)
finals-few events held i = (omega (arith, finals-le held (take i events), length-take i events), omega (arith, finals-le held (take i events), length-take i events))

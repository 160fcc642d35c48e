-- what pending makers' fills are still to take off totals, summed event by event
use Rattle.std.proofs.Common.{◌≡◌, ℕ, ◌+◌, ◌<◌, ◌∙◌, cond, eqb, List, length, drop, get_or, refl, ap, arith}
use Rattle.std.proofs.lemmas.List.{drop_more}
use Rattle.dex_types.specs.declared.orders.Event.{Event}
use Rattle.dex_types.specs.declared.terms.Side.TheVariants.{Bid, Ask}
use Rattle.dex_types.specs.Owed.{leaving, leaving_as}
use Rattle.dex_types.specs.QueuedEvent.{EventKind, MakerFill, TakerFill, PlainOut, ReleasingOut, QueuedEvent, encoded_event, flags_of}
use Rattle.dex_types.specs.Side.{Token, Coin, Pc, by_token}
use Rattle.dex_types.specs.Totals.{total}

-- by the flags: 9 are a resting ask's fill, 13 a resting bid's
leaves-by : (token : Token) (kind : EventKind) (e : QueuedEvent) → cond (eqb (flags_of kind) (by_token token 9 13)) e.paid 0 ≡ leaving_as token kind e
leaves-by Coin (MakerFill Bid) e = refl
leaves-by Coin (MakerFill Ask) e = refl
leaves-by Coin (TakerFill Bid) e = refl
leaves-by Coin (TakerFill Ask) e = refl
leaves-by Coin (PlainOut Bid) e = refl
leaves-by Coin (PlainOut Ask) e = refl
leaves-by Coin (ReleasingOut Bid) e = refl
leaves-by Coin (ReleasingOut Ask) e = refl
leaves-by Pc (MakerFill Bid) e = refl
leaves-by Pc (MakerFill Ask) e = refl
leaves-by Pc (TakerFill Bid) e = refl
leaves-by Pc (TakerFill Ask) e = refl
leaves-by Pc (PlainOut Bid) e = refl
leaves-by Pc (PlainOut Ask) e = refl
leaves-by Pc (ReleasingOut Bid) e = refl
leaves-by Pc (ReleasingOut Ask) e = refl

-- one event more is read: what the sum was short of the whole, it is short of less
pub summed-more : (token : Token) (events : List QueuedEvent) (number sum paid : ℕ) (d : QueuedEvent) (event : Event)
    → number < length events → event ≡ encoded_event (get_or events number d) → paid ≡ cond (eqb event.flags (by_token token 9 13)) event.paid 0
    → sum + total (leaving token) (drop number events) ≡ total (leaving token) events
    → sum + paid + total (leaving token) (drop (number + 1) events) ≡ total (leaving token) events
summed-more token events number sum paid d event within is pays so_far =
    let e : QueuedEvent = get_or events number d in
    let one : paid ≡ leaving token e = pays ∙ ap (λ (e : Event). cond (eqb e.flags (by_token token 9 13)) e.paid 0) is ∙ leaves-by token e.kind e in
    omega (arith, one, so_far, ap (total (leaving token)) (drop_more events number d within))

-- Which events a meeting appends: best orders first, and of whom.
use Rattle.std.specs.Prelude.{◌≡◌, ◌≢◌, List, [], ◌∷◌, Option, Some, None, All, false, ⊤}
use Rattle.dex_types.specs.declared.addresses.Address.{Address}
use Rattle.dex_types.specs.declared.terms.Side.{Side}
use Rattle.dex_types.specs.QueuedEvent.{QueuedEvent, EventKind, MakerFill, TakerFill, PlainOut, ReleasingOut}
use Rattle.dex_types.specs.Side.{precedes}

-- no event is of an order that stands before that of an earlier event
abbrev pub IsBestFirst : Side → List QueuedEvent → Type 0
IsBestFirst side [] = ⊤
IsBestFirst side (event ∷ later) = All (λ e. precedes side e.id event.id ≡ false) later × IsBestFirst side later

-- a fill is of another trader's order, and a release of the taker's own
abbrev pub MeetsOwnerAs : EventKind → Address → Address → Type 0
MeetsOwnerAs (MakerFill side) taker owner = owner ≢ taker
MeetsOwnerAs (PlainOut side) taker owner = owner ≢ taker
MeetsOwnerAs (ReleasingOut side) taker owner = owner ≡ taker
MeetsOwnerAs (TakerFill side) taker owner = ⊥

-- events of fills alone, as of a taker without an owner
abbrev pub IsFillOrOutAs : EventKind → Type 0
IsFillOrOutAs (MakerFill side) = ⊤
IsFillOrOutAs (PlainOut side) = ⊤
IsFillOrOutAs kind = ⊥

-- what the events of a taker with this owner, or with none, can be
abbrev pub FitsOwner : Option Address → QueuedEvent → Type 0
FitsOwner None event = IsFillOrOutAs event.kind
FitsOwner (Some taker) event = MeetsOwnerAs event.kind taker event.owner

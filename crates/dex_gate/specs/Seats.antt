-- How a pass lies at its seat.
use Rattle.std.specs.Prelude.{◌≡◌, ℕ, List, [], ◌∷◌, Option, Some, None}
use Rattle.atomic_table.specs.Table.{Me}
use Rattle.atomic_table.specs.Seated.{TableId}
use Rattle.dex_gate.specs.declared.board.Card.{Card}
use Rattle.dex_gate.specs.declared.board.View.{View}
use Rattle.dex_gate.specs.declared.stage.Stage.{Stage}
use Rattle.dex_gate.specs.declared.stage.Stage.TheVariants.{Idle, Waiting, Out}
use Rattle.dex_gate.specs.GateView.{GateView}
use Rattle.dex_gate.specs.PassView.{PassView}
use Rattle.dex_gate.specs.History.{Extends, AddsOne}
use Rattle.dex_gate.specs.Steps.{lone, after_turn, Shows}

-- what the seat has in hand: while the turn is out, the empty slot
abbrev pub hand_of : {V E : Type 0} → Stage E → List (ℕ × Option V)
hand_of Idle = []
hand_of Waiting = []
hand_of (Out held) = (0, None) ∷ []

module _ {E O : Type 0} where
  -- the gate at this table, as a card tells it
  abbrev pub gate_view : TableId → Card E O → GateView E O
  gate_view z c = record { table = z; passes = c.until; origin = c.origin; opening = c.opening }

  -- what contracts see, from a card and a stage
  abbrev pub shown : TableId → Card E O → Stage E → PassView E O
  shown z c stage = record { gate = Some (gate_view z c); number = c.number; next = c.next; until = c.until; seen = c.seen; mine = c.mine; stage = stage }

  abbrev pub shown_by : TableId → List (Card E O) → Stage E → PassView E O
  shown_by z [] stage = record { gate = None; number = 0; next = 0; until = 0; seen = []; mine = []; stage = stage }
  shown_by z (c ∷ cs) stage = shown z c stage

  abbrev pub pass_view : TableId → View E O → PassView E O
  pass_view z v = shown_by z v.cards v.stage

  -- the card of a pass of this gate
  abbrev pub shown_card : GateView E O → PassView E O → Card E O
  shown_card g p = record { number = p.number; next = p.next; until = p.until; origin = g.origin; opening = g.opening; seen = p.seen; mine = p.mine }

  -- what the seat of a pass knows and has in hand
  abbrev pub posed : {V : Type 0} → Card E O → ℕ → Stage E → Me (Option V) (View E O)
  posed c ticket stage = (lone c ticket stage, hand_of stage)

  -- the seat has one card, this ticket and nothing in hand but its own slot
  abbrev pub IsPass : {V : Type 0} → ℕ → Me (Option V) (View E O) → Type 0
  IsPass ticket m = (c : Card E O) × (m ≡ posed c ticket m.0.stage)

  -- this is the seat of the pass, whichever gate it is of
  abbrev pub IsSeatOf : {V : Type 0} → PassView E O → TableId → Me (Option V) (View E O) → Type 0
  IsSeatOf p z m = (g : GateView E O) → p.gate ≡ Some g → (z ≡ g.table) × (m.0.cards ≡ shown_card g p ∷ []) × (m.0.stage ≡ p.stage) × (m.1 ≡ hand_of p.stage)

  -- the seat is that of a pass which waits with this ticket
  abbrev pub IsWaiting : {V : Type 0} → ℕ → Me (Option V) (View E O) → Type 0
  IsWaiting ticket m = (c : Card E O) × (m ≡ posed c ticket Waiting)

module _ {V E O : Type 0} (entries : V → List E) (lane : E → ℕ) (origin : V → O) where
  -- the turn is out with the value x, of which the card knew this
  pub record Takes (c : Card E O) (ticket : ℕ) (after : Me (Option V) (View E O)) (x : V) : Type 0 where
    pub posed_so : after ≡ posed c ticket (Out (entries x))
    pub shows : Shows entries lane origin c x

  -- whichever card waited with this ticket, its turn is out with the value x
  abbrev pub TakesTurn : ℕ → Me (Option V) (View E O) → Me (Option V) (View E O) → V → Type 0
  TakesTurn ticket before after x = (c : Card E O) → before ≡ posed c ticket Waiting → Takes c ticket after x

  -- the turn of the seat's card is out, and the value has one entry more of its number
  pub record MayPassOn (before : Me (Option V) (View E O)) (x : V) : Type 0 where
    pub card : Card E O
    pub ticket : ℕ
    pub start : List E
    pub posed_so : before ≡ posed card ticket (Out start)
    pub one_more : AddsOne lane card.number start (entries x)
    pub same_origin : origin x ≡ card.origin

module _ {V E O : Type 0} (entries : V → List E) where
  -- whichever card had its turn out, it has seen the list of x, and its entry is one more of its own
  abbrev pub PassesTurn : Me (Option V) (View E O) → Me (Option V) (View E O) → V → Type 0
  PassesTurn before after x = (c : Card E O) (ticket : ℕ) (start : List E) → before ≡ posed c ticket (Out start)
      → (after ≡ posed (after_turn c start (entries x)) ticket Idle) × Extends c.seen (entries x)

-- the table has two words and one slot
abbrev pub IsBoard : TableId → Type 0
IsBoard z = (z.words ≡ 2) × (z.slots ≡ 1)

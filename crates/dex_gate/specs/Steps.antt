-- What each step on the table does to a pass's view, and what it tells.
use Rattle.std.specs.Prelude.{◌≡◌, ◌≢◌, ℕ, ◌+◌, List, [], ◌∷◌, ◌++◌, Option, Some}
use Rattle.atomic_table.specs.Table.{Me, Step}
use Rattle.dex_gate.specs.declared.board.Card.{Card}
use Rattle.dex_gate.specs.declared.board.View.{View}
use Rattle.dex_gate.specs.declared.stage.Stage.{Stage}
use Rattle.dex_gate.specs.declared.stage.Stage.TheVariants.{Idle, Waiting, Out}
use Rattle.dex_gate.specs.History.{added, Extends, of_lane}

module _ {E O : Type 0} where
  -- the view of a pass: it has one card
  abbrev pub lone : Card E O → ℕ → Stage E → View E O
  lone c ticket stage = record { cards = c ∷ []; ticket = ticket; stage = stage }

  -- the cards of the pass that hands out a number
  abbrev pub handing_cards : List (Card E O) → List (Card E O)
  handing_cards [] = []
  handing_cards (c ∷ cs) = record c { next = c.next + 1 } ∷ cs

  abbrev pub handing : View E O → View E O
  handing v = record v { cards = handing_cards v.cards }

  -- the card of a new pass: it has seen as much, and made nothing
  abbrev pub new_card : Card E O → Card E O
  new_card c = record c { number = c.next; next = c.until; mine = [] }

  abbrev pub handed_cards : List (Card E O) → List (Card E O)
  handed_cards [] = []
  handed_cards (c ∷ cs) = new_card c ∷ []

  abbrev pub handed : View E O → View E O
  handed v = record { cards = handed_cards v.cards; ticket = 0; stage = Idle }

  -- the view that takes in another's cards
  abbrev pub joined : View E O → View E O → View E O
  joined v w = record v { cards = w.cards ++ v.cards }

  -- the view of a pass that was taken in
  abbrev pub spent : View E O
  spent = record { cards = []; ticket = 0; stage = Idle }

  -- the card after a turn from one list to another
  abbrev pub after_turn : Card E O → List E → List E → Card E O
  after_turn c before after = record c { seen = after; mine = c.mine ++ added before after }

  -- a ticket was drawn
  abbrev pub Draws : {S : Type 0} → Step S → Me S (View E O) → ℕ → Me S (View E O) → Type 0
  Draws st m n m' = m' ≡ (record m.0 { ticket = n; stage = Waiting }, m.1)

module _ {V E O : Type 0} (entries : V → List E) (lane : E → ℕ) (origin : V → O) where
  -- the value in the slot is the one that the card speaks of: its list goes on from what was seen, and the entries of
  -- the card's number are its own
  pub record Shows (c : Card E O) (x : V) : Type 0 where
    pub same_origin : origin x ≡ c.origin
    pub begins : Extends c.opening (entries x)
    pub seen : Extends c.seen (entries x)
    pub mine : of_lane lane c.number (added c.opening (entries x)) ≡ c.mine

  -- where the word is the ticket, the slot was taken and the mark set, and else nothing was done
  abbrev pub Looks : Step (Option V) → Me (Option V) (View E O) → ℕ → Me (Option V) (View E O) → Type 0
  Looks st m n m' = (c : Card E O) (t : ℕ) → m ≡ (lone c t Waiting, [])
      → (n ≡ t → (x : V) × (m' ≡ (lone c t (Out (entries x)), (0, Some x) ∷ [])) × Shows c x) × (n ≢ t → m' ≡ m)

module _ {V E O : Type 0} (entries : V → List E) where
  -- the slot was given back with the value x: the ticket and the mark are gone, and the card has seen the list of x
  abbrev pub PassesOn : Step (Option V) → Me (Option V) (View E O) → ℕ → Me (Option V) (View E O) → Type 0
  PassesOn st m n m' = (c : Card E O) (t : ℕ) (held : List E) (x : V) → m ≡ (lone c t (Out held), (0, Some x) ∷ [])
      → (m' ≡ (lone (after_turn c held (entries x)) t Idle, [])) × Extends c.seen (entries x)

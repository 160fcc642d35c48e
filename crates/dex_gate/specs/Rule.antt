-- The gate's rule: a fact about the two words, the slot and what all passes know, which holds between any two steps.
use Rattle.std.specs.Prelude.{◌≡◌, ℕ, ◌+◌, ◌-◌, ◌<◌, ◌≤◌, List, [], ◌∷◌, length, sum_by, All, Option, Some}
use mathlib.Core.Option.{some}
use lib.ListN.{get_elem?}
use Rattle.atomic_table.specs.Table.{State}
use Rattle.dex_gate.specs.declared.TheConstants.{PASSES}
use Rattle.dex_gate.specs.declared.board.Card.{Card}
use Rattle.dex_gate.specs.declared.board.View.{View}
use Rattle.dex_gate.specs.declared.stage.Stage.{Stage}
use Rattle.dex_gate.specs.declared.stage.Stage.TheVariants.{Idle, Waiting, Out}
use Rattle.dex_gate.specs.History.{added, Extends, of_lane}

-- 1 where the two numbers are equal, and else 0
abbrev pub same : ℕ → ℕ → ℕ
same a b = 1 - ((a - b) + (b - a))

-- 1 where n is at least low and below high, and else 0
abbrev pub within : ℕ → ℕ → ℕ → ℕ
within low high n = 1 - ((low - n) + (n + 1 - high))

module _ {E : Type 0} where
  -- 1 where the stage has a ticket
  abbrev pub has_ticket : Stage E → ℕ
  has_ticket Idle = 0
  has_ticket Waiting = 1
  has_ticket (Out held) = 1

  -- 1 where the stage has a ticket, and the ticket n is t
  abbrev pub has_that : Stage E → ℕ → ℕ → ℕ
  has_that Idle n t = 0
  has_that Waiting n t = same n t
  has_that (Out held) n t = same n t

  -- the mark: the turn is out
  abbrev pub IsOut : Stage E → Type 0
  IsOut Idle = ⊥
  IsOut Waiting = ⊥
  IsOut (Out held) = Unit {0}

  -- with the mark the ticket is the one that is served, and the list at the start of the turn is still the history
  abbrev pub IsServed : List E → ℕ → Stage E → Type 0
  IsServed history ticket Idle = Unit {0}
  IsServed history ticket Waiting = Unit {0}
  IsServed history ticket (Out held) = (ticket ≡ length history) × (held ≡ history)

module _ {E O : Type 0} where
  -- 1 where k is the card's number or one that it may hand out, and else 0
  abbrev pub claim : ℕ → Card E O → ℕ
  claim k c = same c.number k + within c.next c.until k

  -- how many of the view's cards have k or may hand it out
  abbrev pub claims : ℕ → View E O → ℕ
  claims k v = sum_by (claim k) v.cards

  -- how many numbers the view's cards have and may hand out
  abbrev pub room : View E O → ℕ
  room v = sum_by (λ c. 1 + (c.until - c.next)) v.cards

  -- the number of tickets in a view
  abbrev pub tickets : View E O → ℕ
  tickets v = has_ticket v.stage

  -- how often the ticket t stands in a view
  abbrev pub times : ℕ → View E O → ℕ
  times t v = has_that v.stage v.ticket t

  -- no view has the mark
  abbrev pub NoneOut : List (View E O) → Type 0
  NoneOut views = (j : ℕ) (v : View E O) → get_elem? views j ≡ some v → ¬ IsOut v.stage

  -- what was seen is a beginning of the history; of the entries past the opening list, those of the card's number are
  -- its own, and no entry has a number that is not handed out
  pub record IsTrueCard (lane : E → ℕ) (start : O) (opening history : List E) (c : Card E O) : Type 0 where
    pub same_origin : c.origin ≡ start
    pub same_opening : c.opening ≡ opening
    pub seen : Extends c.seen history
    pub mine : of_lane lane c.number (added opening history) ≡ c.mine
    pub none_yet : (k : ℕ) → c.next ≤ k → k < c.until → of_lane lane k (added opening history) ≡ []

  -- each card is true, a turn that is out is the one that is served, and a view with a ticket has a card
  pub record IsTrueView (lane : E → ℕ) (start : O) (opening history : List E) (v : View E O) : Type 0 where
    pub cards : All (IsTrueCard lane start opening history) v.cards
    pub served : IsServed history v.ticket v.stage
    pub carded : tickets v ≤ length v.cards

module _ {V E O : Type 0} (entries : V → List E) (origin : V → O) (opened : V) where
  -- what the first pass knows
  abbrev pub first_view : ℕ → View E O
  first_view passes = record {
    cards = record { number = 0; next = 1; until = passes; origin = origin opened; opening = entries opened; seen = entries opened; mine = [] } ∷ [];
    ticket = 0;
    stage = Idle;
  }

  -- the value has the origin of the start, and the history for its list
  abbrev pub IsTrueValue : List E → V → Type 0
  IsTrueValue history x = (entries x ≡ history) × (origin x ≡ origin opened)

module _ {V E O : Type 0} (entries : V → List E) (lane : E → ℕ) (origin : V → O) (opened : V) (passes : ℕ) where
  -- there is one history, which the opening list begins. As many turns were passed on as it has entries, and the
  -- tickets that are out are the numbers from there to the next ticket, each once. The numbers of passes are those
  -- below the count, each once. The value is at home, with the whole history, unless a turn is out
  pub record Kept (s : State (Option V) (View E O)) : Type 0 where
    pub history : List E
    pub few : passes ≤ PASSES
    pub bounded : length history < 9223372036854775808
    pub begins : Extends (entries opened) history
    pub lanes : All (λ e. lane e < passes) (added (entries opened) history)
    pub words : s.words ≡ (length history + sum_by tickets s.views) ∷ length history ∷ []
    pub each_ticket : (t : ℕ) → sum_by (times t) s.views ≡ within (length history) (length history + sum_by tickets s.views) t
    pub each_number : (k : ℕ) → sum_by (claims k) s.views ≡ within 0 passes k
    pub all_room : sum_by room s.views ≡ passes
    pub each_view : (j : ℕ) (v : View E O) → get_elem? s.views j ≡ some v → IsTrueView lane (origin opened) (entries opened) history v
    pub home : NoneOut s.views → (x : V) × (get_elem? s.homes 0 ≡ some (some (Some x))) × IsTrueValue entries origin opened history x

  -- what is known of the value at the end, beside these cards
  pub record IsEnd (cards : List (Card E O)) (x : V) : Type 0 where
    pub same_origin : origin x ≡ origin opened
    pub begins : Extends (entries opened) (entries x)
    pub lanes : All (λ e. lane e < passes) (added (entries opened) (entries x))
    pub true_cards : All (IsTrueCard lane (origin opened) (entries opened) (entries x)) cards

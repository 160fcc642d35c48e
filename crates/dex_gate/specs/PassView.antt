-- What contracts see of a pass.
use Rattle.std.specs.Prelude.{◌≡◌, ℕ, ◌<◌, ◌≤◌, ◌⊎◌, List, [], Any, Option, Some}
use Rattle.dex_gate.specs.declared.stage.Stage.{Stage}
use Rattle.dex_gate.specs.declared.stage.Stage.TheVariants.{Idle}
use Rattle.dex_gate.specs.GateView.{GateView}

-- its gate (each pass has one), its number, the numbers from next on that it may hand out (those below until), the
-- history that it has seen, the entries that it made, and whether it holds a ticket or has a turn out
pub record PassView (E O : Type 0) : Type 0 where
  pub gate : Option (GateView E O)
  pub number : ℕ
  pub next : ℕ
  pub until : ℕ
  pub seen : List E
  pub mine : List E
  pub stage : Stage E

module _ {E O : Type 0} where
  -- the pass that a gate is opened with: it may hand out all other numbers
  abbrev pub first_pass : GateView E O → PassView E O
  first_pass g = record { gate = Some g; number = 0; next = 1; until = g.passes; seen = g.opening; mine = []; stage = Idle }

  -- the pass that is handed out next: it has seen as much, made nothing, and has no number to hand out
  abbrev pub next_pass : PassView E O → PassView E O
  next_pass p = record { gate = p.gate; number = p.next; next = p.until; until = p.until; seen = p.seen; mine = []; stage = Idle }

  -- it has this number, or may still hand it out
  abbrev pub Accounts : ℕ → PassView E O → Type 0
  Accounts k p = (p.number ≡ k) ⊎ ((p.next ≤ k) × (k < p.until))

  -- each number below the count is that of one of these passes, or one of them may still hand it out
  abbrev pub AreAll : ℕ → List (PassView E O) → Type 0
  AreAll count passes = (k : ℕ) → k < count → Any (Accounts k) passes

-- a pass of this gate, with this number, that holds no ticket
abbrev pub IsIdle : {E O : Type 0} → GateView E O → ℕ → PassView E O → Type 0
IsIdle gate number pass = (pass.gate ≡ Some gate) × (pass.number ≡ number) × (pass.stage ≡ Idle)

-- What a desk in memory keeps.
use Rattle.std.specs.Prelude.{◌≡◌, ◌≤◌, ℕ, List, [], ◌∷◌, ◌++◌, length}
use Rattle.dex_desk.specs.declared.list_desk.Call.{Call}
use Rattle.dex_desk.specs.declared.list_desk.Call.TheVariants as call
use Rattle.dex_desk.specs.Turns.{Turn}
use Rattle.dex_desk.specs.Turns.Turn.{Heard, Said}

-- the turn that a call is
abbrev pub turn_of : Call → Turn
turn_of (call.Heard bytes) = Heard bytes.items
turn_of (call.Said bytes) = Said bytes.items

-- all that it is to hear, how much of it at a time at most, its turns, and how many of its calls failed
pub record DeskState : Type 0 where
  pub input : List ℕ
  pub most : ℕ
  pub turns : List Turn
  pub deaf : ℕ
  pub mute : ℕ

-- what it tells: in front of its turns, as one, what no call changes: how much it hears at a time, and all that it is
-- to hear
abbrev pub turns_told : DeskState → List Turn
turns_told state = Heard (state.most ∷ state.input) ∷ state.turns

-- turns heard these bytes from the front on, in blocks of so many at most, and this is left; one that heard nothing
-- heard the end
abbrev pub AreBlocksOf : ℕ → List Turn → List ℕ → List ℕ → Type 0
AreBlocksOf most [] bytes left = bytes ≡ left
AreBlocksOf most (Heard block ∷ turns) bytes left =
    (rest : List ℕ) × (bytes ≡ block ++ rest) × (length block ≤ most) × (block ≡ [] → rest ≡ [])
    × AreBlocksOf most turns rest left
AreBlocksOf most (Said text ∷ turns) bytes left = AreBlocksOf most turns bytes left

-- what was heard of these bytes is a front of them, in such blocks
abbrev pub HaveHeard : ℕ → List Turn → List ℕ → Type 0
HaveHeard most turns bytes = (left : List ℕ) × AreBlocksOf most turns bytes left

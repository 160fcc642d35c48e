-- Pieces of rows, and what is read of them.
use Rattle.std.specs.Prelude.{◌≡◌, ℕ, List, ◌+◌, ◌≤◌, Ok, IfOk, IsOkAnd}
use Rattle.std.specs.List.{flat_map}
use Rattle.dex_statement.specs.Words.{Fields}
use Rattle.dex_script.specs.Drafts.{PlainDraft}
use Rattle.dex_script.specs.Pieces.{beside, number_after}
use Rattle.dex_script.specs.Scripts.{draft_after}
use Rattle.dex_script.specs.Telling.{TellsDraft}
use Rattle.dex_script_pieces.specs.declared.piece.Piece.{Piece}

-- the rows of pieces, one after the other
abbrev pub rows_of : List Piece → List Fields
rows_of pieces = flat_map (λ (piece : Piece). piece.rows) pieces

-- a piece was read: what its reader says now is what its rows leave after what it said before
pub record ReadsPiece (before after : Piece) : Type 0 where
  pub rows : after.rows ≡ before.rows
  pub number : after.number ≡ before.number
  pub clock : after.clock ≡ before.clock
  pub told : IfOk before.reader (λ reader. TellsDraft after.reader (draft_after reader before.number before.rows))
  pub behind : IfOk after.reader (λ reader. after.after ≡ number_after before.number before.rows)

-- a piece that is not read yet, of the markets and wallets of this draft
abbrev pub IsBeside : PlainDraft → Piece → Type 0
IsBeside draft piece = piece.reader ≡ Ok (beside draft piece.clock)

-- where a piece was read without a fault, it has what its rows leave of a draft of the same markets and wallets
abbrev pub HasRead : PlainDraft → Piece → Type 0
HasRead draft piece =
    IfOk piece.reader (λ read. (draft_after (beside draft piece.clock) piece.number piece.rows ≡ Ok read)
    × (piece.after ≡ number_after piece.number piece.rows))

-- a piece was read without a fault, and stands after a draft and its rows, of which the next has this number
abbrev pub IsNext : PlainDraft → ℕ → Piece → Type 0
IsNext draft number piece =
    (piece.number ≡ number) × (piece.clock ≡ draft.clock) × IsOkAnd piece.reader (λ read. draft.items + read.items ≤ draft.script.limits.items)

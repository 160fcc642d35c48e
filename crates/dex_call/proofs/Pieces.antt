-- Pieces that are written one behind the other.
use Rattle.std.proofs.Common.{◌≡◌, ◌∙◌, ◌+◌, ◌<◌, ◌≤◌, ◌++◌, ℕ, zero, suc, List, [], ◌∷◌, ap, append_assoc, arith, drop, get_or, length, length-append, refl, sym, take}
use Rattle.std.specs.List.{flat_map}
use Rattle.std.proofs.Math.Seq.{take-append_seam}
use Rattle.std.proofs.lemmas.List.{length-drop}
use Rattle.std.proofs.lemmas.Slice.{drop-append-drop}
use Rattle.dex_dump.specs.Pieces.{piece_text}
use Rattle.dex_dump.specs.declared.pieces.Piece.{Piece}

-- a piece is a part of the whole text
pub inside-whole : (pieces : List Piece) (i : ℕ) (piece : Piece) → i < length pieces → piece ≡ get_or pieces i piece
    → length (flat_map piece_text (take i pieces)) + length (piece_text piece) ≤ length (flat_map piece_text pieces)
inside-whole [] i piece inside is = absurd (omega (arith, inside))
inside-whole (p ∷ pieces) zero piece inside is =
    let whole = ap (λ (q : Piece). length (piece_text q)) is in
    omega (arith, whole, length-append (piece_text p) (flat_map piece_text pieces))
inside-whole (p ∷ pieces) (suc i) piece inside is =
    let rest = inside-whole pieces i piece (omega (arith, inside)) is in
    omega (arith, rest, length-append (piece_text p) (flat_map piece_text pieces), length-append (piece_text p) (flat_map piece_text (take i pieces)))

-- there is room for it
pub room-left : (front piece initial room : List ℕ) (place whole : ℕ) → place ≡ length front → room ≡ front ++ drop (length front) initial
    → length front + length piece ≤ whole → whole ≤ length initial → place + length piece ≤ length room
room-left front piece initial room place whole at is part fits =
    let long = ap (λ (t : List ℕ). length t) is in
    omega (arith, at, long, length-append front (drop (length front) initial), length-drop (length front) initial, part, fits)

-- what a piece more in the room leaves
pub record IsPut (front piece initial : List ℕ) (place : ℕ) (room whole : List ℕ) : Type 0 where
  pub end : place + length piece ≡ length whole
  pub text : take place room ++ (piece ++ drop (place + length piece) room) ≡ whole ++ drop (length whole) initial

pub put-more : (front piece initial room whole : List ℕ) (place : ℕ) → place ≡ length front → room ≡ front ++ drop (length front) initial
    → whole ≡ front ++ piece → IsPut front piece initial place room whole
put-more front piece initial room whole place at is more =
    let long = ap (λ (t : List ℕ). length t) more in
    let end : place + length piece ≡ length whole = omega (arith, at, long, length-append front piece) in
    record {
      end = end;
      text =
          ap (λ (t : List ℕ). t ++ (piece ++ drop (place + length piece) room))
          (ap (λ (n : ℕ). take n room) at ∙ ap (take (length front)) is ∙ take-append_seam front (drop (length front) initial))
          ∙ ap (λ (t : List ℕ). front ++ (piece ++ t))
          (ap (drop (place + length piece)) is ∙ drop-append-drop (length front) initial front (place + length piece) (omega (arith, at)) refl
          ∙ ap (λ (n : ℕ). drop n initial) end)
          ∙ sym (append_assoc front piece (drop (length whole) initial)) ∙ ap (λ (t : List ℕ). t ++ drop (length whole) initial) (sym more);
    }

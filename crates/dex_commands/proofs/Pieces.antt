-- Pieces that are written one after the other, and what was written where a write failed.
use Rattle.std.proofs.Common.{◌≡◌, ◌∙◌, ◌+◌, ◌<◌, ◌≤◌, ◌++◌, ℕ, zero, suc, List, [], ◌∷◌, Option, ap, append-nil, append_assoc, arith, get_or, inl, inr, length, length-append, refl, subst, sym, take}
use Rattle.std.specs.List.{flat_map}
use Rattle.std.specs.Io.KnownBytes.{append_known}
use Rattle.std.proofs.lemmas.List.{take-append-le}
use Rattle.dex_dump.specs.Pieces.{piece_text}
use Rattle.dex_dump.specs.declared.pieces.Piece.{Piece}
use Rattle.dex_io.specs.Faults.{Rose}
use Rattle.dex_io.proofs.Known.{append_known-append_known}

-- the pieces as one text
abbrev pub text_of : List Piece → List ℕ
text_of pieces = flat_map piece_text pieces

none-before : (count : ℕ) → 0 + count ≡ count
none-before count = omega arith

length-cons : (b : ℕ) (front : List ℕ) → length (b ∷ front) ≡ suc (length front)
length-cons b front = refl

take-behind : (front rest : List ℕ) (count : ℕ) → take (length front + count) (front ++ rest) ≡ front ++ take count rest
take-behind [] rest count = ap (λ (n : ℕ). take n rest) (none-before count)
take-behind (b ∷ front) rest count =
    let longer : length (b ∷ front) + count ≡ suc (length front + count) = omega (arith, length-cons b front) in
    ap (λ (n : ℕ). take n (b ∷ (front ++ rest))) longer ∙ ap (λ (t : List ℕ). b ∷ t) (take-behind front rest count)

-- a part of a piece after those before it is a front of the text
front-of-text : (pieces : List Piece) (i : ℕ) (piece : Piece) (sent : ℕ) → i < length pieces → piece ≡ get_or pieces i piece
    → sent < length (piece_text piece)
    → (text_of (take i pieces) ++ take sent (piece_text piece) ≡ take (length (text_of (take i pieces)) + sent) (text_of pieces))
    × (length (text_of (take i pieces)) + sent < length (text_of pieces))
front-of-text [] i piece sent inside is short = absurd (omega (arith, inside))
front-of-text (p ∷ pieces) zero piece sent inside is short =
    let whole = ap piece_text is in (
      ap (λ (t : List ℕ). take sent t) whole ∙ sym (take-append-le sent (piece_text p) (text_of pieces) (subst (λ (t : List ℕ). sent ≤ length t) whole (omega (arith, short))))
          ∙ ap (λ (n : ℕ). take n (piece_text p ++ text_of pieces)) (sym (none-before sent)),
      omega (arith, short, ap (λ (t : List ℕ). length t) whole, length-append (piece_text p) (text_of pieces)),
    )
front-of-text (p ∷ pieces) (suc i) piece sent inside is short =
    let rest = front-of-text pieces i piece sent (omega (arith, inside)) is short in
    let before = text_of (take i pieces) in
    let longer : length (piece_text p ++ before) + sent ≡ length (piece_text p) + (length before + sent) = omega (arith, length-append (piece_text p) before) in (
      append_assoc (piece_text p) before (take sent (piece_text piece)) ∙ ap (λ (t : List ℕ). piece_text p ++ t) rest.0
          ∙ sym (take-behind (piece_text p) (text_of pieces) (length before + sent)) ∙ ap (λ (n : ℕ). take n (piece_text p ++ text_of pieces)) (sym longer),
      omega (arith, rest.1, longer, length-append (piece_text p) (text_of pieces)),
    )

-- the pieces up to one, and that one
pub text-more : (pieces : List Piece) (i : ℕ) (piece : Piece) → i < length pieces → piece ≡ get_or pieces i piece
    → text_of (take (suc i) pieces) ≡ text_of (take i pieces) ++ piece_text piece
text-more [] i piece inside is = absurd (omega (arith, inside))
text-more (p ∷ pieces) zero piece inside is = append-nil (piece_text p) ∙ ap piece_text (sym is)
text-more (p ∷ pieces) (suc i) piece inside is =
    ap (λ (t : List ℕ). piece_text p ++ t) (text-more pieces i piece (omega (arith, inside)) is)
    ∙ sym (append_assoc (piece_text p) (text_of (take i pieces)) (piece_text piece))

-- what was written when one more piece was
pub written-more : (known mid new : Option (List ℕ)) (pieces : List Piece) (i next : ℕ) (piece : Piece) → next ≡ suc i → i < length pieces
    → piece ≡ get_or pieces i piece → mid ≡ append_known known (text_of (take i pieces)) → new ≡ append_known mid (piece_text piece)
    → new ≡ append_known known (text_of (take next pieces))
written-more known mid new pieces i next piece more inside is before then =
    then ∙ ap (λ (m : Option (List ℕ)). append_known m (piece_text piece)) before ∙ append_known-append_known known _ _
    ∙ ap (append_known known) (sym (ap (λ (n : ℕ). text_of (take n pieces)) more ∙ text-more pieces i piece inside is))

-- what was written where a write of a piece failed
pub stopped-at : (known mid new : Option (List ℕ)) (pieces : List Piece) (i : ℕ) (piece : Piece) (sent : ℕ) → i < length pieces
    → piece ≡ get_or pieces i piece → sent < length (piece_text piece) → mid ≡ append_known known (text_of (take i pieces)) → new ≡ append_known mid (take sent (piece_text piece))
    → (count : ℕ) × (count < length (text_of pieces)) × (new ≡ append_known known (take count (text_of pieces)))
stopped-at known mid new pieces i piece sent inside is short before then =
    let placed = front-of-text pieces i piece sent inside is short in (
      length (text_of (take i pieces)) + sent,
      placed.1,
      then ∙ ap (λ (m : Option (List ℕ)). append_known m (take sent (piece_text piece))) before ∙ append_known-append_known known _ _ ∙ ap (append_known known) placed.0,
    )

-- a count of faults that rose since a later call rose since an earlier one
pub rose-since : (old mid new : ℕ) → old ≤ mid → Rose mid new → Rose old new
rose-since old mid new later (inl more) = inl (omega (arith, later, more))
rose-since old mid new later (inr stays) = inr stays

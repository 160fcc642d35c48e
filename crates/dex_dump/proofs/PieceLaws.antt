-- What is written after a text in pieces.
use Rattle.std.proofs.Common.{◌≡◌, ◌++◌, ◌∙◌, ℕ, List, [], ◌∷◌, ap, append-nil, append_assoc, sym}
use Rattle.std.proofs.lemmas.Grind.{flat_map-append}
use Rattle.std.specs.List.{flat_map}
use Rattle.dex_dump.specs.Pieces.{piece_text, zeros_text}
use Rattle.dex_dump.specs.declared.pieces.Piece.{Piece}
use Rattle.dex_dump.specs.declared.pieces.Piece.TheVariants.{Zeros}

-- after the last piece is after the text
pub behind : (done last part all : List ℕ) → all ≡ last ++ part → done ++ all ≡ (done ++ last) ++ part
behind done last part all is = ap (λ (t : List ℕ). done ++ t) is ∙ sym (append_assoc done last part)

-- a part more after what a text became
pub more : (text before all part : List ℕ) → all ≡ before ++ part → before ≡ text → all ≡ text ++ part
more text before all part is was = is ∙ ap (λ (t : List ℕ). t ++ part) was

-- a piece of zeros after pieces, where nothing stands after them yet
pub zeros-behind : (done all : List Piece) (last text : List ℕ) → all ≡ done ++ (Zeros ∷ []) → last ≡ [] → flat_map piece_text done ++ last ≡ text
    → flat_map piece_text all ++ last ≡ text ++ zeros_text
zeros-behind done all last text is none was =
    let text_of = λ (pieces : List Piece). flat_map piece_text pieces in
    let before = sym (append-nil (text_of done)) ∙ ap (λ (t : List ℕ). text_of done ++ t) (sym none) ∙ was in
    ap (λ (t : List ℕ). text_of all ++ t) none ∙ append-nil (text_of all) ∙ ap text_of is ∙ flat_map-append piece_text done (Zeros ∷ [])
    ∙ ap (λ (t : List ℕ). text_of done ++ t) (append-nil zeros_text) ∙ ap (λ (t : List ℕ). t ++ zeros_text) before

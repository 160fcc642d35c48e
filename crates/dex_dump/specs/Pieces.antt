-- A text in pieces.
use Rattle.std.specs.Prelude.{ℕ, List, ◌++◌, replicate}
use Rattle.std.specs.List.{flat_map}
use Rattle.dex_dump.specs.declared.pieces.Piece.{Piece}
use Rattle.dex_dump.specs.declared.pieces.Piece.TheVariants.{Bytes, Zeros}
use Rattle.dex_dump.specs.declared.pieces.Pieces.{Pieces}

-- the text of a piece of zeros
unfoldable pub zeros_text : List ℕ
zeros_text = replicate 65536 65

-- the text of a piece
abbrev pub piece_text : Piece → List ℕ
piece_text (Bytes bytes) = bytes.items
piece_text Zeros = zeros_text

-- the pieces, one after the other
abbrev pub text_in : Pieces → List ℕ
text_in text = flat_map piece_text text.done.items ++ text.last.items

-- A text in pieces.
use Rattle.std.specs.Prelude.{ℕ, List}
use Rattle.std.specs.List.{flat_map}
use Rattle.dex_dump.specs.Pieces.{piece_text}
use Rattle.dex_answers.specs.declared.told.StatusText.{StatusText}

-- the pieces, one after the other
abbrev pub text_of : StatusText → List ℕ
text_of told = flat_map piece_text told.pieces.items

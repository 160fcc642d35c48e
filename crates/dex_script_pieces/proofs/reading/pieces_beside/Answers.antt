use Rattle.std.proofs.Common.{◌∙◌, ◌++◌, [], ◌∷◌, List, ap, append_assoc, sym}
use Rattle.std.proofs.lemmas.List.Elements.{All-push, All-same}
use Rattle.dex_statement.specs.Words.{Fields}
use Rattle.dex_script_pieces.specs.declared.piece.Piece.{Piece}
use Rattle.dex_script_pieces.specs.Pieces.{IsBeside, rows_of}
use Rattle.dex_script_pieces.proofs.Behind.{rows-more}
use Rattle.dex_script_pieces.proofs.reading.pieces_beside.Goals as goal

pub pieces-preserved : goal.pieces-preserved
pieces-preserved c =
    let piece = c.in_ok-piece_beside.field-0 in
    let before = c.pieces.pieces.items in
    record {
      rows =
          ap (λ (ps : List Piece). rows_of ps ++ c.cut-left.result) c.in_ok-push.ensures.items
          ∙ ap (λ (rows : List Fields). rows ++ c.cut-left.result) (rows-more before piece ∙ ap (λ (rows : List Fields). rows_of before ++ rows) c.in_ok-piece_beside.ensures.rows)
          ∙ append_assoc (rows_of before) c.cut-left.new.self c.cut-left.result
          ∙ ap (λ (rows : List Fields). rows_of before ++ rows) (sym c.cut-left.ensures)
          ∙ c.pieces.invariant.rows;
      beside = All-same (IsBeside c.args.reader.now) c.push.new.self.items (before ++ piece ∷ []) c.in_ok-push.ensures.items
          (All-push (IsBeside c.args.reader.now) before piece c.pieces.invariant.beside c.in_ok-piece_beside.ensures.beside);
    }

pub returns-clause-beside : goal.returns-clause-beside
returns-clause-beside c =
    let piece = c.in_ok-piece_beside-2.field-0 in
    All-same (IsBeside c.args.reader.now) c.push-2.new.self.items (c.pieces.pieces.items ++ piece ∷ []) c.in_ok-push-2.ensures.items
    (All-push (IsBeside c.args.reader.now) c.pieces.pieces.items piece c.pieces.invariant.beside c.in_ok-piece_beside-2.ensures.beside)

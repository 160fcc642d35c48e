use Rattle.std.proofs.Common.{◌∙◌, sym}
use Rattle.dex_dump.proofs.ZeroLaws.{piece-of-zeros}
use Rattle.dex_dump.proofs.writing.write_piece.Goals as goal

pub returns-then-is_blank : goal.returns-then-is_blank
returns-then-is_blank c =
    rw (piece-of-zeros c.args.piece.now c.if-piece-eq768.true (sym c.is_blank.ensures ∙ c.if-is_blank.true)) c.write_zeros.ensures

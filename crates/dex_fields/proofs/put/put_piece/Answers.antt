use Rattle.std.proofs.Common.{ap, get_or, ◌∙◌, arith}
use Rattle.dex_fields.proofs.Writing.{get_or-with_bytes, put_mid-is_with_bytes}
use Rattle.dex_fields.proofs.put.put_piece.Goals as goal

pub returns-clause-bytes : goal.returns-clause-bytes
returns-clause-bytes c =
    put_mid-is_with_bytes c.args.bytes.now c.args.field c.args.piece.now _ _ c.requires.within c.requires.whole (omega arith) c.copy_from_slice.ensures.after

pub returns-clause-others : goal.returns-clause-others
returns-clause-others c =
    λ place out. ap (λ bytes. get_or bytes place 0) (returns-clause-bytes c) ∙ get_or-with_bytes c.args.bytes.now c.args.field c.args.piece.now place out

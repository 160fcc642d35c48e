use Rattle.std.proofs.Common.{◌∙◌, arith, length, refl}
use Rattle.std.proofs.lemmas.List.Edits.{paste_all}
use Rattle.std.proofs.lemmas.Slice.{put_mid-paste}
use Rattle.dex_instruction.specs.Writing.{written}
use Rattle.dex_instruction.proofs.numbers.put.Goals as goal

pub returns-clause-bytes : goal.returns-clause-bytes
unfolding written
returns-clause-bytes g c =
    let bytes = c.args.bytes in
    put_mid-paste c.args.at _ c.args.out.now _ bytes (length bytes) c.copy_from_slice.ensures.after (omega arith) refl
    ∙ paste_all c.args.out.now c.args.at bytes (length bytes) refl

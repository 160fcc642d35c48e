use Rattle.std.proofs.Common.{ap, ◌∙◌, arith}
use Rattle.dex_fields.specs.Bytes.{bytes_in}
use Rattle.dex_fields.proofs.Writing.{bytes_in-with_bytes}
use Rattle.dex_fields.proofs.put.put_addr.Goals as goal

pub returns-clause-given : goal.returns-clause-given
returns-clause-given c =
    let field = c.args.field in
    ap (λ bytes. bytes_in bytes field) c.put_piece.ensures.bytes
    ∙ bytes_in-with_bytes c.args.bytes.now field c.args.value c.requires.within (omega arith)

use Rattle.std.proofs.Common.{ap, ◌∙◌, arith, sym}
use Rattle.dex_fields.specs.Bytes.{bytes_of_number, with_bytes, with_number}
use Rattle.dex_fields.proofs.Writing.{with_number-fits}
use Rattle.dex_fields.proofs.put.put_u128.Goals as goal

pub returns-clause-bytes : goal.returns-clause-bytes
unfolding with_number
returns-clause-bytes c =
    let bytes = c.args.bytes.now in
    let value = c.args.value in
    c.put_piece.ensures.bytes
    ∙ ap (with_bytes bytes c.args.field) (c.halves.ensures ∙ ap (λ n. bytes_of_number n value) (sym c.requires.wide))

pub returns-clause-given : goal.returns-clause-given
returns-clause-given c =
    with_number-fits c.args.bytes.now _ c.args.field c.args.value 16 c.requires.wide c.requires.within (omega arith) (returns-clause-bytes c)

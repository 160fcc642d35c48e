use Rattle.std.proofs.Common.{arith}
use Rattle.dex_fields.proofs.Writing.{set-is_with_number, with_number-fits}
use Rattle.dex_fields.proofs.put.put_u8.Goals as goal

pub returns-clause-bytes : goal.returns-clause-bytes
returns-clause-bytes c = set-is_with_number c.args.bytes.now c.args.field c.args.value c.requires.wide (omega arith)

pub returns-clause-given : goal.returns-clause-given
returns-clause-given c =
    with_number-fits c.args.bytes.now _ c.args.field c.args.value 1 c.requires.wide c.requires.within (omega arith) (returns-clause-bytes c)

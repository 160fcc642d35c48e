use Rattle.std.proofs.Common.{arith}
use Rattle.csv.specs.Records.{fields_of}
use Rattle.dex_rows.proofs.RecordLemmas.{field_found, field_value}
use Rattle.dex_rows.proofs.quoted.field.Goals as goal

pub unwrap-requires : goal.unwrap-requires
unwrap-requires c =
    field_found c.get.result (fields_of c.args.read.now) c.args.place (omega (arith, c.len.ensures, c.if-len-place.false)) c.get.ensures.value

pub returns : goal.returns
returns c = field_value c.get.result (fields_of c.args.read.now) c.args.place c.unwrap.result c.unwrap.ensures c.get.ensures.value

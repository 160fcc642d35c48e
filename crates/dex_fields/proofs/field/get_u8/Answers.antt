use Rattle.dex_fields.proofs.Reading.{number_in-one}
use Rattle.dex_fields.proofs.field.get_u8.Goals as goal

pub returns : goal.returns
returns c = number_in-one c.args.bytes.now c.args.field c.requires.wide c.requires.within

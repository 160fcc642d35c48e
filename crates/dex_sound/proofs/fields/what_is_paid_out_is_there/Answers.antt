use Rattle.dex_sound.proofs.FieldLaws.{pays-out}
use Rattle.dex_sound.proofs.fields.what_is_paid_out_is_there.Goals as goal

pub returns : goal.returns
returns c = pays-out

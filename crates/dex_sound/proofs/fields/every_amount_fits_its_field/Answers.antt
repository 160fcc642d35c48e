use Rattle.dex_types.specs.Steps.{step}
use Rattle.dex_sound.proofs.FieldLaws.{fields-fit}
use Rattle.dex_sound.proofs.StepSound.{step-sound}
use Rattle.dex_sound.proofs.fields.every_amount_fits_its_field.Goals as goal

pub returns-clause-now : goal.returns-clause-now
returns-clause-now c = fields-fit

pub returns-clause-after : goal.returns-clause-after
returns-clause-after c = λ request seen m sound priced. fields-fit (step request seen m).market (step-sound request seen m sound priced)

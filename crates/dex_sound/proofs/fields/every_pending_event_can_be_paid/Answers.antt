use Rattle.dex_types.specs.Payment.{after_crank}
use Rattle.dex_sound.proofs.CrankSound.{crank-sound}
use Rattle.dex_sound.proofs.FieldLaws.{events-pay}
use Rattle.dex_sound.proofs.PlaceParts.{to-place, from-place}
use Rattle.dex_sound.proofs.fields.every_pending_event_can_be_paid.Goals as goal

pub returns-clause-now : goal.returns-clause-now
returns-clause-now c = events-pay

pub returns-clause-later : goal.returns-clause-later
returns-clause-later c = λ m count sound. events-pay (after_crank count m) (from-place (after_crank count m) (crank-sound count m (to-place m sound)))

use Rattle.dex_sound.proofs.PlaceParts.{to-place, from-place}
use Rattle.dex_sound.proofs.places.soundness_agrees_by_place.Goals as goal

pub returns : goal.returns
returns c = λ m. (to-place m, from-place m)

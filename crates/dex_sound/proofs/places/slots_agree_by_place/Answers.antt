use Rattle.dex_sound.proofs.PlaceLaws.{SlotsAgree-places}
use Rattle.dex_sound.proofs.places.slots_agree_by_place.Goals as goal

pub returns : goal.returns
returns c = SlotsAgree-places

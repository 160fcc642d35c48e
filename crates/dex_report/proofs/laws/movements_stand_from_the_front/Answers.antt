use Rattle.dex_report.proofs.Fronts.{legal-in_front}
use Rattle.dex_report.proofs.laws.movements_stand_from_the_front.Goals as goal

pub returns : goal.returns
returns c = legal-in_front

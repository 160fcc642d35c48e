use Rattle.dex_report.proofs.Fronts.{fit-told}
use Rattle.dex_report.proofs.laws.what_fits_is_told.Goals as goal

pub returns : goal.returns
returns c = fit-told

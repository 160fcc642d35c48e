use Rattle.dex_report.proofs.Journals.{report_text-injective}
use Rattle.dex_report.proofs.laws.one_reading.Goals as goal

pub returns : goal.returns
returns c = report_text-injective

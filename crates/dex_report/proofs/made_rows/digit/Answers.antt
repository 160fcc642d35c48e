use Rattle.std.proofs.lemmas.Fmt.{decimal_digit}
use Rattle.dex_report.proofs.made_rows.digit.Goals as goal

pub returns : goal.returns
returns c = decimal_digit c.args.number c.requires

use Rattle.dex_dump.proofs.SoFarLaws.{told-accepted, told-held}
use Rattle.dex_dump.proofs.reader.read_rows.Goals as goal

pub returns-clause-accepted : goal.returns-clause-accepted
returns-clause-accepted c = told-accepted c.args.limits.now c.requires c.read_accounts.result _ _ c.read_accounts.ensures

pub returns-clause-bytes : goal.returns-clause-bytes
returns-clause-bytes c = told-held c.args.limits.now c.requires c.read_accounts.result _ _ c.read_accounts.ensures

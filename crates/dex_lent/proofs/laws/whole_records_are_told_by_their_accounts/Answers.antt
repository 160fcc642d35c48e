use Rattle.dex_lent.proofs.FlatLaws.{told-in}
use Rattle.dex_lent.proofs.laws.whole_records_are_told_by_their_accounts.Goals as goal

pub returns : goal.returns
returns c = told-in

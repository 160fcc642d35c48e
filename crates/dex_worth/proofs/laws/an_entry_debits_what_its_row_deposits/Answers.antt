use Rattle.dex_worth.proofs.Debits.{debits-are}
use Rattle.dex_worth.proofs.laws.an_entry_debits_what_its_row_deposits.Goals as goal

pub returns : goal.returns
returns c = debits-are

use Rattle.dex_accounts.specs.Decoded.{market_in}
use Rattle.dex_worth.proofs.Tables.{worths-told}
use Rattle.dex_worth.proofs.laws.what_a_journal_tells_is_paid_at_once.Goals as goal

pub returns : goal.returns
returns c = λ script first last journal tells sound. worths-told (market_in first) tells.calls last sound tells.legal tells.stands

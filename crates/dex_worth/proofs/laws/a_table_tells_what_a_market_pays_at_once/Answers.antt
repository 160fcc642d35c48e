use Rattle.dex_worth.proofs.Outcomes.{all-pay}
use Rattle.dex_worth.proofs.laws.a_table_tells_what_a_market_pays_at_once.Goals as goal

pub returns : goal.returns
returns c = λ script is outcome lawful. all-pay script is outcome lawful (c.an_entry_tells_its_call.ensures.outcome script is outcome lawful)

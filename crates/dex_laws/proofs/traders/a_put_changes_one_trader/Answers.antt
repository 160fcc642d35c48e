use Rattle.dex_laws.proofs.TraderLaws.{trader_at-put_same, trader_at-put_other, addresses-put_trader, is_same-false}
use Rattle.dex_laws.proofs.traders.a_put_changes_one_trader.Goals as goal

pub returns-clause-here : goal.returns-clause-here
returns-clause-here c = trader_at-put_same

pub returns-clause-elsewhere : goal.returns-clause-elsewhere
returns-clause-elsewhere c = λ address other trader traders apart. trader_at-put_other address other trader traders (is_same-false other address apart)

pub returns-clause-addresses : goal.returns-clause-addresses
returns-clause-addresses c = addresses-put_trader

use Rattle.dex_replay.proofs.Numbers.{market-numbers, market-rises, wallet-numbers, wallet-rises}
use Rattle.dex_replay.proofs.laws.each_row_has_one_entry.Goals as goal

pub returns-clause-markets : goal.returns-clause-markets
returns-clause-markets c = market-numbers

pub returns-clause-wallets : goal.returns-clause-wallets
returns-clause-wallets c = wallet-numbers

pub returns-clause-rising_on_market : goal.returns-clause-rising_on_market
returns-clause-rising_on_market c = market-rises

pub returns-clause-rising_of_wallet : goal.returns-clause-rising_of_wallet
returns-clause-rising_of_wallet c = wallet-rises

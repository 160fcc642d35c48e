use Rattle.dex_history.proofs.BalanceLaws.{balance-never}
use Rattle.dex_history.proofs.balances.no_balance_is_too_large_within_a_supply.Goals as goal

pub returns : goal.returns
returns c = balance-never

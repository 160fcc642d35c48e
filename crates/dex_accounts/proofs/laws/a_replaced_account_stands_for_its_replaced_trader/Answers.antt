use Rattle.dex_accounts.proofs.OwnerLaws.{addresses-changed_at, bytes_at-changed_at}
use Rattle.dex_accounts.proofs.PartLaws.{StandForTraders-changed_at}
use Rattle.dex_accounts.proofs.laws.a_replaced_account_stands_for_its_replaced_trader.Goals as goal

pub returns-clause-stand : goal.returns-clause-stand
returns-clause-stand c = StandForTraders-changed_at

pub returns-clause-addresses : goal.returns-clause-addresses
returns-clause-addresses c = addresses-changed_at

pub returns-clause-found : goal.returns-clause-found
returns-clause-found c = bytes_at-changed_at

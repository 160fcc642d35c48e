use Rattle.dex_history.proofs.HistoryLaws.{IsWalletLegal-append, IsWalletLegal-one, balance_after-append}
use Rattle.dex_history.proofs.histories.a_wallet_journal_grows_at_its_end.Goals as goal

pub returns-clause-parts : goal.returns-clause-parts
returns-clause-parts c = IsWalletLegal-append

pub returns-clause-after : goal.returns-clause-after
returns-clause-after c = balance_after-append

pub returns-clause-one_more : goal.returns-clause-one_more
returns-clause-one_more c = IsWalletLegal-one

use Rattle.dex_process.proofs.HistoryLaws.{history-left, history-replies, legal-history, was-processed}
use Rattle.dex_process.proofs.laws.instructions_one_after_another_are_a_legal_history.Goals as goal

pub returns-clause-done : goal.returns-clause-done
returns-clause-done c = was-processed

pub returns-clause-legal : goal.returns-clause-legal
returns-clause-legal c = legal-history

pub returns-clause-market : goal.returns-clause-market
returns-clause-market c = history-left

pub returns-clause-replies : goal.returns-clause-replies
returns-clause-replies c = history-replies

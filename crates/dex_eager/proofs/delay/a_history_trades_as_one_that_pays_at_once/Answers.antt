use Rattle.std.proofs.Common.{sym, ap}
use Rattle.dex_eager.specs.Worth.{no_moves}
use Rattle.dex_eager.proofs.DelayLaws.{place-market, history-market, history-fills, end-worth, end-absent}
use Rattle.dex_eager.proofs.delay.a_history_trades_as_one_that_pays_at_once.Goals as goal

pub returns-clause-places : goal.returns-clause-places
returns-clause-places c = λ m calls count sound legal. place-market count calls m sound legal

pub returns-clause-bids : goal.returns-clause-bids
returns-clause-bids c = λ m calls sound legal. sym (ap (λ e. e.bids) (history-market calls m no_moves sound legal))

pub returns-clause-asks : goal.returns-clause-asks
returns-clause-asks c = λ m calls sound legal. sym (ap (λ e. e.asks) (history-market calls m no_moves sound legal))

pub returns-clause-sequence : goal.returns-clause-sequence
returns-clause-sequence c = λ m calls sound legal. sym (ap (λ e. e.next_sequence) (history-market calls m no_moves sound legal))

pub returns-clause-fills : goal.returns-clause-fills
returns-clause-fills c = λ m calls sound legal. sym (history-fills calls m no_moves sound legal)

pub returns-clause-takings : goal.returns-clause-takings
returns-clause-takings c = λ m calls sound legal. sym (ap (λ e. e.takings) (history-market calls m no_moves sound legal))

pub returns-clause-worth : goal.returns-clause-worth
returns-clause-worth c = λ m calls owner trader sound legal found. end-worth calls m owner trader sound legal found

pub returns-clause-no_account : goal.returns-clause-no_account
returns-clause-no_account c = λ m calls owner sound legal absent. end-absent calls m owner sound legal absent

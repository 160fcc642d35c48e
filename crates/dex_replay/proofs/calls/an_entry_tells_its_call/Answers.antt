use Rattle.dex_replay.proofs.CallsTold.{call-told, lawful-told, history-told, outcome-told}
use Rattle.dex_replay.proofs.calls.an_entry_tells_its_call.Goals as goal

pub returns-clause-call : goal.returns-clause-call
returns-clause-call c = call-told

pub returns-clause-calls : goal.returns-clause-calls
returns-clause-calls c = lawful-told

pub returns-clause-history : goal.returns-clause-history
returns-clause-history c = history-told

pub returns-clause-outcome : goal.returns-clause-outcome
returns-clause-outcome c = outcome-told

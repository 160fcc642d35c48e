use Rattle.dex_commands.proofs.OneOutcome.{both-once, replay-once, run-once}
use Rattle.dex_commands.proofs.laws.one_report_is_of_one_outcome.Goals as goal

pub returns-clause-run : goal.returns-clause-run
returns-clause-run c = run-once

pub returns-clause-replay : goal.returns-clause-replay
returns-clause-replay c = replay-once

pub returns-clause-both : goal.returns-clause-both
returns-clause-both c = both-once

use Rattle.dex_types.specs.declared.limits.TheConstants.{WIDE}
use Rattle.dex_commands.proofs.Endings.{process-ends}
use Rattle.dex_wide.specs.Commands.{wide_command_of}
use Rattle.dex_wide.proofs.process.run_process.Goals as goal

pub returns-in-Some : goal.returns-in-Some
returns-in-Some g c = process-ends WIDE wide_command_of _ _ _ _ _ _ c.in-Some.ensures c.code.ensures c.by_words.ensures

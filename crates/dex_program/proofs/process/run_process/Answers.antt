use Rattle.dex_types.specs.declared.limits.TheConstants.{STANDARD}
use Rattle.dex_words.specs.Commands.{command_of}
use Rattle.dex_commands.proofs.Endings.{process-ends}
use Rattle.dex_program.proofs.process.run_process.Goals as goal

pub returns-in-Some : goal.returns-in-Some
returns-in-Some g c = process-ends STANDARD command_of _ _ _ _ _ _ c.in-Some.ensures c.code.ensures c.dex_main.ensures.ends

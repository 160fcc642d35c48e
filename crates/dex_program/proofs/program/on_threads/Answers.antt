use Rattle.std.proofs.Common.{Some}
use Rattle.dex_types.specs.declared.limits.TheConstants.{STANDARD}
use Rattle.dex_words.specs.Threads.{of_threaded}
use Rattle.dex_answers.specs.Told.{text_of}
use Rattle.dex_commands.proofs.Endings.{ends}
use Rattle.dex_program.proofs.program.on_threads.Goals as goal

pub returns-in-Ok : goal.returns-in-Ok
returns-in-Ok g c =
    let told = c.in-Ok.told in
    ends STANDARD told.status (Some (of_threaded c.args.command)) _ _ (text_of told) c.written_each.result c.in-Ok.ensures.built (rw c.deref.ensures.value at c.written_each.ensures)

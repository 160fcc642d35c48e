use Rattle.std.proofs.Common.{Some, ap}
use Rattle.dex_words.specs.Threads.{of_plain}
use Rattle.dex_answers.specs.Told.{text_of}
use Rattle.dex_commands.proofs.Endings.{ends, ends-as}
use Rattle.dex_commands.proofs.running.plain_within.Goals as goal

pub returns-in-Ok : goal.returns-in-Ok
returns-in-Ok g c =
    let told = c.in-Ok.told in
    ends-as _ _ _ _ _ _ (ap Some (rw c.unwrap.ensures at c.plain.ensures.some))
    (ends c.args.limits.now told.status (Some (of_plain c.unwrap.result)) _ _ (text_of told) c.written_each.result c.in-Ok.ensures.built (rw c.deref.ensures.value at c.written_each.ensures))

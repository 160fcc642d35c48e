use Rattle.std.proofs.Common.{Err, None, Some, ap, refl, subst, sym, ◌∙◌}
use Rattle.dex_types.specs.declared.limits.TheConstants.{STANDARD}
use Rattle.dex_words.proofs.CommandLaws.{one-spelling}
use Rattle.dex_words.specs.Spelling.{IsWithin}
use Rattle.dex_words.specs.declared.command.WordsError.{WordsError}
use Rattle.dex_answers.specs.declared.status.Status.TheVariants as status
use Rattle.dex_commands.proofs.Endings.{ends, ends-as}
use Rattle.dex_program.proofs.program.by_words.Goals as goal

pub plain-requires : goal.plain-requires
plain-requires g c =
    record { within = ((one-spelling _ _).0 c.in-Ok.ensures.command).1; plain = c.threaded.ensures.none c.in-None.is }

pub on_threads-requires-clause-within : goal.on_threads-requires-clause-within
on_threads-requires-clause-within g c = λ κs lives.
    subst IsWithin (sym (rw c.in-Some.is at c.threaded.ensures.some)) ((one-spelling _ _).0 c.in-Ok.ensures.command).1

pub returns-in-Some : goal.returns-in-Some
returns-in-Some g c =
    ends-as _ _ _ _ _ _ (ap Some (rw c.in-Some.is at c.threaded.ensures.some) ∙ sym c.in-Ok.ensures.command) c.on_threads.ensures

pub returns-in-Err-Usage : goal.returns-in-Err-Usage
returns-in-Err-Usage g c =
    let none = c.in-Err-Usage.ensures.usage (ap (λ (e : WordsError). Err e) c.in-Err-Usage.field-0-is) in
    rw none (ends STANDARD status.Usage None _ _ _ _ (refl, refl) (rw c.line.ensures at c.written.ensures))

pub returns-in-Err-NoMemory : goal.returns-in-Err-NoMemory
returns-in-Err-NoMemory g c =
    ends STANDARD status.NoMemory _ _ _ _ _ refl (rw c.line-in-Err-NoMemory.ensures at c.written-in-Err-NoMemory.ensures)

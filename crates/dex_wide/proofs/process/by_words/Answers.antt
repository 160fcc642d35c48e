use Rattle.std.proofs.Common.{Err, None, ap, refl, sym}
use Rattle.dex_types.specs.declared.limits.TheConstants.{WIDE}
use Rattle.dex_words.proofs.CommandLaws.{one-spelling}
use Rattle.dex_words.specs.declared.command.WordsError.{WordsError}
use Rattle.dex_answers.specs.declared.status.Status.TheVariants as status
use Rattle.dex_commands.proofs.Endings.{ends, ends-as}
use Rattle.dex_wide.proofs.Asked.{asks-none, asks-plain, asks-threaded}
use Rattle.dex_wide.proofs.process.by_words.Goals as goal

pub plain_within-requires-clause-within : goal.plain_within-requires-clause-within
plain_within-requires-clause-within g c = ((one-spelling _ _).0 c.in-Ok.ensures.command).1

pub plain_within-requires-clause-plain : goal.plain_within-requires-clause-plain
plain_within-requires-clause-plain g c = c.threaded.ensures.none c.in-None.is

pub returns-in-Some : goal.returns-in-Some
returns-in-Some g c =
    ends-as WIDE _ None _ _ _ (sym (asks-threaded _ _ _ c.in-Ok.ensures.command (rw c.in-Some.is at c.threaded.ensures.some)))
    (ends WIDE status.Usage None _ _ _ _ (refl, refl) (rw c.line.ensures at c.written.ensures))

pub returns-in-None : goal.returns-in-None
returns-in-None g c =
    ends-as WIDE _ _ _ _ _ (sym (asks-plain _ _ c.in-Ok.ensures.command (c.threaded.ensures.none c.in-None.is))) c.plain_within.ensures

pub returns-in-Err-Usage : goal.returns-in-Err-Usage
returns-in-Err-Usage g c =
    let none = c.in-Err-Usage.ensures.usage (ap (λ (e : WordsError). Err e) c.in-Err-Usage.field-0-is) in
    ends-as WIDE _ None _ _ _ (sym (asks-none _ none))
    (ends WIDE status.Usage None _ _ _ _ (refl, refl) (rw c.line-in-Err-Usage.ensures at c.written-in-Err-Usage.ensures))

pub returns-in-Err-NoMemory : goal.returns-in-Err-NoMemory
returns-in-Err-NoMemory g c =
    ends WIDE status.NoMemory _ _ _ _ _ refl (rw c.line-in-Err-NoMemory.ensures at c.written-in-Err-NoMemory.ensures)

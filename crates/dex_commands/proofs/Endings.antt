-- How a run ends, from what its parts did.
use Rattle.std.proofs.Common.{◌≡◌, ◌↔◌, [], ℕ, List, Option, Some, None, IfSome, Result, Err, IsErrOf, inl, inr, refl, subst, sym, arith}
use Rattle.std.specs.Io.KnownBytes.{append_known}
use Rattle.dex_types.specs.declared.limits.Limits.{Limits}
use Rattle.dex_types.specs.declared.limits.TheConstants.{STANDARD}
use Rattle.dex_io.specs.declared.failure.ReadAll.{ReadAll}
use Rattle.dex_io.specs.declared.failure.ReadAll.TheVariants as reading
use Rattle.dex_io.specs.Faults.{Rose}
use Rattle.dex_io.specs.Reading.{TookMore}
use Rattle.dex_words.specs.declared.command.Command.{Command}
use Rattle.dex_words.specs.declared.command.Command.TheVariants.{Replay, Run, Dump, Audit, Worth, Make, Bulk, Migrate, Batch}
use Rattle.dex_answers.specs.ExitCodes.{exit_code}
use Rattle.dex_answers.specs.declared.status.Status.{Status}
use Rattle.dex_answers.specs.declared.status.Status.TheVariants as status
use Rattle.dex_answers.specs.Suits.{Suits}
use Rattle.dex_commands.proofs.LaneAnswerLaws.{all-answered}
use Rattle.dex_commands.specs.Ending.{Answered, Completes, Ends, EndsWithin, HasRead, Input, IsReading, IsSuited, Output, StandsWithin, Took}
use Rattle.dex_commands.specs.Process.{EndsProcess}
use Rattle.dex_commands.specs.Stops.{Writes, line_of, status_of, stop_of}

-- ---- what was read

-- what is known of bytes that are told, from another such fact
if-some : {A : Type 0} (P Q : A → Type 0) (o : Option A) → ((x : A) → P x → Q x) → IfSome o P → IfSome o Q
if-some P Q None f h = tt
if-some P Q (Some x) f h = f x h

-- a command that reads took what was read
pub took : (limits : Limits) (command : Command) (i : Input) (bytes : List ℕ) → IsReading command → HasRead limits i bytes → Took limits command i bytes
took limits (Make number rows) i bytes reads read = absurd reads
took limits (Bulk number rows) i bytes reads read = absurd reads
took limits _ i bytes reads read = read

-- a command that does not read took nothing
pub took_none : (limits : Limits) (command : Command) (i : Input) → ¬ (IsReading command) → i.rest ≡ i.left → Took limits command i []
took_none limits (Make number rows) i other same = (same, refl)
took_none limits (Bulk number rows) i other same = (same, refl)
took_none limits _ i other same = absurd (other tt)

-- whether the reading stopped since the source is too long
abbrev pub TellsLong : {T : Type 0} → ℕ → Result T ReadAll → Input → List ℕ → Type 0
TellsLong most read i bytes = IsErrOf read reading.TooLong ↔ TookMore most bytes i.rest

-- what stands where the reading stopped
pub stands-stop : {T : Type 0} (limits : Limits) (command : Command) (i : Input) (why : ReadAll) → IsReading command
    → (IsErrOf {T = T} (Err why) reading.Fault → Rose i.faults i.faults_after)
    → IfSome i.left (TellsLong {T = T} limits.bytes (Err why) i)
    → StandsWithin limits (status_of (stop_of why)) (Some command) i (line_of (stop_of why))
stands-stop {T} limits command i reading.Fault reads fault long = (
  reads,
  fault refl,
  if-some (TellsLong {T = T} limits.bytes (Err reading.Fault) i) (λ bytes. ¬ (TookMore limits.bytes bytes i.rest)) i.left (λ bytes h more. cc (h.1 more)) long,
  refl,
)
stands-stop {T} limits command i reading.TooLong reads fault long =
    (reads, if-some (TellsLong {T = T} limits.bytes (Err reading.TooLong) i) (λ bytes. TookMore limits.bytes bytes i.rest) i.left (λ bytes h. h.0 refl) long, refl)
stands-stop limits command i reading.NoMemory reads fault long = refl

-- ---- what was written

wrote : (limits : Limits) (stood : Status) (asked : Option Command) (i : Input) (o : Output) (text : List ℕ) → StandsWithin limits stood asked i text
    → o.taken_after ≡ append_known o.taken text → EndsWithin limits asked i o stood
wrote limits status.WriteFault asked i o text stands taken = absurd stands
wrote limits _ asked i o text stands taken = record { text = text; stands = stands; taken = taken }

-- a run ends as its text is written
pub ends : (limits : Limits) (stood : Status) (asked : Option Command) (i : Input) (o : Output) (text : List ℕ) (ended : Status)
    → StandsWithin limits stood asked i text → Writes o stood text ended → EndsWithin limits asked i o ended
ends limits stood asked i o text ended stands (inl whole) =
    subst (EndsWithin limits asked i o) (sym whole.0) (wrote limits stood asked i o text stands whole.1)
ends limits stood asked i o text ended stands (inr cut) =
    subst (EndsWithin limits asked i o) (sym cut.0)
    (record { stood = stood; text = text; stands = stands; failed = cut.1; sent = cut.2; front = cut.3; taken = cut.4 })

-- so ends a run of a command, whichever way it is named
pub ends-as : (limits : Limits) (asked other : Option Command) (i : Input) (o : Output) (ended : Status) → other ≡ asked → EndsWithin limits other i o ended
    → EndsWithin limits asked i o ended
ends-as limits asked other i o ended is end = subst (λ (x : Option Command). EndsWithin limits x i o ended) is end

-- a process ends as its program does on the words that are given
pub process-ends : (limits : Limits) (asked_by : List (List ℕ) → Option Command) (given : Option (List (List ℕ))) (words : List (List ℕ)) (i : Input)
    (o : Output) (number : ℕ) (ended : Status) → given ≡ Some words → number ≡ exit_code ended → EndsWithin limits (asked_by words) i o ended
    → EndsProcess limits asked_by given i o number
process-ends limits asked_by given words i o number ended is code end =
    subst (λ (w : Option (List (List ℕ))). EndsProcess limits asked_by w i o number) (sym is) (ended, code, end)

-- ---- a run that completes

-- where the source told what suits the command, what it took suits it
suited : (command : Command) (i : Input) (bytes all : List ℕ) → i.left ≡ Some all → Took STANDARD command i bytes → Suits command all → Suits command bytes
suited (Make number rows) i bytes all told took suits = tt
suited (Bulk number rows) i bytes all told took suits = tt
suited Replay i bytes all told took suits = subst (Suits Replay) (sym (rw told at took.told)) suits
suited (Batch workers) i bytes all told took suits = subst (Suits (Batch workers)) (sym (rw told at took.told)) suits
suited Run i bytes all told took suits = subst (Suits Run) (sym (rw told at took.told)) suits
suited Dump i bytes all told took suits = subst (Suits Dump) (sym (rw told at took.told)) suits
suited Worth i bytes all told took suits = subst (Suits Worth) (sym (rw told at took.told)) suits
suited Audit i bytes all told took suits = subst (Suits Audit) (sym (rw told at took.told)) suits
suited (Migrate nodes events) i bytes all told took suits = subst (Suits (Migrate nodes events)) (sym (rw told at took.told)) suits

-- any bytes suit a command that does not read
other-suited : (command : Command) (bytes : List ℕ) → ¬ (IsReading command) → Suits command bytes
other-suited (Make number rows) bytes other = tt
other-suited (Bulk number rows) bytes other = tt
other-suited _ bytes other = absurd (other tt)

-- what suits is answered
is-done : (stood : Status) (command : Command) (i : Input) (text : List ℕ) → IsSuited command i → Answered STANDARD stood command i text → stood ≡ status.Ok
is-done stood command i text (inl other) told = all-answered command told.0 stood text (other-suited command told.0 other) told.2
is-done stood command i text (inr told_all) told =
    all-answered command told.0 stood text (suited command i told.0 told_all.0 told_all.1 told.1 told_all.3) told.2

-- not too much was taken
not-long : (command : Command) (i : Input) → IsSuited command i → IsReading command → IfSome i.left (λ bytes. TookMore STANDARD.bytes bytes i.rest) → ⊥
not-long command i (inl other) reads long = other reads
not-long command i (inr all) reads long =
    let more = rw all.1 at long in
    let there = more.2.there in
    omega (arith, there, more.1, all.2)

pub completes : (command : Command) (i : Input) (o : Output) (ended : Status) → Ends (Some command) i o ended → Completes (Some command) i o ended
completes command i o status.Ok end read write suits = inl refl
completes command i o status.NoMemory end read write suits = inr refl
completes command i o status.WriteFault end read write suits = absurd (write end.failed)
completes command i o status.Usage end read write suits = absurd end.stands
completes command i o status.ReadFault end read write suits = absurd (read end.stands.1)
completes command i o status.InputTooLong end read write suits = absurd (not-long command i suits end.stands.0 end.stands.1)
completes command i o status.ScriptRefused end read write suits = inl (is-done status.ScriptRefused command i end.text suits end.stands)
completes command i o status.DumpRefused end read write suits = inl (is-done status.DumpRefused command i end.text suits end.stands)
completes command i o status.AuditFailed end read write suits = inl (is-done status.AuditFailed command i end.text suits end.stands)
completes command i o status.MigrateRefused end read write suits = inl (is-done status.MigrateRefused command i end.text suits end.stands)

pub all-complete : (asked : Option Command) (i : Input) (o : Output) (ended : Status) → Ends asked i o ended → Completes asked i o ended
all-complete None i o ended end = tt
all-complete (Some command) i o ended end = completes command i o ended end

-- How a run of the program ends, and what each status says.
use Rattle.std.specs.Prelude.{ℕ, ◌≡◌, ◌<◌, ◌≤◌, ◌⊎◌, List, [], length, take, codes, Option, Some, None, IfSome}
use Rattle.std.specs.Io.KnownBytes.{IsAtEnd, append_known}
use Rattle.dex_types.specs.declared.limits.Limits.{Limits}
use Rattle.dex_types.specs.declared.limits.TheConstants.{STANDARD}
use Rattle.dex_io.specs.Faults.{Rose}
use Rattle.dex_io.specs.Reading.{TookMore}
use Rattle.dex_words.specs.declared.command.Command.{Command}
use Rattle.dex_words.specs.declared.command.Command.TheVariants.{Make, Bulk}
use Rattle.dex_refusal_lines.specs.Lines.{line}
use Rattle.dex_answers.specs.declared.status.Status.{Status}
use Rattle.dex_answers.specs.declared.status.Status.TheVariants as status
use Rattle.dex_answers.specs.Suits.{Suits}
use Rattle.dex_commands.specs.LaneAnswers.{AnswersAll}

-- the line that tells how the program is used
unfoldable pub usage_line : List ℕ
usage_line =
    line (codes "usage: dex replay, run, audit, dump, worth, make NUMBER ROWS, bulk NUMBER ROWS, migrate NODES EVENTS or batch WORKERS")

-- what a run sees of its source: the bytes that are left before and after it, where the source tells them, and its
-- count of faults before and after
pub record Input : Type 0 where
  pub left : Option (List ℕ)
  pub rest : Option (List ℕ)
  pub faults : ℕ
  pub faults_after : ℕ

-- the input of a run, by bytes and counts of faults
abbrev pub input : Option (List ℕ) → Option (List ℕ) → ℕ → ℕ → Input
input left rest faults faults_after = record { left = left; rest = rest; faults = faults; faults_after = faults_after }

-- what a run sees of its sink: the bytes that were taken before and after it, where the sink tells them, and its count
-- of faults before and after
pub record Output : Type 0 where
  pub taken : Option (List ℕ)
  pub taken_after : Option (List ℕ)
  pub faults : ℕ
  pub faults_after : ℕ

-- the output of a run, by bytes and counts of faults
abbrev pub output : Option (List ℕ) → Option (List ℕ) → ℕ → ℕ → Output
output taken taken_after faults faults_after =
    record { taken = taken; taken_after = taken_after; faults = faults; faults_after = faults_after }

-- the command reads its source
abbrev pub IsReading : Command → Type 0
IsReading (Make number rows) = ⊥
IsReading (Bulk number rows) = ⊥
IsReading _ = Unit {0}

-- these bytes were read: all that were left, where the source tells them, up to its end, and not too many
pub record HasRead (limits : Limits) (i : Input) (bytes : List ℕ) : Type 0 where
  pub end : IsAtEnd i.rest
  pub told : IfSome i.left (λ all. bytes ≡ all)
  pub short : length bytes ≤ limits.bytes

-- the bytes that a command looks at: those that it read; a command that reads none leaves its source as it was
abbrev pub Took : Limits → Command → Input → List ℕ → Type 0
Took limits (Make number rows) i bytes = (i.rest ≡ i.left) × (bytes ≡ [])
Took limits (Bulk number rows) i bytes = (i.rest ≡ i.left) × (bytes ≡ [])
Took limits _ i bytes = HasRead limits i bytes

-- the text is what the command answers to the bytes that it took, under this status
abbrev pub Answered : Limits → Status → Command → Input → List ℕ → Type 0
Answered limits stood command i text =
    (bytes : List ℕ) × Took limits command i bytes × AnswersAll limits command bytes stood text

-- a read failed, before too much was taken
abbrev pub FailedToRead : Limits → Command → Input → List ℕ → Type 0
FailedToRead limits command i text =
    IsReading command × Rose i.faults i.faults_after × IfSome i.left (λ bytes. ¬ (TookMore limits.bytes bytes i.rest))
    × (text ≡ line (codes "read failed"))

-- more was taken than an input may have
abbrev pub ReadTooMuch : Limits → Command → Input → List ℕ → Type 0
ReadTooMuch limits command i text =
    IsReading command × IfSome i.left (λ bytes. TookMore limits.bytes bytes i.rest)
    × (text ≡ line (codes "input too long"))

-- A status stands, with the text that it writes, where the words are this command, or none, within these limits. Each
-- says what the words and the source were, but lack of memory
abbrev pub StandsWithin : Limits → Status → Option Command → Input → List ℕ → Type 0
StandsWithin limits status.NoMemory asked i text = text ≡ line (codes "no memory")
StandsWithin limits status.WriteFault asked i text = ⊥
StandsWithin limits status.Usage None i text = (i.rest ≡ i.left) × (text ≡ usage_line)
StandsWithin limits status.Usage (Some command) i text = ⊥
StandsWithin limits status.ReadFault (Some command) i text = FailedToRead limits command i text
StandsWithin limits status.InputTooLong (Some command) i text = ReadTooMuch limits command i text
StandsWithin limits stood (Some command) i text = Answered limits stood command i text
StandsWithin limits stood None i text = ⊥

-- within the program's limits
abbrev pub Stands : Status → Option Command → Input → List ℕ → Type 0
Stands stood asked i text = StandsWithin STANDARD stood asked i text

-- the sink took the whole text of the status that stands
pub record Wrote (limits : Limits) (stood : Status) (asked : Option Command) (i : Input) (o : Output) : Type 0 where
  pub text : List ℕ
  pub stands : StandsWithin limits stood asked i text
  pub taken : o.taken_after ≡ append_known o.taken text

-- the sink failed, and took only a front of the text of the status that stood
pub record Stopped (limits : Limits) (asked : Option Command) (i : Input) (o : Output) : Type 0 where
  pub stood : Status
  pub text : List ℕ
  pub stands : StandsWithin limits stood asked i text
  pub failed : Rose o.faults o.faults_after
  pub sent : ℕ
  pub front : sent < length text
  pub taken : o.taken_after ≡ append_known o.taken (take sent text)

-- how a run within these limits ends, by its status
abbrev pub EndsWithin : Limits → Option Command → Input → Output → Status → Type 0
EndsWithin limits asked i o status.WriteFault = Stopped limits asked i o
EndsWithin limits asked i o stood = Wrote limits stood asked i o

-- within the program's limits
abbrev pub Ends : Option Command → Input → Output → Status → Type 0
Ends asked i o ended = EndsWithin STANDARD asked i o ended

-- the command reads nothing, or the source tells an input within the limit that suits it
abbrev pub IsSuited : Command → Input → Type 0
IsSuited command i =
    ¬ (IsReading command)
    ⊎ ((bytes : List ℕ) × (i.left ≡ Some bytes) × (length bytes ≤ STANDARD.bytes) × Suits command bytes)

-- a run of the command completes: where no call failed, and the source told what suits it, its answer was written,
-- unless memory was wanting
abbrev pub Completes : Option Command → Input → Output → Status → Type 0
Completes None i o ended = Unit {0}
Completes (Some command) i o ended =
    ¬ (Rose i.faults i.faults_after) → ¬ (Rose o.faults o.faults_after) → IsSuited command i
    → (ended ≡ status.Ok) ⊎ (ended ≡ status.NoMemory)

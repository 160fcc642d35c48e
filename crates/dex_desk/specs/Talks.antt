-- How a session goes: what is heard and said, call by call, and what the desk does between the calls.
use Rattle.std.specs.Prelude.{◌≡◌, ◌≢◌, ◌⊎◌, ◌||◌, ◌<◌, ◌≤◌, ℕ, Bool, true, false, List, [], ◌∷◌, ◌++◌, All}
use Rattle.std.specs.Prelude.{Option, Some, None, bytes_eq, codes, length}
use Rattle.dex_types.specs.declared.limits.TheConstants.{STANDARD, WIDE}
use Rattle.dex_answers.specs.Answers.{IsNoScript}
use Rattle.dex_answers.specs.declared.status.Status.{Status}
use Rattle.dex_answers.specs.declared.status.Status.TheVariants as status
use Rattle.dex_report.specs.Report.{head_line}
use Rattle.dex_rows.specs.Records.{rows_of}
use Rattle.dex_desk.specs.declared.ends.Over.{Over}
use Rattle.dex_desk.specs.declared.ends.Over.TheVariants as over
use Rattle.dex_desk.specs.Blocks.{PlainBlock}
use Rattle.dex_desk.specs.Replies.{ActedIn}
use Rattle.dex_desk.specs.SetUps.{IsOpened}
use Rattle.dex_desk.specs.Steps.{SaysDump, Went}
use Rattle.dex_desk.specs.Turns.{Turn}
use Rattle.dex_desk.specs.Turns.Turn.{Heard, Said}

-- ---- where a session stands

-- a set-up, of which these lines are kept, and behind them this was heard; or a block, and what was heard of which no
-- line was taken yet; or a block, where the input has ended, and all that is left of it; or nothing more is heard
pub data Session : Type 0 where
  Sets : (kept text : List ℕ) → Session
  Serves : (block : PlainBlock) (text : List ℕ) → Session
  Closes : (block : PlainBlock) (text : List ℕ) → Session
  Ended : (why : Over) → Session

-- and what is still to be said
pub record Talk : Type 0 where
  pub session : Session
  pub owed : List ℕ

abbrev pub talk : Session → List ℕ → Talk
talk session owed = record { session = session; owed = owed }

-- before the first byte
abbrev pub first : Talk
first = talk (Sets [] []) []

-- ---- lines

-- no line ends in this text
abbrev pub HasNoEnd : List ℕ → Type 0
HasNoEnd text = All (λ (byte : ℕ). byte ≢ 10) text

-- the first line of a text, and what is behind it
pub record IsCut (text line rest : List ℕ) : Type 0 where
  pub parts : text ≡ line ++ 10 ∷ rest
  pub whole : HasNoEnd line

-- the line that opens a desk
abbrev pub is_opening : List ℕ → Bool
is_opening line = bytes_eq line (codes "open") || bytes_eq line (codes "open" ++ 13 ∷ [])

-- what it is answered
abbrev pub open_line : ℕ → List ℕ
open_line number = head_line (codes "open") None number

-- what is said last where a session ends before its input does
abbrev pub last_line : Over → List ℕ
last_line over.Input = []
last_line over.ReadFault = codes "read failed" ++ 10 ∷ []
last_line over.TooLong = codes "input too long" ++ 10 ∷ []
last_line over.NoMemory = codes "no memory" ++ 10 ∷ []

-- ---- what the desk does between two calls

-- a line of a set-up is kept
pub record KeepsLine (kept text owed : List ℕ) (after : Talk) : Type 0 where
  pub line : List ℕ
  pub rest : List ℕ
  pub cut : IsCut text line rest
  pub other : is_opening line ≡ false
  pub is : after ≡ talk (Sets (kept ++ line ++ 10 ∷ []) rest) owed

-- a line `open`, and the lines before it are a set-up
pub record OpensDesk (kept text owed : List ℕ) (after : Talk) : Type 0 where
  pub line : List ℕ
  pub rest : List ℕ
  pub cut : IsCut text line rest
  pub opening : is_opening line ≡ true
  pub block : PlainBlock
  pub opened : IsOpened kept block
  pub is : after ≡ talk (Serves block rest) (owed ++ open_line block.number)

-- a line `open`, and the lines before it are none: they are forgotten
pub record RefusesSetUp (kept text owed : List ℕ) (after : Talk) : Type 0 where
  pub line : List ℕ
  pub rest : List ℕ
  pub cut : IsCut text line rest
  pub opening : is_opening line ≡ true
  pub status : Status
  pub told : List ℕ
  pub none : IsNoScript WIDE false kept status told
  pub is : after ≡ talk (Sets [] rest) (owed ++ told)

-- the rows of a line are taken
pub record TakesLine (block : PlainBlock) (text owed : List ℕ) (after : Talk) : Type 0 where
  pub line : List ℕ
  pub rest : List ℕ
  pub cut : IsCut text line rest
  pub left : PlainBlock
  pub said : List ℕ
  pub went : Went (rows_of line) block left owed said
  pub is : after ≡ talk (Serves left rest) said

-- rows act that were taken
pub record LetsAct (block : PlainBlock) (text owed : List ℕ) (after : Talk) : Type 0 where
  pub left : PlainBlock
  pub said : List ℕ
  pub acted : ActedIn block left owed said
  pub is : after ≡ talk (Serves left text) said

-- the input has ended: what is left of it is the last line, and then the accounts are written
pub record EndsWell (block : PlainBlock) (text owed : List ℕ) (after : Talk) : Type 0 where
  pub between : PlainBlock
  pub mid : List ℕ
  pub went : Went (rows_of text) block between owed mid
  pub left : PlainBlock
  pub said : List ℕ
  pub dump : SaysDump between left mid said
  pub is : after ≡ talk (Ended over.Input) said

-- it is the session of a desk that listens: it has taken all whole lines, and no row is still to act
abbrev pub IsListening : Session → Type 0
IsListening (Sets kept text) = HasNoEnd text
IsListening (Serves block text) = HasNoEnd text × (block.draft.script.rows ≡ [])
IsListening _ = ⊥

-- it has not ended
abbrev pub IsGoingOn : Session → Type 0
IsGoingOn (Ended why) = ⊥
IsGoingOn _ = Unit {0}

-- how much was heard of which nothing was taken, or of a set-up
abbrev pub heard_so_far : Session → List ℕ
heard_so_far (Sets kept text) = kept ++ text
heard_so_far (Serves block text) = text
heard_so_far (Closes block text) = text
heard_so_far (Ended why) = []

-- how many bytes that may be: a set-up may be as long as the widest script, a line behind it may not
abbrev pub most_of : Session → ℕ
most_of (Sets kept text) = WIDE.bytes
most_of _ = STANDARD.bytes

-- the accounts are written where there are any
abbrev pub Leaves : Session → List ℕ → Type 0
Leaves (Serves block text) said = (left : PlainBlock) × SaysDump block left [] said
Leaves _ said = said ≡ []

-- a session stops before its input ends, when all that it owed is said: a read failed, or more was heard than may be,
-- and the accounts are written; or there is no memory
abbrev pub StopsBy : Over → Session → List ℕ → Type 0
StopsBy over.Input session said = ⊥
StopsBy over.ReadFault session said = IsListening session × Leaves session said
StopsBy over.TooLong session said =
    IsListening session × (most_of session < length (heard_so_far session)) × Leaves session said
StopsBy over.NoMemory session said = IsGoingOn session × (said ≡ [])

pub record Stops (before after : Talk) : Type 0 where
  pub quiet : before.owed ≡ []
  pub why : Over
  pub said : List ℕ
  pub stops : StopsBy why before.session said
  pub is : after ≡ talk (Ended why) (said ++ last_line why)

-- what the desk does next, by itself
abbrev pub DoesBy : Session → List ℕ → Talk → Type 0
DoesBy (Sets kept text) owed after =
    KeepsLine kept text owed after ⊎ OpensDesk kept text owed after ⊎ RefusesSetUp kept text owed after
DoesBy (Serves block text) owed after = TakesLine block text owed after ⊎ LetsAct block text owed after
DoesBy (Closes block text) owed after = EndsWell block text owed after
DoesBy (Ended why) owed after = ⊥

abbrev pub Does : Talk → Talk → Type 0
Does before after = DoesBy before.session before.owed after ⊎ Stops before after

-- so it goes on, through these
abbrev pub DoesAll : Talk → List Talk → Talk → Type 0
DoesAll before [] after = after ≡ before
DoesAll before (next ∷ others) after = Does before next × DoesAll next others after

-- the desk went on by itself, without a call
pub record WentOn (before after : Talk) : Type 0 where
  pub through : List Talk
  pub does : DoesAll before through after

-- ---- calls

-- a session that heard these bytes; that it heard none is the end of its input
abbrev pub heard : List ℕ → Session → Session
heard [] (Sets kept text) = Ended over.Input
heard [] (Serves block text) = Closes block text
heard (byte ∷ bytes) (Sets kept text) = Sets kept (text ++ byte ∷ bytes)
heard (byte ∷ bytes) (Serves block text) = Serves block (text ++ byte ∷ bytes)
heard bytes session = session

-- a call: the desk hears only when it has said all that it owes, and has taken and answered all that it heard, and what
-- it keeps of it is not too long; and it says a front of what it owes
abbrev pub IsTurn : Turn → Talk → Talk → Type 0
IsTurn (Heard bytes) before after =
    (before.owed ≡ []) × IsListening before.session × (after ≡ talk (heard bytes before.session) [])
    × (length (heard_so_far before.session) ≤ most_of before.session)
IsTurn (Said bytes) before after = (before.owed ≡ bytes ++ after.owed) × (after.session ≡ before.session)

-- calls, one after the other, and what the desk does between them
abbrev pub Talks : Talk → List Turn → Talk → Type 0
Talks before [] after = WentOn before after
Talks before (turn ∷ turns) after =
    (ready done : Talk) × WentOn before ready × IsTurn turn ready done × Talks done turns after

-- what a desk tells of its turns: behind those before, they are a talk
abbrev pub Talked : Option (List Turn) → Option (List Turn) → Talk → Talk → Type 0
Talked None new before after = Unit {0}
Talked (Some old) new before after = (turns : List Turn) × (new ≡ Some (old ++ turns)) × Talks before turns after

-- ---- a whole session

-- the status of a session that ended so
abbrev pub status_of : Over → Status
status_of over.Input = status.Ok
status_of over.ReadFault = status.ReadFault
status_of over.TooLong = status.InputTooLong
status_of over.NoMemory = status.NoMemory

-- all was said, and the session ended as the status says; or, where a write failed, a front was said
abbrev pub EndsAs : Status → Talk → Type 0
EndsAs status.WriteFault after = Unit {0}
EndsAs status after = (why : Over) × (status ≡ status_of why) × (after ≡ talk (Ended why) [])

-- what is told of a session is a talk from its first byte on, which ends as its status says
abbrev pub IsServed : Status → Option (List Turn) → Option (List Turn) → Type 0
IsServed status old new = (after : Talk) × Talked old new first after × EndsAs status after

-- all that was heard and said in a session is a talk from its first byte on, which ends as its status says
abbrev pub IsSession : Status → List Turn → Type 0
IsSession status turns = (after : Talk) × Talks first turns after × EndsAs status after

-- What the calls of a session tell each other.
use Rattle.std.specs.Prelude.{◌≡◌, ◌≤◌, ℕ, false, IfErr, IfOk, List, [], ◌∷◌, ◌++◌, Option, Some, None, Result, Ok, Err}
use Rattle.dex_types.specs.declared.limits.TheConstants.{WIDE}
use Rattle.dex_answers.specs.Answers.{IsNoScript}
use Rattle.dex_answers.specs.ExitCodes.{exit_code}
use Rattle.dex_answers.specs.declared.status.Status.{Status}
use Rattle.dex_answers.specs.declared.status.Status.TheVariants as status
use Rattle.dex_io.specs.Faults.{Rose}
use Rattle.dex_desk.specs.declared.ends.Over.{Over}
use Rattle.dex_desk.specs.declared.ends.Over.TheVariants as over
use Rattle.dex_desk.specs.declared.ends.Stop.{Stop}
use Rattle.dex_desk.specs.declared.ends.Stop.TheVariants as stop
use Rattle.dex_desk.specs.declared.opening.SetUp.{SetUp}
use Rattle.dex_desk.specs.declared.opening.SetUp.TheVariants as set_up
use Rattle.dex_desk.specs.declared.serving.Goes.{Goes}
use Rattle.dex_desk.specs.declared.serving.Goes.TheVariants as goes
use Rattle.dex_desk.specs.declared.speaking.Ear.{Ear}
use Rattle.dex_desk.specs.declared.speaking.Ear.TheVariants as ear
use Rattle.dex_desk.specs.Blocks.{PlainBlock}
use Rattle.dex_desk.specs.SetUps.{IsOpened}
use Rattle.dex_desk.specs.Steps.{SaysDump}
use Rattle.dex_desk.specs.Talks.{Does, EndsWell, HasNoEnd, IsGoingOn, IsServed, Session, Talk, Talked, WentOn}
use Rattle.dex_desk.specs.Talks.{last_line, open_line, talk}
use Rattle.dex_desk.specs.Talks.Session.{Ended, Serves, Sets}
use Rattle.dex_desk.specs.Turns.{Turn, and_then}
use Rattle.dex_desk.specs.Turns.Turn.{Heard}

-- counts of faults that do not fall: of hearing, and of saying
pub record AreLater (deaf mute deaf_new mute_new : ℕ) : Type 0 where
  pub hearing : deaf ≤ deaf_new
  pub saying : mute ≤ mute_new

-- more was heard, behind what was there; or the input has ended; or hearing failed
abbrev pub TellsEar : Ear → Option (List Turn) → Option (List Turn) → List ℕ → List ℕ → Type 0
TellsEar ear.More old new before after =
    (byte : ℕ) × (bytes : List ℕ) × (new ≡ and_then old (Heard (byte ∷ bytes))) × (after ≡ before ++ byte ∷ bytes)
TellsEar ear.Ended old new before after = (new ≡ and_then old (Heard [])) × (after ≡ before)
TellsEar ear.Failed old new before after = (new ≡ old) × (after ≡ before)

-- bytes were heard, and there was no room for them
abbrev pub HeardInVain : Option (List Turn) → Option (List Turn) → Type 0
HeardInVain old new = (byte : ℕ) × (bytes : List ℕ) × (new ≡ and_then old (Heard (byte ∷ bytes)))

-- a place in a talk where all is said and the session has not ended
pub record IsClean (at : Talk) : Type 0 where
  pub quiet : at.owed ≡ []
  pub going : IsGoingOn at.session

-- where a session stops: for want of memory at a clean place, or wherever a write failed
abbrev pub StopsAt : Stop → Talk → Type 0
StopsAt stop.NoMemory at = IsClean at
StopsAt stop.WriteFault at = Unit {0}

abbrev pub Stopped : Stop → Option (List Turn) → Option (List Turn) → Talk → Type 0
Stopped why old new before = (at : Talk) × Talked old new before at × StopsAt why at

-- what a call with a desk tells where it stops
abbrev pub MayStop : {A : Type 0} → Result A Stop → Option (List Turn) → Option (List Turn) → Talk → Type 0
MayStop result old new before = IfErr result (λ why. Stopped why old new before)

-- what it tells where the session is over and all is said
abbrev pub MayEnd : Result Over Stop → Option (List Turn) → Option (List Turn) → Talk → Type 0
MayEnd result old new before = IfOk result (λ why. Talked old new before (talk (Ended why) []))

-- a write fault comes only where saying failed
abbrev pub StoppedFor : Stop → ℕ → ℕ → Type 0
StoppedFor stop.WriteFault mute mute_new = Rose mute mute_new
StoppedFor stop.NoMemory mute mute_new = Unit {0}

-- a session ended for a read fault only where hearing failed
abbrev pub EndedFor : Over → ℕ → ℕ → Type 0
EndedFor over.ReadFault deaf deaf_new = Rose deaf deaf_new
EndedFor _ deaf deaf_new = Unit {0}

abbrev pub EarFor : Ear → ℕ → ℕ → Type 0
EarFor ear.Failed deaf deaf_new = Rose deaf deaf_new
EarFor _ deaf deaf_new = Unit {0}

-- ---- set-ups

-- a desk was opened, and that was said; or the session is over
abbrev pub TellsSetUp : SetUp → Option (List Turn) → Option (List Turn) → Talk → List ℕ → List ℕ → Type 0
TellsSetUp (set_up.Open block) old new before inbox text =
    Talked old new before (talk (Serves block inbox) []) × (text ≡ [])
TellsSetUp (set_up.Over why) old new before inbox text = Talked old new before (talk (Ended why) text)

abbrev pub SetUpFor : SetUp → ℕ → ℕ → Type 0
SetUpFor (set_up.Open block) deaf deaf_new = Unit {0}
SetUpFor (set_up.Over why) deaf deaf_new = EndedFor why deaf deaf_new

-- or neither, yet
abbrev pub TellsWaiting : Option SetUp → Option (List Turn) → Option (List Turn) → Talk → List ℕ → List ℕ → List ℕ
    → Type 0
TellsWaiting None old new before kept inbox text = Talked old new before (talk (Sets kept inbox) []) × (text ≡ [])
TellsWaiting (Some found) old new before kept inbox text = TellsSetUp found old new before inbox text

abbrev pub WaitingFor : Option SetUp → ℕ → ℕ → Type 0
WaitingFor None deaf deaf_new = Unit {0}
WaitingFor (Some found) deaf deaf_new = SetUpFor found deaf deaf_new

-- a text has the last line, or there is no memory
abbrev pub TellsOver : Result (Option SetUp) Stop → Over → List ℕ → List ℕ → Type 0
TellsOver (Ok (Some (set_up.Over why))) meant old new = (why ≡ meant) × (new ≡ old ++ last_line meant)
TellsOver (Ok _) meant old new = ⊥
TellsOver (Err stop.NoMemory) meant old new = Unit {0}
TellsOver (Err stop.WriteFault) meant old new = ⊥

-- where a session stands behind lines of set-ups
abbrev pub session_of : Option PlainBlock → List ℕ → List ℕ → Session
session_of None kept inbox = Sets kept inbox
session_of (Some block) kept inbox = Serves block inbox

-- a line was taken: a desk is open, or not
abbrev pub HasDone : Option PlainBlock → Talk → List ℕ → List ℕ → List ℕ → Type 0
HasDone found before kept inbox text = Does before (talk (session_of found kept inbox) text)

-- where no desk is open no whole line is left
abbrev pub IsWaiting : Option PlainBlock → List ℕ → Type 0
IsWaiting None inbox = HasNoEnd inbox
IsWaiting (Some block) inbox = Unit {0}

-- lines were taken: a desk is open, or no whole line is left
abbrev pub HaveSetUp : Option PlainBlock → Talk → List ℕ → List ℕ → List ℕ → Type 0
HaveSetUp found before kept inbox text = WentOn before (talk (session_of found kept inbox) text) × IsWaiting found inbox

-- a set-up was opened, or refused
abbrev pub OpensOrRefuses : Option PlainBlock → List ℕ → List ℕ → List ℕ → Type 0
OpensOrRefuses None kept old new =
    (status : Status) × (told : List ℕ) × IsNoScript WIDE false kept status told × (new ≡ old ++ told)
OpensOrRefuses (Some block) kept old new = IsOpened kept block × (new ≡ old ++ open_line block.number)

-- ---- rows

-- a desk goes on, with all said; or its session is over
abbrev pub TellsGoes : Goes → Option (List Turn) → Option (List Turn) → Talk → List ℕ → List ℕ → Type 0
TellsGoes (goes.On block) old new before inbox text = Talked old new before (talk (Serves block inbox) []) × (text ≡ [])
TellsGoes (goes.Over why) old new before inbox text = Talked old new before (talk (Ended why) text)

abbrev pub GoesFor : Goes → ℕ → ℕ → Type 0
GoesFor (goes.On block) deaf deaf_new = Unit {0}
GoesFor (goes.Over why) deaf deaf_new = EndedFor why deaf deaf_new

-- the last line was taken and the accounts are written, or there is no memory
abbrev pub TellsClosed : Result Goes Stop → PlainBlock → List ℕ → List ℕ → List ℕ → Type 0
TellsClosed (Ok (goes.Over over.Input)) block text old new = EndsWell block text old (talk (Ended over.Input) new)
TellsClosed (Ok _) block text old new = ⊥
TellsClosed (Err stop.NoMemory) block text old new = Unit {0}
TellsClosed (Err stop.WriteFault) block text old new = ⊥

-- the accounts are written, and then the last line, or there is no memory
abbrev pub TellsCutOff : Result Goes Stop → Over → PlainBlock → List ℕ → List ℕ → Type 0
TellsCutOff (Ok (goes.Over why)) meant block old new =
    (why ≡ meant) × (left : PlainBlock) × (said : List ℕ) × SaysDump block left old said
    × (new ≡ said ++ last_line meant)
TellsCutOff (Ok (goes.On block)) meant before old new = ⊥
TellsCutOff (Err stop.NoMemory) meant block old new = Unit {0}
TellsCutOff (Err stop.WriteFault) meant block old new = ⊥

-- ---- a process

-- a session was served, and the process ends with the number of its status; hearing or saying failed where that says so
pub record EndsProcess (number : ℕ) (old new : Option (List Turn)) (hearing hearing_new saying saying_new : ℕ)
    : Type 0 where
  pub ended : Status
  pub is : number ≡ exit_code ended
  pub talk : IsServed ended old new
  pub deaf : ended ≡ status.ReadFault → Rose hearing hearing_new
  pub mute : ended ≡ status.WriteFault → Rose saying saying_new

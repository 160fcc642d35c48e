-- What the answers of calls tell, without their buffers.
use Rattle.std.specs.Prelude.{◌≡◌, ℕ, Bool, List, [], ◌++◌, map, Result, Ok, Err}
use Rattle.dex_audit.specs.Findings.{findings}
use Rattle.dex_types.specs.declared.limits.Limits.{Limits}
use Rattle.dex_dump.specs.declared.reader.DumpRead.{DumpRead}
use Rattle.dex_dump.specs.Answers.{AnswersDump, PlainDump}
use Rattle.dex_dump.specs.Telling.{plain_dump}
use Rattle.dex_statement.specs.Words.{Fields}
use Rattle.dex_types.specs.Accounts.{PlainAccounts, accounts_of, named_of}
use Rattle.dex_types.specs.Rows.{row_of}
use Rattle.dex_statement.specs.declared.faults.FaultKind.{FaultKind}
use Rattle.dex_statement.specs.declared.faults.RowError.{RowError}
use Rattle.dex_statement.specs.declared.faults.RowError.TheVariants as row_error
use Rattle.dex_statement.specs.Faults.{code_of, kind_number}
use Rattle.dex_script_types.specs.PlainScript.{PlainScript}
use Rattle.dex_script.specs.declared.draft.Draft.{Draft}
use Rattle.dex_script.specs.declared.draft.Start.{Start}
use Rattle.dex_script.specs.declared.fault.ScriptError.{ScriptError}
use Rattle.dex_script.specs.declared.fault.ScriptError.TheVariants as script
use Rattle.dex_script.specs.Drafts.{PlainDraft}
use Rattle.dex_script.specs.Scripts.{IsRefusedWithin, ReadsWithin, Refusal}
use Rattle.dex_script.specs.Scripts.Refusal.{AtRow, InAudit, InDump}

-- the accounts so far
abbrev pub start_of : Start → PlainAccounts
start_of start = record {
  mints = start.mints;
  srm = start.srm;
  msrm = start.msrm;
  wallets = map named_of start.wallets.items;
  markets = start.markets.items;
}

-- the script so far: the rows of the pieces before, and those of the piece that is read
abbrev pub draft_of : Draft → PlainDraft
draft_of draft = record {
  script = record {
    start = start_of draft.start;
    rows = map row_of (draft.before ++ draft.rows.items);
    lanes = draft.lanes;
    program = draft.program;
    limits = draft.limits;
  };
  taken = draft.taken;
  clock = draft.clock;
  is_first = draft.is_first;
  is_late = draft.is_late;
  items = draft.items;
  batch = draft.batch;
}

-- an error is this refusal. A lack of memory tells nothing
abbrev pub TellsRefusal : ScriptError → Result PlainDraft Refusal → Type 0
TellsRefusal (script.Row row kind code) meant =
    (fault : FaultKind) × (meant ≡ Err (AtRow row fault)) × (kind ≡ kind_number fault) × (code ≡ code_of fault)
TellsRefusal (script.Dump fault) meant = meant ≡ Err (InDump fault)
TellsRefusal (script.Audit found) meant = meant ≡ Err (InAudit found.items)
TellsRefusal script.NoMemory meant = Unit {0}

-- the draft after rows, or their first faulty one
abbrev pub TellsDraft : Result PlainDraft ScriptError → Result PlainDraft Refusal → Type 0
TellsDraft (Ok draft) meant = meant ≡ Ok draft
TellsDraft (Err error) meant = TellsRefusal error meant

-- after a row without a fault this is what it gives, and after one with a fault all is as it was. A lack of memory
-- tells nothing
abbrev pub TellsAdded : {A : Type 0} → Result (Unit {0}) RowError → A → A → Result A FaultKind → Type 0
TellsAdded (Ok done) old new meant = meant ≡ Ok new
TellsAdded (Err (row_error.Fault kind)) old new meant = (meant ≡ Err kind) × (new ≡ old)
TellsAdded (Err row_error.NoMemory) old new meant = Unit {0}

-- the draft that is left after a row, or its fault
abbrev pub TellsLeft : Result (Unit {0}) ScriptError → PlainDraft → Result PlainDraft Refusal → Type 0
TellsLeft (Ok done) left meant = meant ≡ Ok left
TellsLeft (Err error) left meant = TellsRefusal error meant

-- the dump that rows begin with, with the rows after it, where its accounts have no findings; or what is wrong with it
abbrev pub TellsStart : Limits → Result DumpRead ScriptError → List Fields → List Fields → Type 0
TellsStart limits (Ok read) rows left =
    AnswersDump limits rows (Ok (plain_dump read left)) × (findings (accounts_of read.accounts) ≡ [])
TellsStart limits (Err (script.Dump fault)) rows left = AnswersDump limits rows (Err fault)
TellsStart limits (Err (script.Audit found)) rows left =
    (dump : PlainDump) × AnswersDump limits rows (Ok dump) × (findings dump.accounts ≡ found.items) × (found.items ≡ [] → ⊥)
TellsStart limits (Err (script.Row row kind code)) rows left = ⊥
TellsStart limits (Err script.NoMemory) rows left = Unit {0}

-- an error says why the text is no script. A lack of memory tells nothing
abbrev pub TellsError : Limits → ScriptError → Bool → List ℕ → Type 0
TellsError limits (script.Row row kind code) batch text =
    (fault : FaultKind) × IsRefusedWithin limits batch text (AtRow row fault) × (kind ≡ kind_number fault) × (code ≡ code_of fault)
TellsError limits (script.Dump fault) batch text = IsRefusedWithin limits batch text (InDump fault)
TellsError limits (script.Audit found) batch text = IsRefusedWithin limits batch text (InAudit found.items)
TellsError limits script.NoMemory batch text = Unit {0}

-- the text is what the draft says
abbrev pub TellsText : Limits → Result PlainDraft ScriptError → Bool → List ℕ → Type 0
TellsText limits (Ok draft) batch text = ReadsWithin limits batch text draft.script
TellsText limits (Err error) batch text = TellsError limits error batch text

-- the text is this script, or it is none for this reason, within these limits
abbrev pub TellsScript : Limits → Result PlainScript ScriptError → Bool → List ℕ → Type 0
TellsScript limits (Ok script) batch text = ReadsWithin limits batch text script
TellsScript limits (Err error) batch text = TellsError limits error batch text

-- What the answer of a call about a row tells.
use Rattle.std.specs.Prelude.{◌≡◌, Result, Ok, Err}
use Rattle.dex_statement.specs.declared.faults.FaultKind.{FaultKind}
use Rattle.dex_statement.specs.declared.faults.RowError.{RowError}
use Rattle.dex_statement.specs.declared.faults.RowError.TheVariants.{Fault, NoMemory}

-- The answer is what is meant, a value or a fault, as a view shows it. A lack of memory tells nothing.
abbrev pub TellsAs : {A B : Type 0} → (A → B) → Result A RowError → Result B FaultKind → Type 0
TellsAs view (Ok x) meant = meant ≡ Ok (view x)
TellsAs view (Err (Fault kind)) meant = meant ≡ Err kind
TellsAs view (Err NoMemory) meant = Unit {0}

-- the answer is what is meant, a value without buffers or a fault; a lack of memory tells nothing
abbrev pub Tells : {A : Type 0} → Result A RowError → Result A FaultKind → Type 0
Tells (Ok x) meant = meant ≡ Ok x
Tells (Err (Fault kind)) meant = meant ≡ Err kind
Tells (Err NoMemory) meant = Unit {0}

-- what is left is what is meant, or the fault of the row is, and then what is left does not matter; a lack of memory
-- tells nothing
abbrev pub TellsIn : {A : Type 0} → Result (Unit {0}) RowError → A → Result A FaultKind → Type 0
TellsIn (Ok done) left meant = meant ≡ Ok left
TellsIn (Err (Fault kind)) left meant = meant ≡ Err kind
TellsIn (Err NoMemory) left meant = Unit {0}

-- an error is the fault that is meant; a lack of memory tells nothing
abbrev pub TellsFault : {A : Type 0} → RowError → Result A FaultKind → Type 0
TellsFault (Fault kind) meant = meant ≡ Err kind
TellsFault NoMemory meant = Unit {0}

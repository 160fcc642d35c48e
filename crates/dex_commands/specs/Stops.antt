-- How the parts of a run go.
use Rattle.std.specs.Prelude.{ℕ, ◌≡◌, ◌<◌, ◌⊎◌, List, codes, length, take}
use Rattle.std.specs.Io.KnownBytes.{append_known}
use Rattle.dex_io.specs.declared.failure.ReadAll.{ReadAll}
use Rattle.dex_io.specs.declared.failure.ReadAll.TheVariants as reading
use Rattle.dex_io.specs.Faults.{Rose}
use Rattle.dex_refusal_lines.specs.Lines.{line}
use Rattle.dex_answers.specs.declared.status.Status.{Status}
use Rattle.dex_answers.specs.declared.status.Status.TheVariants as status
use Rattle.dex_commands.specs.declared.stop.Stop.{Stop}
use Rattle.dex_commands.specs.declared.stop.Stop.TheVariants as stop
use Rattle.dex_commands.specs.Ending.{Output, usage_line}

-- the status that stands where a run stopped before it had an answer
abbrev pub status_of : Stop → Status
status_of stop.Usage = status.Usage
status_of stop.ReadFault = status.ReadFault
status_of stop.InputTooLong = status.InputTooLong
status_of stop.NoMemory = status.NoMemory

-- the line that it writes
abbrev pub line_of : Stop → List ℕ
line_of stop.Usage = usage_line
line_of stop.ReadFault = line (codes "read failed")
line_of stop.InputTooLong = line (codes "input too long")
line_of stop.NoMemory = line (codes "no memory")

-- where reading stopped, the run stops
abbrev pub stop_of : ReadAll → Stop
stop_of reading.Fault = stop.ReadFault
stop_of reading.TooLong = stop.InputTooLong
stop_of reading.NoMemory = stop.NoMemory

-- a text is written under the status that stands: whole, or else a front of it, and then a write failed
abbrev pub Writes : Output → Status → List ℕ → Status → Type 0
Writes o stood text ended =
    ((ended ≡ stood) × (o.taken_after ≡ append_known o.taken text))
    ⊎ ((ended ≡ status.WriteFault) × Rose o.faults o.faults_after
    × (sent : ℕ) × (sent < length text) × (o.taken_after ≡ append_known o.taken (take sent text)))

-- The exit status of the process.
use Rattle.std.specs.Prelude.{ℕ}
use Rattle.dex_answers.specs.declared.status.Status.{Status}
use Rattle.dex_answers.specs.declared.status.Status.TheVariants as status

-- the number that each status ends the process with
abbrev pub exit_code : Status → ℕ
exit_code status.Ok = 0
exit_code status.Usage = 1
exit_code status.ScriptRefused = 2
exit_code status.DumpRefused = 3
exit_code status.AuditFailed = 3
exit_code status.ReadFault = 4
exit_code status.WriteFault = 5
exit_code status.InputTooLong = 6
exit_code status.NoMemory = 7
exit_code status.MigrateRefused = 8

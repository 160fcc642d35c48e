use Rattle.std.proofs.Common.{arith}
use Rattle.dex_commands.proofs.Endings.{stands-stop}
use Rattle.dex_commands.proofs.input.read_input.Goals as goal

pub returns-in-Ok-clause-read : goal.returns-in-Ok-clause-read
returns-in-Ok-clause-read g c = record { end = c.in-Ok.ensures.end; told = c.in-Ok.ensures.whole; short = omega (arith, c.in-Ok.ensures.short) }

pub returns-in-Err-clause-stopped : goal.returns-in-Err-clause-stopped
returns-in-Err-clause-stopped g c = λ command reads.
    rw c.from.ensures (stands-stop c.args.limits.now command _ c.in-Err.why reads c.in-Err.ensures.fault c.in-Err.ensures.too_long)

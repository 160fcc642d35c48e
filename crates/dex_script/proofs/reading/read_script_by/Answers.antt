use Rattle.std.proofs.Common.{Bool, subst, sym}
use Rattle.dex_script_types.specs.PlainScript.{PlainScript}
use Rattle.dex_script_types.specs.Facts.{HasNoSwap}
use Rattle.dex_script.specs.Scripts.{ReadsWithin}
use Rattle.dex_script.proofs.reading.read_script_by.Goals as goal

pub returns-in_ok-script-in-Ok-clause-apart : goal.returns-in_ok-script-in-Ok-clause-apart
returns-in_ok-script-in-Ok-clause-apart g c = λ is.
    subst (λ (script : PlainScript). HasNoSwap script.rows) (sym c.in_ok-script-in-Ok.ensures)
    (c.a_script_for_batches_has_no_swap.ensures c.args.limits.now c.args.bytes.now c.in-Ok.reader.script
    (subst (λ (batch : Bool). ReadsWithin c.args.limits.now batch c.args.bytes.now c.in-Ok.reader.script) is c.in-Ok.ensures))

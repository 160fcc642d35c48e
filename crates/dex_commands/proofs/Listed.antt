-- What a script leaves in its listed order, from how the run ended.
use Rattle.std.proofs.Common.{◌≡◌, ◌∙◌, ℕ, Bool, true, false, List, Option, Some, ap, subst}
use Rattle.std.specs.Io.KnownBytes.{append_known}
use Rattle.dex_words.specs.declared.command.Command.{Command}
use Rattle.dex_words.specs.declared.command.Command.TheVariants.{Batch, Replay}
use Rattle.dex_types.specs.declared.limits.TheConstants.{STANDARD}
use Rattle.dex_answers.specs.declared.status.Status.{Status}
use Rattle.dex_answers.specs.declared.status.Status.TheVariants as status
use Rattle.dex_answers.specs.Answers.{Reported}
use Rattle.dex_script.specs.Scripts.{Reads}
use Rattle.dex_commands.specs.Ending.{Ends, HasRead, Input, Output}
use Rattle.dex_commands.specs.Listed.{IsListed, ListedOrder, WhereListed}

-- what was written of what was read, where the source told these bytes
listed-end : (batch : Bool) (i : Input) (o : Output) (bytes all text : List ℕ) → HasRead STANDARD i bytes → Reported STANDARD batch bytes text
    → o.taken_after ≡ append_known o.taken text → i.left ≡ Some all → ListedOrder batch all o
listed-end batch i o bytes all text read a taken told =
    let same : bytes ≡ all = rw told at read.told in
    record {
      script = a.0;
      outcome = a.1;
      reads = subst (λ (b : List ℕ). Reads batch b a.0) same a.2;
      replay = a.3.replay;
      run = a.3.run;
      paired = a.3.paired;
      told = a.4;
      taken = taken ∙ ap (append_known o.taken) a.5;
    }

listed-ok : (batch : Bool) (asked : Option Command) (i : Input) (o : Output) → Ends asked i o status.Ok → IsListed batch asked → (bytes : List ℕ)
    → i.left ≡ Some bytes → ListedOrder batch bytes o
listed-ok false (Some Replay) i o end is bytes told = listed-end false i o end.stands.0 bytes end.text end.stands.1 end.stands.2 end.taken told
listed-ok true (Some (Batch workers)) i o end is bytes told = listed-end true i o end.stands.0 bytes end.text end.stands.1 end.stands.2 end.taken told
listed-ok batch asked i o end is bytes told = absurd is

pub listed : (asked : Option Command) (i : Input) (o : Output) (ended : Status) → Ends asked i o ended → WhereListed ListedOrder asked i o ended
listed asked i o ended end batch is done bytes told =
    listed-ok batch asked i o (subst (λ (s : Status). Ends asked i o s) done end) is bytes told

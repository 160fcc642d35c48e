use Rattle.std.proofs.Common.{ℕ, List}
use Rattle.dex_script_types.specs.PlainScript.{PlainScript}
use Rattle.dex_stream.specs.Heard.{HasPlayed}
use Rattle.dex_stream.specs.Parts.{IsBehind, IsHeardSoFar}
use Rattle.dex_stream.proofs.playing.play_rest.Given as goal

abbrev pub invariant-parts : goal.invariant-parts
invariant-parts g l = (text : List ℕ) (script : PlainScript) → HasPlayed g.L.Listener.heard script l.fn.first → IsBehind l.limits text script l.fn.behind
    → IsHeardSoFar g.L.Listener.heard l.limits text l.listener l.playing l.left

use Rattle.dex_stream.proofs.playing.play_whole.Goals as goal

pub returns-clause-played : goal.returns-clause-played
returns-clause-played g c =
    record { script = c.in_ok-script.script; reads = c.in_ok-script.ensures.told; plays = c.in_ok-played.ensures }

use Rattle.dex_stream.proofs.playing.play_in_parts.Goals as goal

pub play_rest-requires : goal.play_rest-requires
play_rest-requires g c =
    let first = rw c.in-Some.is at c.in_ok-first.ensures.first in
    (c.args.bytes.now, c.in-Some.first.script, c.in_ok-played.ensures, rw c.in-Some-behind.is at first.begins)

use Rattle.std.proofs.Common.{arith, rules}
use Rattle.std.proofs.lemmas.Grind.{common_steps}
use Rattle.dex_io.proofs.Known.{read_more, TookUpTo-known, TookMore-known}
use Rattle.dex_io.proofs.reading.read_all.Goals as goal

pub returns-then-count-room-clause-too_long : goal.returns-then-count-room-clause-too_long
returns-then-count-room-clause-too_long g c =
    let more = TookMore-known c.args.limit _ _ _ (grind (arith, common_steps)) (read_more _ _ _ _ _ c.chunks.invariant.read c.in_ok-count.ensures.bytes) in
    search (rules, more)

pub returns-then-count-room-clause-front : goal.returns-then-count-room-clause-front
returns-then-count-room-clause-front g c =
    TookUpTo-known _ _ _ _ (grind (arith, common_steps)) (read_more _ _ _ _ _ c.chunks.invariant.read c.in_ok-count.ensures.bytes)

pub returns-in_err-extend_from_slice-clause-front :
    goal.returns-in_err-extend_from_slice-clause-front
returns-in_err-extend_from_slice-clause-front g c =
    TookUpTo-known _ _ _ _ (grind (arith, common_steps)) (read_more _ _ _ _ _ c.chunks.invariant.read c.in_ok-count.ensures.bytes)

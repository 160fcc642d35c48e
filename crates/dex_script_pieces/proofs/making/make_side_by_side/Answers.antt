use Rattle.std.proofs.Common.{arith}
use Rattle.std.proofs.lemmas.List.{take_at}
use Rattle.dex_script_pieces.proofs.Made.{if-made}
use Rattle.dex_script_pieces.proofs.making.make_side_by_side.Goals as goal

pub returns : goal.returns
returns g c =
    let after = take_at c.run_jobs.new.jobs _ c.in_ok-jobs.jobs.len (omega (arith, c.run_jobs.ensures.count, c.deref_mut.ensures.len)) in
    if-made c.made_by.result (λ made. made.items) c.args.markets.items c.in_ok-jobs.jobs.items c.deref_mut.result.now c.run_jobs.new.jobs _
    c.deref_mut.ensures.value c.in_ok-jobs.ensures
    c.run_jobs.ensures.ran after c.made_by.ensures

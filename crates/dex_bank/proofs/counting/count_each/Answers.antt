use Rattle.std.proofs.Common.{ℕ, arith, sym, subst}
use Rattle.dex_bank.specs.Counts.{HaveSpare}
use Rattle.dex_bank.proofs.OpenRooms.{counted-more, spare-more}
use Rattle.dex_bank.proofs.counting.count_each.Goals as goal

pub count-requires : goal.count-requires
count-requires c =
    spare-more c.args.told.now c.loop-i.i c.args.counts.now c.loop-i.counts (omega (arith, c.told-told))
    (subst (λ (n : ℕ). HaveSpare n c.args.counts.now) (sym c.told-told) c.requires) c.loop-i.invariant

pub loop-i-preserved : goal.loop-i-preserved
loop-i-preserved c =
    counted-more c.args.told.now c.loop-i.i c.args.counts.now c.loop-i.counts c.count.new.counts (omega (arith, c.told-told)) c.loop-i.invariant c.count.ensures

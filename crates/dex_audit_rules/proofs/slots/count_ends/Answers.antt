use Rattle.std.proofs.Common.{arith}
use Rattle.dex_audit_rules.specs.Slots.{holding}
use Rattle.dex_audit_rules.proofs.slots.count_ends.Goals as goal

pub returns : goal.returns
returns c = λ bids asks events rest are.
    omega (
      arith,
      c.times-rests.ensures c.args.taken.now.client,
      c.times-ended.ensures c.args.taken.now.client,
      rest (holding c.args.taken.now),
      are (holding c.args.taken.now),
      c.from.ensures,
      c.from-2.ensures,
    )

use Rattle.dex_orders.proofs.BitLaw.{is_set-without_bit, is_set-without_bit_other, without_bit-is}
use Rattle.std.proofs.Common.{ap, ◌∙◌}
use Rattle.dex_orders.specs.Bits.{is_set}
use Rattle.dex_orders.proofs.bits.without_bit.Goals as goal

pub returns-clause-bits : goal.returns-clause-bits
returns-clause-bits c = without_bit-is c.args.bits c.args.place c.requires

pub returns-clause-same : goal.returns-clause-same
returns-clause-same c = ap (λ n. is_set n c.args.place) (without_bit-is c.args.bits c.args.place c.requires) ∙ is_set-without_bit c.args.bits c.args.place c.requires

pub returns-clause-others : goal.returns-clause-others
returns-clause-others c other low apart =
    ap (λ n. is_set n other) (without_bit-is c.args.bits c.args.place c.requires) ∙ is_set-without_bit_other c.args.bits c.args.place c.requires other low apart

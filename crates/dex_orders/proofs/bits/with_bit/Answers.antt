use Rattle.dex_orders.proofs.BitLaw.{is_set-with_bit, is_set-with_bit_other, with_bit-is}
use Rattle.std.proofs.Common.{ap, ◌∙◌}
use Rattle.dex_orders.specs.Bits.{is_set}
use Rattle.dex_orders.proofs.bits.with_bit.Goals as goal

pub returns-clause-bits : goal.returns-clause-bits
returns-clause-bits c = with_bit-is c.args.bits c.args.place c.requires

pub returns-clause-same : goal.returns-clause-same
returns-clause-same c = ap (λ n. is_set n c.args.place) (with_bit-is c.args.bits c.args.place c.requires) ∙ is_set-with_bit c.args.bits c.args.place c.requires

pub returns-clause-others : goal.returns-clause-others
returns-clause-others c other low apart =
    ap (λ n. is_set n other) (with_bit-is c.args.bits c.args.place c.requires) ∙ is_set-with_bit_other c.args.bits c.args.place c.requires other apart

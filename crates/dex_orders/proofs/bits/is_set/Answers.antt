use Rattle.std.proofs.Common.{ap, eqb}
use Rattle.std.proofs.lemmas.Nat.Bits.{shr_and_one}
use Rattle.dex_orders.proofs.bits.is_set.Goals as goal

pub returns : goal.returns
returns c = ap (λ n. eqb n 1) (shr_and_one c.args.bits c.args.place)

use Rattle.std.proofs.Common.{ap, ◌∙◌, ◌/◌, ◌^◌, eqb}
use Rattle.dex_types.proofs.Lanes.{no_others_from}
use Rattle.dex_types.proofs.addresses.is_zero_from.Goals as goal

pub returns : goal.returns
returns c = ap (λ n. eqb (n / 2 ^ c.args.place) 0) c.others.ensures ∙ no_others_from c.args.bytes.now c.args.place

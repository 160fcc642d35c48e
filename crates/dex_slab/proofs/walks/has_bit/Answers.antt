use Rattle.std.proofs.Common.{◌≡◌, ◌-◌, ◌/◌, ◌%◌, ◌^◌, suc, eqb, ap, ◌∙◌, arith}
use Rattle.std.proofs.lemmas.Nat.Bits.{shr_and_one}
use Rattle.dex_slab.specs.Path.{bit_behind}
use Rattle.dex_slab.specs.Tree.{first_bits}
use Rattle.dex_slab.proofs.walks.has_bit.Goals as goal

pub returns : goal.returns
unfolding bit_behind first_bits
returns c =
    let place : 127 - c.args.count ≡ 128 - suc c.args.count = omega arith in
    ap (λ n. eqb n 1) (shr_and_one c.args.key (127 - c.args.count)) ∙ ap (λ n. eqb (c.args.key / 2 ^ n % 2) 1) place

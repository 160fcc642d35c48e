use Rattle.std.proofs.Common.{◌≡◌, ◌≤◌, ◌==◌, not, length, sym, ap, ◌∙◌, arith}
use lib.Count.{count_trailing_zeros}
use Rattle.std.specs.List.{prefix_len}
use Rattle.std.proofs.lemmas.List.Sums.{prefix_len-le-length}
use Rattle.std.proofs.lemmas.Simd.{leading_from_mask_l, trailing_mask_l}
use Rattle.dex_types.proofs.Lanes.{first_zero_is}
use Rattle.dex_types.proofs.addresses.first_zero.Goals as goal

pub returns-then-zeros-eq0-clause-place : goal.returns-then-zeros-eq0-clause-place
returns-then-zeros-eq0-clause-place c =
    let v = c.args.bytes.now in
    let long : length v ≡ 32 = omega arith in
    sym long ∙ sym (leading_from_mask_l (λ b. b == 0) v (sym c.zeros-zeros.ensures ∙ c.if-zeros-eq0.true)) ∙ first_zero_is v

pub returns-else-zeros-eq0-clause-within : goal.returns-else-zeros-eq0-clause-within
returns-else-zeros-eq0-clause-within c =
    let v = c.args.bytes.now in
    let long : length v ≡ 32 = omega arith in
    let place = trailing_mask_l (λ b. b == 0) 64 v (omega arith) (omega (arith, c.zeros-zeros.ensures, c.if-zeros-eq0.false)) in
    omega (arith, ap (count_trailing_zeros 64) c.zeros-zeros.ensures, place, prefix_len-le-length (λ b. not (b == 0)) v)

pub returns-else-zeros-eq0-clause-place : goal.returns-else-zeros-eq0-clause-place
returns-else-zeros-eq0-clause-place c =
    let v = c.args.bytes.now in
    let long : length v ≡ 32 = omega arith in
    ap (count_trailing_zeros 64) c.zeros-zeros.ensures ∙ trailing_mask_l (λ b. b == 0) 64 v (omega arith) (omega (arith, c.zeros-zeros.ensures, c.if-zeros-eq0.false)) ∙ first_zero_is v

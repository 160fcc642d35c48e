use Rattle.std.proofs.Common.{◌≡◌, ℕ, ◌+◌, ◌-◌, take, drop, ap, ◌∙◌, arith}
use Rattle.dex_lent.proofs.flat.data_of.Goals as goal

pub returns : goal.returns
returns c =
    let n : c.start_of-at.result + 3228 - c.start_of-at.result ≡ 3228 = omega arith in
    ap (λ (n : ℕ). take n (drop c.start_of-at.result c.args.bytes.now)) n ∙ ap (λ (at : ℕ). take 3228 (drop at c.args.bytes.now)) c.start_of-at.ensures

use Rattle.std.proofs.Common.{◌≡◌, ℕ, ◌+◌, ◌-◌, ◌*◌, take, drop, ap, arith}
use Rattle.dex_check.proofs.copying.record_at.Goals as goal

pub returns : goal.returns
returns c =
    let n : 3260 * c.args.place + 3260 - 3260 * c.args.place ≡ 3260 = omega arith in
    ap (λ (n : ℕ). take n (drop (3260 * c.args.place) c.args.bytes.now)) n

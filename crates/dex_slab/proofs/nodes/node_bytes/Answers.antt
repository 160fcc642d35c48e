use Rattle.std.proofs.Common.{◌≡◌, ℕ, ◌+◌, ◌-◌, take, drop, ap, ◌∙◌, arith}
use Rattle.dex_fields.specs.Bytes.{bytes_in}
use Rattle.dex_slab.proofs.nodes.node_bytes.Goals as goal

pub returns-clause-value : goal.returns-clause-value
unfolding bytes_in
returns-clause-value c =
    let start : ℕ = c.start_of-start.result in
    let size : start + 72 - start ≡ 72 = omega arith in
    ap (λ (n : ℕ). take n (drop start c.args.bytes.now)) size ∙ ap (λ (n : ℕ). take 72 (drop n c.args.bytes.now)) c.start_of-start.ensures

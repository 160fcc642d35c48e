use Rattle.std.proofs.Common.{ℕ, take, drop, ap, arith}
use Rattle.dex_fields.specs.Bytes.{bytes_in}
use Rattle.dex_fields.proofs.field.piece.Goals as goal

pub returns-clause-value : goal.returns-clause-value
unfolding bytes_in
returns-clause-value c =
    let field = c.args.field in
    ap (λ (n : ℕ). take n (drop field.at c.args.bytes.now)) (omega arith)

use Rattle.std.proofs.Common.{ℕ, drop, take, ap, ◌∙◌, arith}
use Rattle.dex_fields.specs.Bytes.{bytes_in}
use Rattle.dex_token.specs.Faults.{first_set}
use Rattle.dex_token.proofs.rules.zero_rule.Goals as goal

pub returns : goal.returns
unfolding bytes_in
returns c =
    c.first_set.ensures ∙ ap (λ (n : ℕ). first_set c.args.field.at (take n (drop c.args.field.at c.args.bytes.now))) (omega arith)

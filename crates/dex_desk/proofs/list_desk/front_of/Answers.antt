use Rattle.std.proofs.Common.{◌∙◌, ◌++◌, List, ℕ, ap, drop, sym}
use Rattle.dex_desk.proofs.list_desk.front_of.Goals as goal

pub returns-clause-parts : goal.returns-clause-parts
returns-clause-parts c =
    c.split_at.ensures.by_index.0
    ∙ ap (λ (l : List ℕ). c.split_at.result.0.now ++ l) (c.split_at.ensures.back ∙ ap (λ (n : ℕ). drop n c.args.bytes.now) (sym c.split_at.ensures.front_len))

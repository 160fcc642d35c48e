-- Why states of a slab that lie in one place and keep what is around it chain.
use Rattle.std.proofs.Common.{ℕ, List, length, refl, subst, ◌∙◌}
use Rattle.dex_fields.specs.Bytes.{ChangesOnly}
use Rattle.dex_slab.specs.Changes.{KeepsFrame, slab_field}

-- bytes that stay keep their frame
pub frame_stays : (bytes : List ℕ) → KeepsFrame bytes bytes
frame_stays bytes = record { size = refl; others = λ place beside. refl }

-- and so do two changes, one after the other
pub frame_chains : (first second third : List ℕ) → KeepsFrame first second → KeepsFrame second third → KeepsFrame first third
frame_chains first second third here there =
    let others : ChangesOnly (slab_field (length first)) second third =
    subst (λ (n : ℕ). ChangesOnly (slab_field n) second third) here.size there.others in
    record { size = there.size ∙ here.size; others = λ place beside. others place beside ∙ here.others place beside }

-- Findings of many items, joined in the items' order.
use Rattle.std.specs.Prelude.{ℕ, ◌+◌, List, [], ◌∷◌, ◌++◌, Bool, if◌then◌else◌}
use Rattle.dex_audit_rules.specs.declared.finding.Finding.{Finding}

-- what each item of a list gives, by its number from a first one on, joined
abbrev pub numbered : {X Y : Type 0} → (ℕ → X → List Y) → ℕ → List X → List Y
numbered give number [] = []
numbered give number (x ∷ xs) = give number x ++ numbered give (number + 1) xs

-- the finding, unless the rule holds
abbrev pub unless : Bool → Finding → List Finding
unless holds finding = if holds then [] else finding ∷ []

-- Values that may be there.
use Rattle.std.proofs.Common.{◌≡◌, Some, None}

pub same_some : {A : Type 0} → (a b : A) → Some a ≡ Some b → a ≡ b
same_some a b e = cc

pub none_some : {A : Type 0} → (a : A) → None ≡ Some a → ⊥
none_some a e = cc

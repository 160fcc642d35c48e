-- A chain of rules gives the first that is broken: what it says that none is.
use Rattle.std.proofs.Common.{◌≡◌, Bool, true, false, cond, Option, Some, None, refl, ap, ◌∙◌}
use Rattle.std.specs.Option.{option_map, option_or}

module _ {X : Type 0} where
  -- a test that breaks the rule where it holds
  pub cond_none : (b : Bool) (fault : X) (other : Option X) → cond b (Some fault) other ≡ None → (b ≡ false) × (other ≡ None)
  cond_none true fault other h = absurd cc
  cond_none false fault other h = (refl, h)

  -- a test that breaks the rule where it fails
  pub cond_holds : (b : Bool) (fault : X) (other : Option X) → cond b other (Some fault) ≡ None → (b ≡ true) × (other ≡ None)
  cond_holds true fault other h = (refl, h)
  cond_holds false fault other h = absurd cc

  -- neither of two rules
  pub or_none : (a b : Option X) → option_or a b ≡ None → (a ≡ None) × (b ≡ None)
  or_none None b h = (refl, h)
  or_none (Some x) b h = absurd cc

  pub none_or : (a b : Option X) → a ≡ None → b ≡ None → option_or a b ≡ None
  none_or a b ha hb = ap (λ (o : Option X). option_or o b) ha ∙ hb

-- a rule that is told in another way
pub mapped_none : {X Y : Type 0} (f : X → Y) (o : Option X) → option_map f o ≡ None → o ≡ None
mapped_none f None h = refl
mapped_none f (Some x) h = absurd cc

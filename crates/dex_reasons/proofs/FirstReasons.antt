-- the first of several reasons, joined one after another or in two parts
use Rattle.std.proofs.Common.{◌≡◌, List, [], ◌∷◌, ◌++◌, Option, Some, None, refl}
use Rattle.std.specs.Option.{option_or}
use Rattle.dex_types.specs.declared.refusals.Refusal.{Refusal}
use Rattle.dex_types.specs.Reasons.{first_of}

-- reasons joined from the left
abbrev pub joined : Option Refusal → List (Option Refusal) → Option Refusal
joined reason [] = reason
joined reason (next ∷ later) = joined (option_or reason next) later

-- they give the first
pub joined-first : (reason : Option Refusal) (later : List (Option Refusal)) → joined reason later ≡ first_of (reason ∷ later)
joined-first None [] = refl
joined-first (Some why) [] = refl
joined-first None (next ∷ later) = joined-first next later
joined-first (Some why) (next ∷ later) = joined-first (Some why) later

-- a reason among the earlier ones is the first of all
pub first_of-early : (early late : List (Option Refusal)) (why : Refusal) → first_of early ≡ Some why → first_of (early ++ late) ≡ Some why
first_of-early [] late why is = absurd cc
first_of-early (None ∷ early) late why is = first_of-early early late why is
first_of-early ((Some other) ∷ early) late why is = is

-- where no earlier reason holds, the first of all is among the later ones
pub first_of-late : (early late : List (Option Refusal)) → first_of early ≡ None → first_of (early ++ late) ≡ first_of late
first_of-late [] late none = refl
first_of-late (None ∷ early) late none = first_of-late early late none
first_of-late ((Some why) ∷ early) late none = absurd cc

-- the first of one reason is that one
pub first_of-one : (reason : Option Refusal) → first_of (reason ∷ []) ≡ reason
first_of-one None = refl
first_of-one (Some why) = refl

-- four of them, by other names for the reasons
pub first_of-same : (a a' b b' c c' d d' : Option Refusal) → a ≡ a' → b ≡ b' → c ≡ c' → d ≡ d' → first_of (a ∷ b ∷ c ∷ d ∷ []) ≡ first_of (a' ∷ b' ∷ c' ∷ d' ∷ [])
first_of-same a a' b b' c c' d d' first second third fourth = rw (first, second, third, fourth) refl

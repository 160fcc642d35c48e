-- The account that a row names first.
use Rattle.std.proofs.Common.{◌<◌, ◌≡◌, Bool, true, false, List, [], ◌∷◌, length, get_or, Some, None, refl, arith, if◌then◌else◌}
use Rattle.dex_types.specs.declared.addresses.Address.{Address}
use Rattle.dex_eager.specs.Eager.{Eager, EagerStep, by_account, has_account}
use Rattle.dex_eager_market.specs.Acting.{acted}

-- an address that stands for none
abbrev pub no_address : Address
no_address = record { 0 = [] }

-- what it does is what is done for it, where it is known
pub acts-named : (act : Address → EagerStep) (e : Eager) (named : List Address) (d : Address) (known : Bool) → 0 < length named → has_account (get_or named 0 d) e.worths ≡ known
    → by_account act e named ≡ acted act e (if known then Some (get_or named 0 d) else None)
acts-named act e [] d known some has = absurd (omega arith)
acts-named act e (first ∷ others) d true some has = rw has refl
acts-named act e (first ∷ others) d false some has = rw has refl

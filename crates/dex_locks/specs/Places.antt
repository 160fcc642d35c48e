-- Addresses in some places, from the front.
use Rattle.std.specs.Prelude.{List, [], ◌∷◌, Option, Some, None, if◌then◌else◌}
use Rattle.dex_types.specs.declared.addresses.Address.{Address}
use Rattle.dex_types.specs.Addresses.{is_same}
use Rattle.dex_types.specs.Wallets.{is_lower}
use Rattle.dex_locks.specs.declared.insert.Carry.{Carry}
use Rattle.dex_locks.specs.declared.insert.Carry.TheVariants.{Nothing, New, Moved}

-- the addresses up to the first place that is free
abbrev pub front : List (Option Address) → List Address
front [] = []
front (None ∷ places) = []
front ((Some address) ∷ places) = address ∷ front places

-- each place is free
abbrev pub AreFree : List (Option Address) → Type 0
AreFree [] = Unit {0}
AreFree (None ∷ places) = AreFree places
AreFree ((Some address) ∷ places) = ⊥

-- after the first free place each is free
abbrev pub StandInFront : List (Option Address) → Type 0
StandInFront [] = Unit {0}
StandInFront (None ∷ places) = AreFree places
StandInFront ((Some address) ∷ places) = StandInFront places

-- ---- putting an address among others

-- the address of a role is new
abbrev pub carry_of : Option Address → Carry
carry_of None = Nothing
carry_of (Some address) = New address

-- what a place gives up
abbrev pub moved : Option Address → Carry
moved None = Nothing
moved (Some address) = Moved address

-- the places when it is done; what the last place gives up is lost
unfoldable pub put : Carry → List (Option Address) → List (Option Address)
put Nothing places = places
put (Moved address) [] = []
put (Moved address) (place ∷ places) = Some address ∷ put (moved place) places
put (New address) [] = []
put (New address) (None ∷ places) = Some address ∷ places
put (New address) ((Some first) ∷ places) =
    if is_same address first then Some first ∷ places
    else (if is_lower address first then Some address ∷ put (Moved first) places else Some first ∷ put (New address) places)

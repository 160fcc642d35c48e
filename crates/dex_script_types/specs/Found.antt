-- Wallets that are found by their addresses.
use Rattle.std.specs.Prelude.{ℕ, Bool, true, ◌&&◌, List, [], ◌∷◌, Option, Some, None}
use Rattle.std.specs.List.{position}
use Rattle.std.specs.Option.{is_some, unwrap_or}
use Rattle.dex_types.specs.declared.addresses.Address.{Address}
use Rattle.dex_world.specs.Fold.{is_role}

-- the wallet of a role is found, or the role names none
abbrev pub is_found : (Address → Option ℕ) → Option Address → Bool
is_found place_of None = true
is_found place_of (Some address) = is_some (place_of address)

-- the wallets of four roles are found
abbrev pub are_found :
    (Address → Option ℕ) → Option Address → Option Address → Option Address → Option Address → Bool
are_found place_of coin pc discount referrer =
    is_found place_of coin && is_found place_of pc && is_found place_of discount && is_found place_of referrer

-- the place of a role's wallet, if it is found; 65535 of a role that names none
abbrev pub role_place : (Address → Option ℕ) → Option Address → Option ℕ
role_place place_of None = Some 65535
role_place place_of (Some address) = place_of address

-- a place in front of others, if all are there
abbrev pub with_place : Option ℕ → Option (List ℕ) → Option (List ℕ)
with_place (Some place) (Some places) = Some (place ∷ places)
with_place _ _ = None

-- the places of these wallets, if all are found
abbrev pub places_by : (Address → Option ℕ) → List (Option Address) → Option (List ℕ)
places_by place_of [] = Some []
places_by place_of (wallet ∷ wallets) = with_place (role_place place_of wallet) (places_by place_of wallets)

-- four places, if all are there
abbrev pub all_four : Option ℕ → Option ℕ → Option ℕ → Option ℕ → Option (List ℕ)
all_four first second third fourth =
    with_place first (with_place second (with_place third (with_place fourth (Some []))))

-- the index of a role's wallet among these; 4 of a role that names none, or none of these
abbrev pub index_among : List (Option Address) → Option Address → ℕ
index_among wallets None = 4
index_among wallets (Some address) = unwrap_or (position (λ wallet. is_role wallet address) wallets) 4

-- Where the wallets that a row names stand.
use Rattle.std.specs.Prelude.{◌≡◌, ℕ, List, [], ◌∷◌, Option, Some, None, slice_index_or}
use Rattle.std.specs.List.{All, position}
use Rattle.dex_types.specs.declared.addresses.Address.{Address}
use Rattle.dex_types.specs.Addresses.{is_same}
use Rattle.dex_types.specs.Wallets.{with_role}
use Rattle.dex_world.specs.declared.places.RowPlaces.{RowPlaces}
use Rattle.dex_world.specs.declared.places.RowWallets.{RowWallets}

-- the place at an index, and 65535, at which no wallet stands, behind the last
abbrev pub place_at : RowWallets → ℕ → ℕ
place_at wallets index = slice_index_or wallets.places index 65535

-- the place of each role's wallet; 65535 of a role that names none
abbrev pub coin_at : RowPlaces → ℕ
coin_at at = place_at at.wallets at.wallets.coin

abbrev pub pc_at : RowPlaces → ℕ
pc_at at = place_at at.wallets at.wallets.pc

abbrev pub discount_at : RowPlaces → ℕ
discount_at at = place_at at.wallets at.wallets.discount

abbrev pub referrer_at : RowPlaces → ℕ
referrer_at at = place_at at.wallets at.wallets.referrer

-- the wallets that four roles name, by rising address, each once
abbrev pub wallets_of_roles : Option Address → Option Address → Option Address → Option Address → List Address
wallets_of_roles coin pc discount referrer =
    with_role coin (with_role pc (with_role discount (with_role referrer [])))

-- of these addresses each stands at its place, from the front, and behind the last one stands 65535
abbrev pub ArePlacesOf : (Address → Option ℕ) → List Address → List ℕ → Type 0
ArePlacesOf place_of [] places = All (λ (place : ℕ). place ≡ 65535) places
ArePlacesOf place_of (address ∷ addresses) [] = ⊥
ArePlacesOf place_of (address ∷ addresses) (place ∷ places) =
    (place_of address ≡ Some place) × ArePlacesOf place_of addresses places

-- a role names the address of this index among these; 4 is that of a role that names none
abbrev pub IsIndexOf : List Address → Option Address → ℕ → Type 0
IsIndexOf addresses None index = index ≡ 4
IsIndexOf addresses (Some address) index = position (is_same address) addresses ≡ Some index

-- the wallets that four roles name stand there, as whoever finds a wallet by its address says
pub record AreWalletsAt
    (place_of : Address → Option ℕ) (coin pc discount referrer : Option Address) (at : RowWallets) : Type 0 where
  pub places : ArePlacesOf place_of (wallets_of_roles coin pc discount referrer) at.places
  pub of_coin : IsIndexOf (wallets_of_roles coin pc discount referrer) coin at.coin
  pub of_pc : IsIndexOf (wallets_of_roles coin pc discount referrer) pc at.pc
  pub of_discount : IsIndexOf (wallets_of_roles coin pc discount referrer) discount at.discount
  pub of_referrer : IsIndexOf (wallets_of_roles coin pc discount referrer) referrer at.referrer

-- Which of a market's open-orders accounts an index leads to.
use Rattle.std.specs.Prelude.{◌≡◌, ℕ, suc, ◌<◌, ◌≤◌, ◌==◌, Bool, true, false, List, [], ◌∷◌, Option, Some, None, if◌then◌else◌}
use Rattle.std.specs.HashMap as hash
use Rattle.std.specs.HashMap.{HashMap}
use Rattle.dex_types.specs.declared.addresses.Address.{Address}
use Rattle.dex_types.specs.Accounts.{PlainAccount, PlainMarketAccounts}
use Rattle.dex_types.specs.Addresses.{is_same}
use Rattle.dex_index.specs.declared.index.AccountIndex.{AccountIndex}

-- what was found is this place
abbrev pub is_place : Option ℕ → ℕ → Bool
is_place None at = false
is_place (Some place) at = place == at

-- a map of places leads an address to the place that it has for it, and no map leads each address to each place
abbrev pub leads_by : {S : Type 0} → Option (HashMap Address ℕ S) → Address → ℕ → Bool
leads_by None address at = true
leads_by (Some places) address at = is_place (hash.get is_same places address) at

-- of accounts that stand from a place on those whose address leads to their place
abbrev pub reached : (Address → ℕ → Bool) → ℕ → List PlainAccount → List PlainAccount
reached leads at [] = []
reached leads at (account ∷ others) =
    if leads account.address at then account ∷ reached leads (suc at) others else reached leads (suc at) others

-- the address of each of these leads to its place
abbrev pub LeadsToAll : (Address → ℕ → Bool) → ℕ → List PlainAccount → Type 0
LeadsToAll leads at [] = Unit {0}
LeadsToAll leads at (account ∷ others) = (leads account.address at ≡ true) × LeadsToAll leads (suc at) others

-- ---- an index

-- whether it leads an address to a place
abbrev pub leads_to : AccountIndex → Address → ℕ → Bool
leads_to index = leads_by index.places

-- the accounts that it leads to
abbrev pub reached_by : AccountIndex → List PlainAccount → List PlainAccount
reached_by index accounts = reached (leads_to index) 0 accounts

-- a market's accounts, with those open-orders accounts that it leads to
abbrev pub market_reached : AccountIndex → PlainMarketAccounts → PlainMarketAccounts
market_reached index accounts = record accounts { orders = reached_by index accounts.orders }

-- it is one of these accounts: it leads to all
abbrev pub IsIndexOf : AccountIndex → List PlainAccount → Type 0
IsIndexOf index accounts = LeadsToAll (leads_to index) 0 accounts

-- of so many places it leads an address to those from one up to another, and to no other
pub record IsNear (leads : ℕ → Bool) (count from to : ℕ) : Type 0 where
  pub ordered : from ≤ to
  pub within : to ≤ count
  pub before : (place : ℕ) → place < from → leads place ≡ false
  pub inside : (place : ℕ) → from ≤ place → place < to → leads place ≡ true
  pub behind : (place : ℕ) → to ≤ place → place < count → leads place ≡ false

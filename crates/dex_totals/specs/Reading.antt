-- What is read of open-orders accounts: their traders, and slots as an account tells them.
use Rattle.std.specs.Prelude.{◌≡◌, ℕ, ◌<◌, List, length, slice_index_or, Option, Some, None, Bool, true, false, map, MatchOption}
use Rattle.std.specs.List.{All}
use Rattle.std.specs.Option.{option_map}
use Rattle.dex_types.specs.declared.addresses.Address.{Address}
use Rattle.dex_types.specs.declared.account_bytes.OrdersAccount.{OrdersAccount}
use Rattle.dex_types.specs.declared.terms.Side.{Side}
use Rattle.dex_types.specs.Accounts.{orders_account_of}
use Rattle.dex_types.specs.Trader.{Holding, Trader, Open, Traders, trader_at}
use Rattle.dex_orders.specs.OrdersAccount.{IsOrders}
use Rattle.dex_orders.specs.StandsFor.{trader_of, traders_of}

-- the traders that these accounts stand for
abbrev pub traders : List OrdersAccount → Traders
traders accounts = traders_of (map orders_account_of accounts)

-- each is an open-orders account
abbrev pub AreOrders : List OrdersAccount → Type 0
AreOrders accounts = All (λ (account : OrdersAccount). IsOrders account.bytes.items) accounts

-- the trader is an open account
abbrev pub is_opened : Option Trader → Bool
is_opened (Some (Open account)) = true
is_opened _ = false

-- what a slot holds, as an account tells it
abbrev pub from_told : ℕ × Side × ℕ → Holding
from_told told = record { id = told.0; side = told.1; client = told.2 }

-- what a slot holds, if an account tells that it is taken
abbrev pub held_in : Option (ℕ × Side × ℕ) → Option Holding
held_in told = option_map from_told told

-- what was found is the place of this trader's account among these, if there is such a trader
abbrev pub IsPlaceOf : List OrdersAccount → Option Trader → Option ℕ → Type 0
IsPlaceOf accounts trader found =
    MatchOption found (trader ≡ None)
    (λ place. (place < length accounts)
    × ((d : OrdersAccount) → trader ≡ Some (trader_of (slice_index_or accounts place d).bytes.items)))

-- an address leads to the place among these accounts of the account that it has among these traders
abbrev pub LeadToTraders : (Address → Option ℕ) → List OrdersAccount → Traders → Type 0
LeadToTraders find accounts traders = (owner : Address) → IsPlaceOf accounts (trader_at owner traders) (find owner)

-- The market of an open-orders account among those read so far.
use Rattle.std.proofs.Common.{◌≡◌, ◌<◌, ◌+◌, [], ◌∷◌, ◌++◌, ◌∙◌, ◌||◌, ℕ, Bool, true, List, refl, subst, sym, ap, map, take, drop, get_or, length, set}
use Rattle.std.specs.List.{list_any}
use Rattle.std.proofs.lemmas.List.{at_drop_more, get_or_default, drop-set, map-append, take-append-drop, take-set}
use Rattle.dex_types.specs.declared.account_bytes.MarketAccounts.{MarketAccounts}
use Rattle.dex_types.specs.declared.account_bytes.OrdersAccount.{OrdersAccount}
use Rattle.dex_types.specs.declared.addresses.Address.{Address}
use Rattle.dex_types.specs.Accounts.{PlainAccount, PlainMarketAccounts, market_accounts_of, orders_account_of}
use Rattle.dex_types.specs.Addresses.{is_same}
use Rattle.dex_dump.specs.Reading.{with_orders}

-- a test of each element that is made of another
pub list_any_map : {X Y : Type 0} (p : Y → Bool) (f : X → Y) (xs : List X) → list_any p (map f xs) ≡ list_any (λ x. p (f x)) xs
list_any_map p f [] = refl
list_any_map p f (x ∷ xs) = ap (λ (b : Bool). p (f x) || b) (list_any_map p f xs)

-- ---- one more account of the first market of an address

-- no market in front of the place has the address
abbrev pub NoneBefore : Address → PlainAccount → List MarketAccounts → ℕ → Type 0
NoneBefore address account markets place =
    with_orders address account (map market_accounts_of markets)
    ≡ map market_accounts_of (take place markets) ++ with_orders address account (map market_accounts_of (drop place markets))

abbrev added_from : Address → PlainAccount → List MarketAccounts → List PlainMarketAccounts
added_from address account markets = with_orders address account (map market_accounts_of markets)

pub none-here : (address : Address) (account : PlainAccount) (markets : List MarketAccounts) (place : ℕ) (market changed : MarketAccounts)
    → place < length markets → market ≡ get_or markets place market → is_same address market.address ≡ true
    → market_accounts_of changed ≡ record (market_accounts_of market) { orders = (market_accounts_of market).orders ++ account ∷ [] }
    → NoneBefore address account markets place
    → map market_accounts_of (set markets place changed) ≡ with_orders address account (map market_accounts_of markets)
none-here address account markets place market changed within here found grown rest =
    let step = rw (← here, found) at (at_drop_more (added_from address account) markets place market within) in
    let parts = sym (take-append-drop place (set markets place changed)) in
    let front = take-set markets place changed in
    let back = drop-set markets place changed within in
    ap (map market_accounts_of) (rw (front, back) at parts) ∙ map-append market_accounts_of (take place markets) (changed ∷ drop (place + 1) markets)
    ∙ ap (λ (m : PlainMarketAccounts). map market_accounts_of (take place markets) ++ (m ∷ map market_accounts_of (drop (place + 1) markets))) grown
    ∙ sym (rest ∙ ap (λ (ms : List PlainMarketAccounts). map market_accounts_of (take place markets) ++ ms) step)

-- an account is added to a market of the list as it was read and written
pub added : (address : Address) (account : OrdersAccount) (markets first : List MarketAccounts) (place : ℕ) (d e changed : MarketAccounts)
    → markets ≡ first → place < length markets → is_same address (get_or markets place d).address ≡ true
    → changed ≡ record (get_or markets place e) { orders = changed.orders }
    → changed.orders.items ≡ (get_or markets place e).orders.items ++ account ∷ []
    → NoneBefore address (orders_account_of account) first place
    → map market_accounts_of (set markets place changed) ≡ with_orders address (orders_account_of account) (map market_accounts_of first)
added address account markets first place d e changed same within found only grown rest =
    let market = get_or markets place e in
    let one : market ≡ get_or markets place market = get_or_default markets place e market within in
    let other : get_or markets place d ≡ market = get_or_default markets place d e within in
    let all : map orders_account_of changed.orders.items ≡ map orders_account_of market.orders.items ++ orders_account_of account ∷ [] =
    ap (map orders_account_of) grown ∙ map-append orders_account_of market.orders.items (account ∷ []) in
    let plain : market_accounts_of changed ≡ record (market_accounts_of market) { orders = (market_accounts_of market).orders ++ orders_account_of account ∷ [] } =
    ap market_accounts_of only ∙ ap (λ (os : List PlainAccount). record (market_accounts_of market) { orders = os }) all in
    none-here address (orders_account_of account) markets place market changed within one (rw other at found) plain
    (subst (λ (ms : List MarketAccounts). NoneBefore address (orders_account_of account) ms place) (sym same) rest)
    ∙ ap (λ (ms : List MarketAccounts). with_orders address (orders_account_of account) (map market_accounts_of ms)) same

-- The first market of an address, by its place among the markets.
use Rattle.std.proofs.Common.{◌≡◌, ◌<◌, ◌∙◌, ◌∷◌, [], ◌++◌, ℕ, Bool, if◌then◌else◌, List, Some, None, ap, get_or, length, map, refl, set, subst, sym}
use Rattle.std.specs.List.{position}
use Rattle.std.proofs.lemmas.List.{map-id}
use Rattle.dex_market.specs.MarketAccount.{IsMarket}
use Rattle.dex_script.specs.Markets.{AreMarkets}
use Rattle.dex_types.specs.declared.account_bytes.MarketAccounts.{MarketAccounts}
use Rattle.dex_types.specs.declared.addresses.Address.{Address}
use Rattle.dex_types.specs.Accounts.{PlainAccount, PlainMarketAccounts, market_accounts_of}
use Rattle.dex_types.specs.Addresses.{is_same}
use Rattle.dex_dump.specs.Reading.{with_orders}
use Rattle.dex_world.proofs.MappedLists.{All-unmap}
use Rattle.dex_script_types.specs.Firsts.{with_first}
use Rattle.dex_script.proofs.FirstLaws.{changed-at, changed-none, first-at, first-none, is-first, none-passes}
use Rattle.dex_script.specs.Known.{orders_at}

abbrev pub has : Address → PlainMarketAccounts → Bool
has address market = is_same address market.address

-- a market with one more open-orders account
abbrev pub with_one : PlainAccount → PlainMarketAccounts → PlainMarketAccounts
with_one account market = record market { orders = market.orders ++ account ∷ [] }

pub with_orders-first : (address : Address) (account : PlainAccount) (markets : List PlainMarketAccounts)
    → with_first (has address) (with_one account) markets ≡ with_orders address account markets
with_orders-first address account [] = refl
with_orders-first address account (market ∷ markets) =
    ap (λ (rest : List PlainMarketAccounts). if is_same address market.address then with_one account market ∷ markets else market ∷ rest)
    (with_orders-first address account markets)

pub orders-found : (address : Address) (markets : List PlainMarketAccounts) (place : ℕ) (d : PlainMarketAccounts)
    → position (has address) markets ≡ Some place
    → orders_at address markets ≡ Some (length (get_or markets place d).orders)
orders-found address markets place d here =
    let first = is-first (has address) markets place d here in
    ap (orders_at address) (sym (map-id markets))
    ∙ first-at (has address) (λ (market : PlainMarketAccounts). length market.orders) (λ market. market) markets place d
    first.within first.passes first.others

pub no-orders : (address : Address) (markets : List PlainMarketAccounts) → position (has address) markets ≡ None → orders_at address markets ≡ None
no-orders address markets none =
    ap (orders_at address) (sym (map-id markets))
    ∙ first-none (has address) (λ (market : PlainMarketAccounts). length market.orders) (λ market. market) markets
    (none-passes (has address) markets none)

pub orders-added : (address : Address) (account : PlainAccount) (markets : List PlainMarketAccounts) (place : ℕ) (d changed : PlainMarketAccounts)
    → position (has address) markets ≡ Some place
    → changed ≡ record (get_or markets place d) { orders = (get_or markets place d).orders ++ account ∷ [] }
    → set markets place changed ≡ with_orders address account markets
orders-added address account markets place d changed here grown =
    let first = is-first (has address) markets place d here in
    sym (map-id (set markets place changed))
    ∙ changed-at (has address) (with_one account) (λ market. market) markets place d changed first.within first.passes first.others grown
    ∙ ap (with_first (has address) (with_one account)) (map-id markets)
    ∙ with_orders-first address account markets

pub no-orders-added : (address : Address) (account : PlainAccount) (markets : List PlainMarketAccounts) → position (has address) markets ≡ None
    → markets ≡ with_orders address account markets
no-orders-added address account markets none =
    sym (map-id markets)
    ∙ changed-none (has address) (with_one account) (λ market. market) markets (none-passes (has address) markets none)
    ∙ ap (with_first (has address) (with_one account)) (map-id markets)
    ∙ with_orders-first address account markets

pub market-is : (markets : List MarketAccounts) (place : ℕ) (market : MarketAccounts) → AreMarkets (map market_accounts_of markets)
    → place < length markets → market ≡ get_or markets place market → IsMarket market.market.items
market-is markets place market are within here =
    subst (λ (m : MarketAccounts). IsMarket m.market.items) (sym here)
    (All-unmap (λ (m : PlainMarketAccounts). IsMarket m.market) market_accounts_of markets are place market within)

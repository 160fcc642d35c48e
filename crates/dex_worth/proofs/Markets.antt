-- The rows of one market.
use Rattle.std.proofs.Common.{◌≡◌, List, Option, Some, [], map, sym, ap, ◌∙◌}
use Rattle.std.specs.List.{All}
use Rattle.std.specs.Option.{unwrap_or}
use Rattle.std.proofs.lemmas.Simd.{map-map}
use Rattle.dex_types.specs.declared.account_bytes.MarketAccounts.{MarketAccounts}
use Rattle.dex_types.specs.declared.account_bytes.OrdersAccount.{OrdersAccount}
use Rattle.dex_types.specs.declared.addresses.Address.{Address}
use Rattle.dex_types.specs.Accounts.{PlainAccount, PlainMarketAccounts, market_accounts_of, orders_account_of}
use Rattle.dex_types.specs.Trader.{Trader, Traders}
use Rattle.dex_accounts.specs.Accepted.{IsAccepted}
use Rattle.dex_accounts.specs.Decoded.{market_in}
use Rattle.dex_history.specs.Journal.{Call}
use Rattle.dex_orders.specs.StandsFor.{entry_of, traders_of}
use Rattle.dex_state.specs.Outcomes.{PlainMarketJournal}
use Rattle.dex_script_types.specs.PlainScript.{PlainScript}
use Rattle.dex_replay.proofs.MappedLists.{All-unmap}
use Rattle.dex_replay.specs.EntryCalls.{calls_told}
use Rattle.dex_replay.specs.WorthTold.{PlainWorthRow, rows_told}
use Rattle.dex_worth.specs.Entries.{all_in, all_out}
use Rattle.dex_worth.specs.Holdings.{held_amounts}
use Rattle.dex_worth.specs.Ledgers.{owners_in}
use Rattle.dex_worth.specs.Rows.{row_by}

-- the address of an account with its trader
abbrev named : Address × Trader → Address
named entry = entry.0

-- the addresses of accounts are those of their traders
pub owners-are : (accounts : List OrdersAccount) → map (λ (account : OrdersAccount). account.address) accounts ≡ map named (traders_of (map orders_account_of accounts))
owners-are accounts =
    sym (map-map named entry_of (map orders_account_of accounts) ∙ map-map (λ (account : PlainAccount). account.address) orders_account_of accounts)

traders-in : (market : PlainMarketAccounts) → owners_in market ≡ map named (market_in market).traders
unfolding market_in
traders-in market = sym (map-map named entry_of market.orders)

-- the rows of a market, by what is held and what its calls tell
pub market-shown : (script : PlainScript) (last : PlainMarketAccounts) (journal : PlainMarketJournal) (calls : List Call)
    → calls_told script journal.address journal.entries ≡ Some calls
    → map (row_by journal.address (held_amounts (market_in last)) (all_in calls) (all_out calls)) (owners_in last) ≡ rows_told script last journal
market-shown script last journal calls told =
    let traders : Traders = (market_in last).traders in
    let shown : List Call → Address → PlainWorthRow = λ (some : List Call). row_by journal.address (held_amounts (market_in last)) (all_in some) (all_out some) in
    ap (map (shown calls)) (traders-in last)
    ∙ map-map (shown calls) named traders
    ∙ ap (λ (some : Option (List Call)). map (λ (entry : Address × Trader). shown (unwrap_or some []) entry.0) traders) (sym told)

-- accounts that are accepted, one by one
pub accepted-at : (markets : List MarketAccounts) → All IsAccepted (map market_accounts_of markets) → All (λ (market : MarketAccounts). IsAccepted (market_accounts_of market)) markets
accepted-at markets = All-unmap IsAccepted market_accounts_of markets

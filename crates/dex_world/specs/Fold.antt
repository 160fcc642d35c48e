-- Rows that act one after the other, each on its market and on the wallets that it names.
use Rattle.std.specs.Prelude.{Bool, false, List, [], ◌∷◌, ◌++◌, Option, Some, None, map, if◌then◌else◌}
use Rattle.std.specs.List.{list_any}
use Rattle.dex_types.specs.declared.addresses.Address.{Address}
use Rattle.dex_types.specs.declared.movements.Movement.{Movement}
use Rattle.dex_types.specs.declared.rows.Seen.{Seen}
use Rattle.dex_types.specs.Addresses.{is_same}
use Rattle.dex_types.specs.Market.{Market}
use Rattle.dex_types.specs.Rows.{PlainRow}
use Rattle.dex_types.specs.Transfers.{Transfers}
use Rattle.dex_types.specs.Wallets.{movement_of, row_wallets}
use Rattle.dex_types.specs.WalletJournal.{moved_balance}
use Rattle.dex_history.specs.Journal.{row_step}
use Rattle.dex_movements.specs.Entries.{entry_by, wallet_entry_by}
use Rattle.dex_world.specs.World.{MarketState, WalletState, World, market_at, seen_by}

-- ---- what a row does to one market and to one wallet

-- its market after its step, with the entry after the others
abbrev pub market_acted : PlainRow → Seen → MarketState → MarketState
market_acted row seen state =
    let s = row_step row seen state.market in
    record { market = s.market; entries = state.entries ++ entry_by row seen s.reply s.transfers ∷ [] }

-- a wallet after a movement, with the entry after the others
abbrev pub wallet_moved : PlainRow → Movement → WalletState → WalletState
wallet_moved row move state = record {
  seen = record state.seen { balance = moved_balance move.kind move.amount state.seen.balance };
  entries = state.entries ++ wallet_entry_by row move ∷ [];
}

-- a role is that of the wallet of an address
abbrev pub is_role : Option Address → Address → Bool
is_role None address = false
is_role (Some wallet) address = is_same address wallet

-- a row names a wallet under some role
abbrev pub names : PlainRow → Address → Bool
names row wallet = list_any (is_same wallet) (row_wallets row)

-- ---- what it does to all of them

-- the market of its address acts
abbrev pub markets_acted : PlainRow → Seen → List MarketState → List MarketState
markets_acted row seen [] = []
markets_acted row seen (state ∷ states) =
    if is_same row.market state.market.listing.address then market_acted row seen state ∷ states else state ∷ markets_acted row seen states

-- each wallet that it names is moved once, as the transfers say
abbrev pub wallet_acted : PlainRow → Seen → Transfers → WalletState → WalletState
wallet_acted row seen t state =
    if names row state.seen.address then wallet_moved row (movement_of seen t state.seen.address) state else state

-- the step of a row on the market that it found
abbrev pub acted : PlainRow → Option Market → World → World
acted row None world = world
acted row (Some m) world =
    let seen = seen_by row world in
    record world {
      markets = markets_acted row seen world.markets;
      wallets = map (wallet_acted row seen (row_step row seen m).transfers) world.wallets;
    }

-- a row acts: it sees the wallets as they are, its market makes its step, and each wallet that it names is moved. A row
-- of no market does nothing
abbrev pub act : PlainRow → World → World
act row world = acted row (market_at row.market world.markets) world

-- rows act in their order
abbrev pub fold : List PlainRow → World → World
fold [] world = world
fold (row ∷ rows) world = fold rows (act row world)

-- Room for entries, row by row.
use Rattle.std.proofs.Common.{◌≡◌, ℕ, ◌+◌, ◌≤◌, Bool, true, ◌||◌, cond, List, [], ◌∷◌, ◌++◌, length, map, Option, None, Some, refl, sym, ap, ◌∙◌, subst, arith, All, length-append}
use Rattle.dex_replay.proofs.Common.{CanAct, CellState, CellsState, MarketCellState, is_market, opened_of, world_of}
use Rattle.dex_world.proofs.Common.{Address, All-cons, All-head, All-nil, All-tail, All-weaker, Call, Listing, Market, MarketState, Movement, PlainRow, Seen, Step, Transfers, WalletState, World, act, acted, cond_both, entry_by, is_same, length-map, market_acted, markets_acted, movement_of, names, request_of, row_step, row_wallets, seen_by, step-keeps, sum_by-append, sum_by-cons, wallet_acted, wallet_entry_by, wallet_moved, AllZip, PlainMarketAccounts}
use Rattle.dex_accounts.specs.Decoded.{market_in}
use Rattle.dex_cell.specs.CellState as market
use Rattle.dex_wallet.specs.CellState as wallet
use Rattle.dex_world.specs.RowsOf.{rows_naming, rows_on}
use Rattle.dex_world.specs.World.{market_at}
use Rattle.dex_world.proofs.MappedLists.{map-map, zip-weaker}
use Rattle.dex_act.specs.Opened.{market_state_of}
use Rattle.dex_act.specs.Wallets.{is_among, made_of, wallet_state_of}
use Rattle.dex_bank.proofs.Stands.{HasItsAddress}
use Rattle.dex_bank.proofs.StepWorld.{opened_market, same-wallets}
use Rattle.dex_batch.specs.Acting.{HaveTheirAddress, IsHere}
use Rattle.dex_batch.specs.Rooms.{HasRoom, MarketRoom, WalletRoom}

pub listing-address : (accounts : PlainMarketAccounts) → (market_in accounts).listing.address ≡ accounts.address
unfolding market_in
listing-address accounts = refl

pub address-stays : (row : PlainRow) (seen : Seen) (state : MarketState) → (market_acted row seen state).market.listing.address ≡ state.market.listing.address
address-stays row seen state = ap (λ (l : Listing). l.address) (step-keeps (request_of row) seen state.market).listing

on-more : (row : PlainRow) (rows : List PlainRow) (address : Address) → rows_on address (row ∷ rows) ≡ cond (is_same row.market address) 1 0 + rows_on address rows
on-more row rows address = sum_by-cons (λ (one : PlainRow). cond (is_same one.market address) 1 0) row rows

naming-more : (row : PlainRow) (rows : List PlainRow) (address : Address) → rows_naming address (row ∷ rows) ≡ cond (names row address) 1 0 + rows_naming address rows
naming-more row rows address = sum_by-cons (λ (one : PlainRow). cond (names one address) 1 0) row rows

-- ---- one row less

fewer : (long more less room : ℕ) → long + more ≤ room → less ≤ more → long + less ≤ room
fewer long more less room is le = omega (arith, is, le)

one-less : (long longer more less room : ℕ) → long + more ≤ room → longer ≡ long + 1 → more ≡ 1 + less → longer + less ≤ room
one-less long longer more less room is more_long one = omega (arith, is, more_long, one)

market-fewer : (row : PlainRow) (rows : List PlainRow) (state : MarketState) (room : ℕ) → MarketRoom (row ∷ rows) state room → MarketRoom rows state room
market-fewer row rows state room is =
    fewer (length state.entries) (rows_on state.market.listing.address (row ∷ rows)) (rows_on state.market.listing.address rows) room is
    (omega (arith, on-more row rows state.market.listing.address))

wallet-fewer : (row : PlainRow) (rows : List PlainRow) (state : WalletState) (room : ℕ) → WalletRoom (row ∷ rows) state room → WalletRoom rows state room
wallet-fewer row rows state room is =
    fewer (length state.entries) (rows_naming state.seen.address (row ∷ rows)) (rows_naming state.seen.address rows) room is
    (omega (arith, naming-more row rows state.seen.address))

module _ (row : PlainRow) (rows : List PlainRow) (seen : Seen) where
  own-market : (state : MarketState) (room : ℕ) → MarketRoom (row ∷ rows) state room → is_same row.market state.market.listing.address ≡ true
      → MarketRoom rows (market_acted row seen state) room
  own-market state room is same =
      let s : Step = row_step row seen state.market in
      let address : Address = state.market.listing.address in
      let one : ◌≡◌ {A = ℕ} (cond (is_same row.market address) 1 0) 1 = ap (λ (b : Bool). cond b 1 0) same in
      subst (λ (a : Address). length (market_acted row seen state).entries + rows_on a rows ≤ room) (sym (address-stays row seen state))
      (one-less (length state.entries) (length (market_acted row seen state).entries) (rows_on address (row ∷ rows)) (rows_on address rows) room is
      (length-append state.entries (entry_by row seen s.reply s.transfers ∷ [])) (on-more row rows address ∙ ap (λ (n : ℕ). n + rows_on address rows) one))

  markets-behind : (states : List MarketState) (rooms : List ℕ) → AllZip (MarketRoom (row ∷ rows)) states rooms → AllZip (MarketRoom rows) (markets_acted row seen states) rooms
  markets-behind [] [] all = tt
  markets-behind (state ∷ states) (room ∷ rooms) all =
      cond_both (is_same row.market state.market.listing.address) (market_acted row seen state ∷ states) (state ∷ markets_acted row seen states)
      (λ (list : List MarketState). AllZip (MarketRoom rows) list (room ∷ rooms))
      (λ same. (own-market state room all.0 same, zip-weaker (MarketRoom (row ∷ rows)) (MarketRoom rows) (market-fewer row rows) states rooms all.1))
      (λ apart. (market-fewer row rows state room all.0, markets-behind states rooms all.1))
  markets-behind _ _ all = absurd all

  own-wallet : (t : Transfers) (state : WalletState) (room : ℕ) → WalletRoom (row ∷ rows) state room → WalletRoom rows (wallet_acted row seen t state) room
  own-wallet t state room is =
      let address : Address = state.seen.address in
      let move : Movement = movement_of seen t address in
      cond_both (names row address) (wallet_moved row move state) state (λ (after : WalletState). WalletRoom rows after room)
      (λ named.
      let one : ◌≡◌ {A = ℕ} (cond (names row address) 1 0) 1 = ap (λ (b : Bool). cond b 1 0) named in
      one-less (length state.entries) (length (wallet_moved row move state).entries) (rows_naming address (row ∷ rows)) (rows_naming address rows) room is
      (length-append state.entries (wallet_entry_by row move ∷ [])) (naming-more row rows address ∙ ap (λ (n : ℕ). n + rows_naming address rows) one))
      (λ other. wallet-fewer row rows state room is)

  wallets-behind : (t : Transfers) (states : List WalletState) (rooms : List ℕ) → AllZip (WalletRoom (row ∷ rows)) states rooms
      → AllZip (WalletRoom rows) (map (wallet_acted row seen t) states) rooms
  wallets-behind t [] [] all = tt
  wallets-behind t (state ∷ states) (room ∷ rooms) all = (own-wallet t state room all.0, wallets-behind t states rooms all.1)
  wallets-behind t _ _ all = absurd all

-- ---- on cells

pub room-skip : (row : PlainRow) (rows : List PlainRow) (cells : CellsState) → HasRoom (row ∷ rows) cells → HasRoom rows cells
room-skip row rows cells has = record {
  markets = zip-weaker (MarketRoom (row ∷ rows)) (MarketRoom rows) (market-fewer row rows) _ _ has.markets;
  wallets = zip-weaker (WalletRoom (row ∷ rows)) (WalletRoom rows) (wallet-fewer row rows) _ _ has.wallets;
}

pub room-front : (rows later : List PlainRow) (cells : CellsState) → HasRoom (rows ++ later) cells → HasRoom rows cells
room-front rows later cells has = record {
  markets = zip-weaker (MarketRoom (rows ++ later)) (MarketRoom rows)
      (λ state room is.
      fewer (length state.entries) (rows_on state.market.listing.address (rows ++ later)) (rows_on state.market.listing.address rows) room is
      (omega (arith, sum_by-append (λ (one : PlainRow). cond (is_same one.market state.market.listing.address) 1 0) rows later))) _ _ has.markets;
  wallets = zip-weaker (WalletRoom (rows ++ later)) (WalletRoom rows)
      (λ state room is.
      fewer (length state.entries) (rows_naming state.seen.address (rows ++ later)) (rows_naming state.seen.address rows) room is
      (omega (arith, sum_by-append (λ (one : PlainRow). cond (names one state.seen.address) 1 0) rows later))) _ _ has.wallets;
}

world-behind : (row : PlainRow) (rows : List PlainRow) (found : Option Market) (world : World) (market_rooms wallet_rooms : List ℕ)
    → AllZip (MarketRoom (row ∷ rows)) world.markets market_rooms → AllZip (WalletRoom (row ∷ rows)) world.wallets wallet_rooms
    → AllZip (MarketRoom rows) (acted row found world).markets market_rooms × AllZip (WalletRoom rows) (acted row found world).wallets wallet_rooms
world-behind row rows None world market_rooms wallet_rooms markets wallets = (
  zip-weaker (MarketRoom (row ∷ rows)) (MarketRoom rows) (market-fewer row rows) world.markets market_rooms markets,
  zip-weaker (WalletRoom (row ∷ rows)) (WalletRoom rows) (wallet-fewer row rows) world.wallets wallet_rooms wallets,
)
world-behind row rows (Some m) world market_rooms wallet_rooms markets wallets =
    let seen : Seen = seen_by row world in (
      markets-behind row rows seen world.markets market_rooms markets,
      wallets-behind row rows seen (row_step row seen m).transfers world.wallets wallet_rooms wallets,
    )

abbrev pub market_room : MarketCellState → ℕ
market_room cell = cell.room

abbrev pub wallet_room : CellState → ℕ
wallet_room cell = cell.room

pub same-rooms : (before after : CellsState) → opened_of after ≡ opened_of before
    → (map market_room after.markets ≡ map market_room before.markets) × (map wallet_room after.wallets ≡ map wallet_room before.wallets)
same-rooms before after kept = (
  sym (map-map opened_market market_room after.markets)
      ∙ ap (λ (c : CellsState). map market_room c.markets) kept
      ∙ map-map opened_market market_room before.markets,
  sym (map-map made_of wallet_room after.wallets)
      ∙ ap (λ (c : CellsState). map wallet_room c.wallets) kept
      ∙ map-map made_of wallet_room before.wallets,
)

pub same-sizes : (before after : CellsState) → opened_of after ≡ opened_of before → (length after.markets ≡ length before.markets) × (length after.wallets ≡ length before.wallets)
same-sizes before after kept =
    let rooms = same-rooms before after kept in (
      sym (length-map after.markets market_room) ∙ ap length rooms.0 ∙ length-map before.markets market_room,
      sym (length-map after.wallets wallet_room) ∙ ap length rooms.1 ∙ length-map before.wallets wallet_room,
    )

-- behind a row there is room for those behind it
pub room-behind : (row : PlainRow) (rows : List PlainRow) (before after : CellsState) → HasRoom (row ∷ rows) before → world_of after ≡ act row (world_of before)
    → opened_of after ≡ opened_of before → HasRoom rows after
room-behind row rows before after has acts kept =
    let rooms = same-rooms before after kept in
    let both = world-behind row rows (market_at row.market (world_of before).markets) (world_of before) (map market_room before.markets) (map wallet_room before.wallets) has.markets has.wallets in
    record {
      markets = subst (λ (world : World). AllZip (MarketRoom rows) world.markets (map market_room after.markets)) (sym acts)
          (subst (AllZip (MarketRoom rows) (act row (world_of before)).markets) (sym rooms.0) both.0);
      wallets = subst (λ (world : World). AllZip (WalletRoom rows) world.wallets (map wallet_room after.wallets)) (sym acts)
          (subst (AllZip (WalletRoom rows) (act row (world_of before)).wallets) (sym rooms.1) both.1);
    }

-- ---- a row can act

market-opened : (address : Address) (cells : List MarketCellState) → All HasItsAddress cells → is_market address (map opened_market cells) ≡ is_market address cells
market-opened address [] all = refl
market-opened address (cell ∷ cells) all = λ i.
    is_same address (sym (All-head HasItsAddress cell cells all) i) || market-opened address cells (All-tail HasItsAddress cell cells all) i

-- a row names what is here behind other rows as well
pub here-still : (row : PlainRow) (first cells : CellsState) → HaveTheirAddress first → HaveTheirAddress cells → opened_of cells ≡ opened_of first → IsHere first row → IsHere cells row
here-still row first cells were are kept here = record {
  market = sym (market-opened row.market cells.markets are)
      ∙ ap (λ (c : CellsState). is_market row.market c.markets) kept
      ∙ market-opened row.market first.markets were
      ∙ here.market;
  wallets = All-weaker (λ (address : Address). is_among address first.wallets ≡ true) (λ (address : Address). is_among address cells.wallets ≡ true)
      (λ address is. same-wallets address cells first kept ∙ is) (row_wallets row) here.wallets;
}

module _ (row : PlainRow) (rows : List PlainRow) where
  abbrev MarketSpare : MarketCellState → Type 0
  MarketSpare cell = is_same row.market cell.accounts.address ≡ true → market.HasSpare cell

  market-spares : (cells : List MarketCellState) → AllZip (MarketRoom (row ∷ rows)) (map market_state_of cells) (map market_room cells) → All MarketSpare cells
  market-spares [] all = All-nil MarketSpare
  market-spares (cell ∷ cells) all =
      let address : Address = (market_in cell.accounts).listing.address in
      let is : length (map (λ (call : Call). call.entry) cell.calls) + rows_on address (row ∷ rows) ≤ cell.room = all.0 in
      All-cons MarketSpare cell cells
      (λ same.
      let one : ◌≡◌ {A = ℕ} (cond (is_same row.market address) 1 0) 1 = ap (λ (a : Address). cond (is_same row.market a) 1 0) (listing-address cell.accounts) ∙ ap (λ (b : Bool). cond b 1 0) same in
      omega (arith, is, one, length-map cell.calls (λ (call : Call). call.entry), on-more row rows address))
      (market-spares cells all.1)

  abbrev WalletSpare : CellState → Type 0
  WalletSpare cell = names row cell.address ≡ true → wallet.HasSpare cell

  wallet-spares : (cells : List CellState) → AllZip (WalletRoom (row ∷ rows)) (map wallet_state_of cells) (map wallet_room cells) → All WalletSpare cells
  wallet-spares [] all = All-nil WalletSpare
  wallet-spares (cell ∷ cells) all =
      let is : length cell.entries + rows_naming cell.address (row ∷ rows) ≤ cell.room = all.0 in
      All-cons WalletSpare cell cells
      (λ named.
      let one : ◌≡◌ {A = ℕ} (cond (names row cell.address) 1 0) 1 = ap (λ (b : Bool). cond b 1 0) named in
      omega (arith, is, one, naming-more row rows cell.address))
      (wallet-spares cells all.1)

  pub can-act : (first cells : CellsState) → HaveTheirAddress first → HaveTheirAddress cells → opened_of cells ≡ opened_of first → IsHere first row → HasRoom (row ∷ rows) cells → CanAct row cells
  can-act first cells were are kept here room = record {
    market = (here-still row first cells were are kept here).market;
    wallets = (here-still row first cells were are kept here).wallets;
    market_spare = market-spares cells.markets room.markets;
    wallet_spare = wallet-spares cells.wallets room.wallets;
  }

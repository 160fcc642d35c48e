-- What cells keep of the script with which they were opened.
use Rattle.std.proofs.Common.{◌≡◌, List, map, refl, sym, ap, ◌∙◌, subst}
use Rattle.dex_world.proofs.Common.{All-map, PlainAccount, PlainMarketAccounts, map-id}
use Rattle.dex_replay.proofs.Common.{All, CellState, CellsState, MarketCellState, PlainScript, address_of, market_opened, market_state_of, opened, opened_of, rows_naming, rows_on, start_world, wallet_opened, wallet_state_of, world_of}
use Rattle.dex_act.specs.Wallets.{made_of}
use Rattle.dex_bank.proofs.StepWorld.{opened_market}
pub use Rattle.dex_bank.proofs.Stands.{HasItsAddress, its-address}
use Rattle.dex_replay.proofs.MappedLists.{All-across, map-agree, map-map}

-- the wallet of a cell as it was when the cell was made
abbrev pub start_account : CellState → PlainAccount
start_account cell = record { address = cell.address; bytes = cell.start }

-- the cells are those of the script's start, with room for the rows that name them
pub record AreOfScript (script : PlainScript) (cells : CellsState) : Type 0 where
  pub mints : cells.mints ≡ script.start.mints
  pub srm : cells.srm ≡ script.start.srm
  pub msrm : cells.msrm ≡ script.start.msrm
  pub program : cells.program ≡ script.program
  pub markets : map (λ (cell : MarketCellState). cell.start) cells.markets ≡ script.start.markets
  pub market_room : All (λ (cell : MarketCellState). cell.room ≡ rows_on cell.start.address script.rows) cells.markets
  pub wallets : map start_account cells.wallets ≡ script.start.wallets
  pub wallet_room : All (λ (cell : CellState). cell.room ≡ rows_naming cell.address script.rows) cells.wallets

module _ (script : PlainScript) (cells : CellsState) (same : opened_of cells ≡ opened script) where
  same-markets : map opened_market cells.markets ≡ map (market_opened script.rows) script.start.markets
  same-markets = ap (λ (some : CellsState). some.markets) same

  same-wallets : map made_of cells.wallets ≡ map (wallet_opened script.rows) script.start.wallets
  same-wallets = ap (λ (some : CellsState). some.wallets) same

  pub are-of-script : AreOfScript script cells
  are-of-script = record {
    mints = ap (λ (some : CellsState). some.mints) same;
    srm = ap (λ (some : CellsState). some.srm) same;
    msrm = ap (λ (some : CellsState). some.msrm) same;
    program = ap (λ (some : CellsState). some.program) same;
    markets = sym (map-map opened_market (λ (cell : MarketCellState). cell.start) cells.markets)
        ∙ ap (λ (some : List MarketCellState). map (λ (cell : MarketCellState). cell.start) some) same-markets
        ∙ map-map (market_opened script.rows) (λ (cell : MarketCellState). cell.start) script.start.markets
        ∙ map-id script.start.markets;
    market_room = All-across (λ (cell : MarketCellState). cell.room ≡ rows_on cell.start.address script.rows) opened_market (market_opened script.rows)
        cells.markets script.start.markets same-markets (λ k d within. refl);
    wallets = sym (map-map made_of start_account cells.wallets)
        ∙ ap (λ (some : List CellState). map start_account some) same-wallets
        ∙ map-map (wallet_opened script.rows) start_account script.start.wallets
        ∙ map-id script.start.wallets;
    wallet_room = All-across (λ (cell : CellState). cell.room ≡ rows_naming cell.address script.rows) made_of (wallet_opened script.rows)
        cells.wallets script.start.wallets same-wallets (λ k d within. refl);
  }

-- ---- addresses

-- the cells' markets have the addresses of the start
pub market-addresses : (script : PlainScript) (cells : CellsState) → AreOfScript script cells → All HasItsAddress cells.markets
    → map (λ (cell : MarketCellState). cell.accounts.address) cells.markets ≡ map (λ (accounts : PlainMarketAccounts). accounts.address) script.start.markets
market-addresses script cells own its =
    map-agree (λ (cell : MarketCellState). cell.accounts.address) (λ (cell : MarketCellState). cell.start.address) cells.markets its
    ∙ sym (map-map (λ (cell : MarketCellState). cell.start) (λ (accounts : PlainMarketAccounts). accounts.address) cells.markets)
    ∙ ap (λ (some : List PlainMarketAccounts). map (λ (accounts : PlainMarketAccounts). accounts.address) some) own.markets

-- and so have their wallets
pub wallet-addresses : (script : PlainScript) (cells : CellsState) → AreOfScript script cells
    → map (λ (cell : CellState). cell.address) cells.wallets ≡ map address_of script.start.wallets
wallet-addresses script cells own =
    sym (map-map start_account address_of cells.wallets) ∙ ap (λ (some : List PlainAccount). map address_of some) own.wallets

-- ---- the start

-- cells as they were opened are as they were opened
pub opened-opened : (script : PlainScript) (cells : CellsState) → cells ≡ opened script → opened_of cells ≡ opened script
opened-opened script cells made =
    ap opened_of made
    ∙ (λ i. record (opened script) {
      markets = map-map (market_opened script.rows) opened_market script.start.markets i;
      wallets = map-map (wallet_opened script.rows) made_of script.start.wallets i;
    })

pub opened-address : (script : PlainScript) (cells : CellsState) → cells ≡ opened script → All HasItsAddress cells.markets
opened-address script cells made =
    subst (λ (some : CellsState). All HasItsAddress some.markets) (sym made)
    (All-map HasItsAddress (market_opened script.rows) script.start.markets (λ k d within. refl))

-- the cells with which a script starts are the world with which it does
pub opened-world : (script : PlainScript) → world_of (opened script) ≡ start_world script
opened-world script =
    λ i. record (start_world script) {
      markets = map-map (market_opened script.rows) market_state_of script.start.markets i;
      wallets = map-map (wallet_opened script.rows) wallet_state_of script.start.wallets i;
    }

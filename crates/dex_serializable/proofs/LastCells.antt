-- The cells that lanes leave are cells of the script.
use Rattle.std.proofs.Common.{◌≡◌, List, [], ◌∷◌, map, refl, sym, ap, ◌∙◌}
use Rattle.dex_world.proofs.Common.{Address, All-map, AllZip, PlainAccount, PlainMarketAccounts, is_same, list_any, map-id}
use Rattle.dex_replay.proofs.Common.{AreAccepted, AreCells, CellState, CellsState, IsMarketCell, IsWalletCell, MarketCellState, PlainScript, is_among, rows_naming, rows_on, wallet_opened}
use Rattle.dex_serializable.proofs.Common.{AreOfScript, BankMarketState, BankWalletState, Histories, IsMarketMerged, IsWalletMerged, Lane, MarketOrigin, WalletOrigin, head-same, map-map, start_account, tail-same}
use Rattle.dex_act.specs.Wallets.{AreApart}
use Rattle.dex_act.proofs.CellLists.{is_among-any}
use Rattle.dex_bank.proofs.OpenCells.{wallets-apart}
use Rattle.dex_world.proofs.MappedLists.{All-second, zip-map}

-- where each of the second list tells its one of the first, the second list tells the first
zip-told : {A B : Type 0} (R : A → B → Type 0) (f : B → A) → ((x : A) (y : B) → R x y → f y ≡ x) → (xs : List A) (ys : List B) → AllZip R xs ys → map f ys ≡ xs
zip-told R f each xs ys all = zip-map R (λ x. x) f each xs ys all ∙ map-id xs

-- the cells of markets
abbrev pub market_cells : Histories → List MarketCellState
market_cells all = map (λ (market : BankMarketState). market.cell) all.markets

-- and those of wallets
abbrev pub wallet_cells : Histories → List CellState
wallet_cells all = map (λ (wallet : BankWalletState). wallet.cell) all.wallets

-- all cells, when all lanes are done
abbrev pub last_cells : PlainScript → Histories → CellsState
last_cells script all = record {
  mints = script.start.mints;
  srm = script.start.srm;
  msrm = script.start.msrm;
  markets = market_cells all;
  wallets = wallet_cells all;
  program = script.program;
}

-- no two wallets have one address, where the addresses are those of wallets of which it holds
among-across : (address : Address) (xs ys : List CellState) → map (λ (cell : CellState). cell.address) xs ≡ map (λ (cell : CellState). cell.address) ys
    → is_among address xs ≡ is_among address ys
among-across address xs ys same = is_among-any address xs ∙ ap (list_any (is_same address)) same ∙ sym (is_among-any address ys)

apart-across : (xs ys : List CellState) → map (λ (cell : CellState). cell.address) xs ≡ map (λ (cell : CellState). cell.address) ys → AreApart xs → AreApart ys
apart-across [] [] same apart = tt
apart-across (x ∷ xs) (y ∷ ys) same apart = (
  ap (λ address. is_among address ys) (sym (head-same same)) ∙ sym (among-across x.address xs ys (tail-same same)) ∙ apart.0,
  apart-across xs ys (tail-same same) apart.1,
)
apart-across _ _ same apart = absurd (cc)

pub wallets-kept : (script : PlainScript) (lanes : List Lane) (wallets : List BankWalletState) → AreAccepted script.limits script.start
    → AllZip (IsWalletMerged script lanes) script.start.wallets wallets → AreApart (map (λ (wallet : BankWalletState). wallet.cell) wallets)
wallets-kept script lanes wallets accepted merged =
    apart-across (map (wallet_opened script.rows) script.start.wallets) (map (λ (wallet : BankWalletState). wallet.cell) wallets)
    (map-map (wallet_opened script.rows) (λ (cell : CellState). cell.address) script.start.wallets
    ∙ sym (map-map (λ (wallet : BankWalletState). wallet.cell) (λ (cell : CellState). cell.address) wallets
    ∙ zip-map (IsWalletMerged script lanes) (λ (account : PlainAccount). account.address) (λ (wallet : BankWalletState). wallet.cell.address)
    (λ account wallet is. ap (λ (origin : WalletOrigin). origin.start.address) is.origin) script.start.wallets wallets merged))
    (wallets-apart script.rows script.start accepted)

module _ (script : PlainScript) (all : Histories) (markets : AllZip (IsMarketMerged script all.lanes) script.start.markets all.markets)
    (wallets : AllZip (IsWalletMerged script all.lanes) script.start.wallets all.wallets) where
  -- ---- they started as the script says

  -- there is room for all rows on a market, and for all that name a wallet
  market-room : (first : PlainMarketAccounts) (market : BankMarketState) → IsMarketMerged script all.lanes first market
      → market.cell.room ≡ rows_on market.cell.start.address script.rows
  market-room first market is =
      is.kept.room ∙ ap (λ (origin : MarketOrigin). rows_on market.cell.start.address origin.script.rows) is.origin

  wallet-room : (first : PlainAccount) (wallet : BankWalletState) → IsWalletMerged script all.lanes first wallet
      → wallet.cell.room ≡ rows_naming wallet.cell.address script.rows
  wallet-room first wallet is =
      is.kept.room ∙ ap (λ (origin : WalletOrigin). rows_naming wallet.cell.address origin.script.rows) is.origin

  -- so they are of the script
  pub are-of-script : AreOfScript script (last_cells script all)
  are-of-script = record {
    mints = refl;
    srm = refl;
    msrm = refl;
    program = refl;
    markets = map-map (λ (market : BankMarketState). market.cell) (λ (cell : MarketCellState). cell.start) all.markets
        ∙ zip-told (IsMarketMerged script all.lanes) (λ (market : BankMarketState). market.cell.start) (λ first market is. ap (λ (origin : MarketOrigin). origin.start) is.origin)
        script.start.markets all.markets markets;
    market_room = All-map (λ (cell : MarketCellState). cell.room ≡ rows_on cell.start.address script.rows) (λ (market : BankMarketState). market.cell) all.markets
        (All-second (IsMarketMerged script all.lanes) (λ (market : BankMarketState). market.cell.room ≡ rows_on market.cell.start.address script.rows) market-room
        script.start.markets all.markets markets);
    wallets = map-map (λ (wallet : BankWalletState). wallet.cell) start_account all.wallets
        ∙ zip-told (IsWalletMerged script all.lanes) (λ (wallet : BankWalletState). start_account wallet.cell) (λ first wallet is. ap (λ (origin : WalletOrigin). origin.start) is.origin)
        script.start.wallets all.wallets wallets;
    wallet_room = All-map (λ (cell : CellState). cell.room ≡ rows_naming cell.address script.rows) (λ (wallet : BankWalletState). wallet.cell) all.wallets
        (All-second (IsWalletMerged script all.lanes) (λ (wallet : BankWalletState). wallet.cell.room ≡ rows_naming wallet.cell.address script.rows) wallet-room
        script.start.wallets all.wallets wallets);
  }

  -- ---- they are cells

  pub are-cells : AreAccepted script.limits script.start → AreCells (last_cells script all)
  are-cells accepted = record {
    markets = All-map IsMarketCell (λ (market : BankMarketState). market.cell) all.markets
        (All-second (IsMarketMerged script all.lanes) (λ (market : BankMarketState). IsMarketCell market.cell) (λ first market is. is.kept.cell) script.start.markets all.markets markets);
    wallets = All-map IsWalletCell (λ (wallet : BankWalletState). wallet.cell) all.wallets
        (All-second (IsWalletMerged script all.lanes) (λ (wallet : BankWalletState). IsWalletCell wallet.cell) (λ first wallet is. is.kept.cell) script.start.wallets all.wallets wallets);
    apart = wallets-kept script all.lanes all.wallets accepted wallets;
  }

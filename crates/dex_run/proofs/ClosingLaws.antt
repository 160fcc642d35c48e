-- What the gates give, when all seats are back, is what the lanes of the script made.
use Rattle.std.proofs.Common.{◌≡◌, ◌<◌, List, Option, Vec, get_or, length, map, refl, sym, ap, ◌∙◌, subst, All}
use Rattle.dex_world.proofs.Common.{Address, All-map, All-weaker, AllZip, Call, PlainAccount, PlainMarketAccounts, WalletEntry, length-map, length-range_with_len, range_with_len, rows_of_lane}
use Rattle.dex_replay.proofs.Common.{AreCells, CellState, IsMarketCell, IsWalletCell, MarketCellState, PlainOutcome, PlainScript}
use Rattle.dex_serializable.proofs.Common.{BankMarketState, BankWalletState, IsBankMarket, IsBankWallet, IsLane, IsLaneDone, IsMarketMerged, IsWalletMerged, Lane, MarketOrigin, Stamped, WalletOrigin, calls_on, entries_on, map-map, market_calls, wallet_entries}
use Rattle.dex_run.proofs.Common.{AreMarketsClosed, AreWalletsClosed, BankState, GateView, IsBank, IsDone, IsMarketClosed, IsMarketGate, IsMarketPassAt, IsSeat, IsSeatOf, IsWalletClosed, IsWalletGate, IsWalletPassAt, MarketColumns, PassView, SeatState, WalletColumns, added}
use Rattle.dex_types.specs.declared.terms.Program.{Program}
use Rattle.dex_act.specs.Wallets.{AreApart}
use Rattle.dex_bank.specs.Closed as cells
use Rattle.dex_journals.specs.StampedCalls.{calls_of_lane, entries_of_lane}
use Rattle.dex_serializable.proofs.LastCells.{wallets-kept}
use Rattle.dex_run.specs.Closing.{AreClosed, ClosesAs}
use Rattle.dex_turns.specs.Seats.{lane_in}
use Rattle.dex_world.proofs.MappedLists.{three-long}
use Rattle.dex_run.proofs.ColumnLists.{All-across, AllZip-last_of}

-- ---- one gate

module _ (script : PlainScript) (seats : List SeatState) (lanes : map (λ (seat : SeatState). seat.lane) seats ≡ range_with_len 0 script.lanes) where
  so_many : length (map lane_in seats) ≡ script.lanes
  so_many = length-map seats lane_in ∙ sym (length-map seats (λ (seat : SeatState). seat.lane)) ∙ ap length lanes ∙ length-range_with_len 0 script.lanes

  market-merged : (start : PlainMarketAccounts) (gate : GateView (Stamped Call) MarketOrigin) (passes : List (PassView (Stamped Call) MarketOrigin)) (value : BankMarketState)
      → IsMarketGate script start gate → AllZip (IsMarketPassAt start gate) seats passes
      → IsMarketClosed gate passes value → IsBankMarket value
      → IsMarketMerged script (map lane_in seats) start value
  market-merged start gate passes value is all closed kept = record {
    kept = kept;
    origin = closed.start ∙ is.origin;
    of_lanes = subst (λ count. All (λ (call : Stamped Call). call.item.asked.lane < count) (market_calls value)) (is.passes ∙ sym so_many)
        (subst (λ opening. All (λ (call : Stamped Call). call.item.asked.lane < gate.passes) (added opening (market_calls value))) is.opening closed.of_lanes);
    each = All-map (λ (lane : Lane). calls_of_lane lane.number (market_calls value) ≡ calls_on start.address lane.calls) lane_in seats
        (All-across (IsMarketPassAt start gate) (λ pass. calls_of_lane pass.number (market_calls value) ≡ pass.mine)
        (λ (seat : SeatState). calls_of_lane seat.lane (market_calls value) ≡ calls_on start.address seat.calls)
        (λ seat pass at mine. ap (λ number. calls_of_lane number (market_calls value)) (sym at.made.number) ∙ mine ∙ at.made.mine) seats passes all
        (subst (λ opening. All (λ (pass : PassView (Stamped Call) MarketOrigin). calls_of_lane pass.number (added opening (market_calls value)) ≡ pass.mine) passes) is.opening closed.each));
  }

  wallet-merged : (start : PlainAccount) (gate : GateView (Stamped WalletEntry) WalletOrigin) (passes : List (PassView (Stamped WalletEntry) WalletOrigin)) (value : BankWalletState)
      → IsWalletGate script start gate → AllZip (IsWalletPassAt start gate) seats passes
      → IsWalletClosed gate passes value → IsBankWallet value
      → IsWalletMerged script (map lane_in seats) start value
  wallet-merged start gate passes value is all closed kept = record {
    kept = kept;
    origin = closed.start ∙ is.origin;
    of_lanes = subst (λ count. All (λ (entry : Stamped WalletEntry). entry.item.lane < count) (wallet_entries value)) (is.passes ∙ sym so_many)
        (subst (λ opening. All (λ (entry : Stamped WalletEntry). entry.item.lane < gate.passes) (added opening (wallet_entries value))) is.opening closed.of_lanes);
    each = All-map (λ (lane : Lane). entries_of_lane lane.number (wallet_entries value) ≡ entries_on start.address lane.calls) lane_in seats
        (All-across (IsWalletPassAt start gate) (λ pass. entries_of_lane pass.number (wallet_entries value) ≡ pass.mine)
        (λ (seat : SeatState). entries_of_lane seat.lane (wallet_entries value) ≡ entries_on start.address seat.calls)
        (λ seat pass at mine. ap (λ number. entries_of_lane number (wallet_entries value)) (sym at.made.number) ∙ mine ∙ at.made.mine) seats passes all
        (subst (λ opening. All (λ (pass : PassView (Stamped WalletEntry) WalletOrigin). entries_of_lane pass.number (added opening (wallet_entries value)) ≡ pass.mine) passes) is.opening closed.each));
  }

-- ---- all gates

module _ (bank : BankState) (seats : List SeatState) (facts : IsBank bank) (lanes : map (λ (seat : SeatState). seat.lane) seats ≡ range_with_len 0 bank.script.lanes) where
  markets-merged : {Z : Type 0} (columns : List (Vec (PassView (Stamped Call) MarketOrigin) Z)) (own : List MarketCellState) → MarketColumns bank seats columns
      → (closed : AreMarketsClosed bank.markets columns own) → AllZip (IsMarketMerged bank.script (map lane_in seats)) bank.script.start.markets closed.values
  markets-merged columns own all closed =
      AllZip-last_of (IsMarketGate bank.script) (λ start gate column. AllZip (IsMarketPassAt start gate) seats column.items)
      (λ gate column value. IsMarketClosed gate column.items value) IsBankMarket (IsMarketMerged bank.script (map lane_in seats))
      (λ start gate column value is each given kept. market-merged bank.script seats lanes start gate column.items value is each given kept)
      bank.script.start.markets bank.markets columns closed.values facts.markets all closed.given closed.kept

  wallets-merged : {Z : Type 0} (columns : List (Vec (PassView (Stamped WalletEntry) WalletOrigin) Z)) (own : List CellState) → WalletColumns bank seats columns
      → (closed : AreWalletsClosed bank.wallets columns own) → AllZip (IsWalletMerged bank.script (map lane_in seats)) bank.script.start.wallets closed.values
  wallets-merged columns own all closed =
      AllZip-last_of (IsWalletGate bank.script) (λ start gate column. AllZip (IsWalletPassAt start gate) seats column.items)
      (λ gate column value. IsWalletClosed gate column.items value) IsBankWallet (IsWalletMerged bank.script (map lane_in seats))
      (λ start gate column value is each given kept. wallet-merged bank.script seats lanes start gate column.items value is each given kept)
      bank.script.start.wallets bank.wallets columns closed.values facts.wallets all closed.given closed.kept

  pub are-cells : {Y Z : Type 0} (market_columns : List (Vec (PassView (Stamped Call) MarketOrigin) Y)) (wallet_columns : List (Vec (PassView (Stamped WalletEntry) WalletOrigin) Z))
      (mints : List PlainAccount) (srm msrm : Option Address) (markets : List MarketCellState) (wallets : List CellState) (program : Program) → WalletColumns bank seats wallet_columns
      → AreMarketsClosed bank.markets market_columns markets → AreWalletsClosed bank.wallets wallet_columns wallets
      → AreCells (record { mints = mints; srm = srm; msrm = msrm; markets = markets; wallets = wallets; program = program })
  are-cells market_columns wallet_columns mints srm msrm markets wallets program all of_markets of_wallets = record {
    markets = subst (λ list. All IsMarketCell list) (sym of_markets.are) (All-map IsMarketCell (λ (value : BankMarketState). value.cell) of_markets.values
        (All-weaker IsBankMarket (λ value. IsMarketCell value.cell) (λ value kept. kept.cell) of_markets.values of_markets.kept));
    wallets = subst (λ list. All IsWalletCell list) (sym of_wallets.are) (All-map IsWalletCell (λ (value : BankWalletState). value.cell) of_wallets.values
        (All-weaker IsBankWallet (λ value. IsWalletCell value.cell) (λ value kept. kept.cell) of_wallets.values of_wallets.kept));
    apart = subst AreApart (sym of_wallets.are)
        (wallets-kept bank.script (map lane_in seats) of_wallets.values facts.script.start.accepted (wallets-merged wallet_columns wallets all of_wallets));
  }

  lane-done : (seat : SeatState) → IsSeat seat → IsSeatOf bank seat → IsDone seat → IsLaneDone bank.script (lane_in seat)
  lane-done seat kept of done = record {
    calls = subst (λ script. IsLane script seat.lane seat.calls) of.script kept.calls;
    done = done ∙ ap (λ (script : PlainScript). length (rows_of_lane seat.lane script.rows)) of.script;
  }

  pub closes : {Y Z : Type 0} (market_columns : List (Vec (PassView (Stamped Call) MarketOrigin) Y)) (wallet_columns : List (Vec (PassView (Stamped WalletEntry) WalletOrigin) Z))
      (mints : List PlainAccount) (srm msrm : Option Address) (markets : List MarketCellState) (wallets : List CellState) (program : Program) (outcome : PlainOutcome)
      → All IsSeat seats → All (IsSeatOf bank) seats → All IsDone seats
      → MarketColumns bank seats market_columns → WalletColumns bank seats wallet_columns
      → AreMarketsClosed bank.markets market_columns markets → AreWalletsClosed bank.wallets wallet_columns wallets
      → mints ≡ bank.script.start.mints → srm ≡ bank.script.start.srm → msrm ≡ bank.script.start.msrm
      → outcome ≡ cells.closed (record { mints = mints; srm = srm; msrm = msrm; markets = markets; wallets = wallets; program = program })
      → ClosesAs bank.script seats outcome
  closes market_columns wallet_columns mints srm msrm markets wallets program outcome kept of done all_markets all_wallets of_markets of_wallets same_mints same_srm same_msrm is = record {
    all = record { markets = of_markets.values; wallets = of_wallets.values; lanes = map lane_in seats };
    lanes = refl;
    merged = record {
      facts = facts.script;
      numbers = map-map lane_in (λ (lane : Lane). lane.number) seats ∙ lanes;
      lanes = All-map (IsLaneDone bank.script) lane_in seats (λ k d within. lane-done (get_or seats k d) (kept k d within) (of k d within) (done k d within));
      markets = markets-merged market_columns markets all_markets of_markets;
      wallets = wallets-merged wallet_columns wallets all_wallets of_wallets;
    };
    leaves = is
        ∙ (λ i. cells.closed (record { mints = same_mints i; srm = same_srm i; msrm = same_msrm i; markets = of_markets.are i; wallets = of_wallets.are i; program = program }));
  }

-- ---- there is a cell for each gate

pub cells-length : {V E O C Z : Type 0} (Given : GateView E O → List (PassView E O) → V → Type 0) (Kept : V → Type 0) (cell : V → C) (gates : List (GateView E O)) (columns : List (Vec (PassView E O) Z))
    (own : List C) → AreClosed Given Kept cell gates columns own → length own ≡ length gates
cells-length Given Kept cell gates columns own closed =
    ap length closed.are ∙ length-map closed.values cell ∙ (three-long (λ gate column value. Given gate column.items value) gates columns closed.values closed.given).1

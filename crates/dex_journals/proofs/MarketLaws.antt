-- A market's journal with one call more.
use Rattle.std.proofs.Common.{◌≡◌, ℕ, ◌≤◌, ◌<◌, Bool, List, [], ◌∷◌, ◌++◌, length, sym, ap, ◌∙◌, subst, arith, All, filter}
use Rattle.dex_world.proofs.Common.{Call, PlainMarketAccounts, PlainRow, Reply, Seen, is_same}
use Rattle.std.proofs.lemmas.List.{length_push}
use Rattle.std.proofs.lemmas.List.Sums.{length-filter}
use Rattle.dex_act.specs.declared.places.WalletPlaces.{WalletPlaces}
use Rattle.dex_act.specs.Steps.{CanStep, HasDone, made_by}
use Rattle.dex_cell.specs.CellState.{HasSpare, IsMarketCell, MarketCellState, market_at}
use Rattle.dex_wallet.specs.CellState.{CellState}
use Rattle.dex_script_types.specs.PlainScript.{PlainScript}
use Rattle.dex_world.specs.RowsOf.{rows_of_market, rows_on}
use Rattle.dex_stamps.specs.Stamped.{AreRising, items_of, stamped}
use Rattle.dex_journals.specs.Journals.{BankMarketState, IsBankMarket, MayStep, calls_by, market_calls, market_more}
use Rattle.dex_journals.proofs.Counting.{fewer}
use Rattle.dex_journals.proofs.StampedLists.{below-more, items_of-stamped, lanes-more, rising-more}

-- how many rows of a lane are on the market
abbrev rows_left : BankMarketState → ℕ → ℕ
rows_left market lane = length (rows_of_market lane market.cell.start.address market.script.rows)

-- where a lane has a row left, there is room for its call
pub spare-market : (market : BankMarketState) → IsBankMarket market → (lane : ℕ)
    → calls_by lane market.cell.calls < length (rows_of_market lane market.cell.start.address market.script.rows)
    → HasSpare market.cell
spare-market market kept lane few =
    let on = λ (row : PlainRow). is_same row.market market.cell.start.address in
    let shorter = fewer (λ (call : Call). call.asked.lane) (λ (row : PlainRow). row.lane)
    market.cell.calls (filter on market.script.rows) kept.lanes lane few in
    omega (arith, shorter, kept.room, length-filter on market.script.rows)

-- the calls without their stamps are the cell's
pub items_of-calls : (market : BankMarketState) → length market.stamps ≡ length market.cell.calls
    → items_of (market_calls market) ≡ market.cell.calls
items_of-calls market counted = items_of-stamped market.cell.calls market.stamps counted

-- and what holds of a market holds of it with a call more, of a lane that has a row left
pub market-more : (market : BankMarketState) (cell : MarketCellState) (call : Call) (stamp : ℕ)
    → IsBankMarket market → IsMarketCell cell
    → cell.calls ≡ market.cell.calls ++ call ∷ [] → cell.start ≡ market.cell.start → cell.room ≡ market.cell.room
    → calls_by call.asked.lane market.cell.calls
    < length (rows_of_market call.asked.lane market.cell.start.address market.script.rows)
    → market.last < stamp
    → IsBankMarket (market_more market cell stamp)
market-more market cell call stamp kept is_cell more start room few above = record {
  cell = is_cell;
  counted = omega (
    arith,
    length_push market.stamps stamp,
    length_push market.cell.calls call,
    ap length more,
    kept.counted,
  );
  rising = subst (λ (calls : List Call). AreRising (stamped calls (market.stamps ++ stamp ∷ []))) (sym more)
      (rising-more market.cell.calls market.stamps market.last call stamp kept.counted kept.rising kept.below above);
  below = below-more market.stamps market.last stamp kept.below above;
  room = room ∙ kept.room ∙ ap (λ (one : PlainMarketAccounts). rows_on one.address market.script.rows) (sym start);
  lanes = λ lane. subst
      (λ (calls : List Call). calls_by lane calls
      ≤ length (rows_of_market lane cell.start.address market.script.rows)) (sym more)
      (subst (λ (one : PlainMarketAccounts). calls_by lane (market.cell.calls ++ call ∷ [])
      ≤ length (rows_of_market lane one.address market.script.rows)) (sym start)
      (lanes-more (λ (one : Call). one.asked.lane) (rows_left market) market.cell.calls call kept.lanes few lane));
}

-- ---- a market that has acted

-- a market of these parts
abbrev pub market_of : MarketCellState → PlainScript → List ℕ → ℕ → BankMarketState
market_of cell script stamps last = record { cell = cell; stamps = stamps; last = last; script = script }

-- what always holds of a market holds of one of which no row has acted
pub begun : (cell : MarketCellState) (script : PlainScript) (stamps : List ℕ) (last : ℕ) → IsMarketCell cell → cell.calls ≡ [] → stamps ≡ []
    → cell.room ≡ rows_on cell.start.address script.rows → IsBankMarket (market_of cell script stamps last)
begun cell script stamps last is none fresh room = record {
  cell = is;
  counted = ap length fresh ∙ sym (ap length none);
  rising = subst (λ (calls : List Call). AreRising (stamped calls stamps)) (sym none) (λ i j d low high. absurd (omega (arith, high)));
  below = subst (λ (some : List ℕ). All (λ (stamp : ℕ). stamp ≤ last) some) (sym fresh) (λ i d within. absurd (omega (arith, within)));
  room = room;
  lanes = λ lane. subst (λ (calls : List Call). calls_by lane calls ≤ length (rows_of_market lane cell.start.address script.rows)) (sym none)
      (omega arith);
}

-- it has one call more, and what always holds of it holds again
pub has-more : (market : BankMarketState) (row : PlainRow) (waits : Bool) (seen : Seen) (reply : Reply) (cell : MarketCellState) (wallets left : List CellState)
    (stamp last : ℕ) (stamps : List ℕ) → IsBankMarket market → calls_by row.lane market.cell.calls < rows_left market row.lane → market.last < stamp
    → HasDone row waits seen reply market.cell cell wallets left → stamps ≡ market.stamps ++ stamp ∷ [] → last ≡ stamp
    → IsBankMarket (market_of cell market.script stamps last)
has-more market row waits seen reply cell wallets left stamp last stamps kept few above did stamped_is last_is =
    subst (λ (one : List ℕ). IsBankMarket (market_of cell market.script one last)) (sym stamped_is)
    (subst (λ (one : ℕ). IsBankMarket (market_of cell market.script (market.stamps ++ stamp ∷ []) one)) (sym last_is)
    (market-more market cell (made_by waits row seen (market_at market.cell)) stamp kept did.kept did.calls did.start did.room few above))

-- a row that may step can
pub can-step : (row : PlainRow) (places : WalletPlaces) (stamp : ℕ) (market : BankMarketState) (wallets : List CellState) → IsBankMarket market
    → MayStep row places stamp market wallets → CanStep row places market.cell wallets
can-step row places stamp market wallets kept may = record {
  on = may.on;
  market = kept.cell;
  spare = spare-market market kept row.lane may.lane;
  wallets = may.wallets;
}

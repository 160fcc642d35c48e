-- All cells before and after a row.
use Rattle.std.proofs.Common.{◌≡◌, ℕ, Bool, true, List, map, get_or, set, Option, Some, sym, ap, ◌∙◌}
use Rattle.dex_world.proofs.Common.{Market, MarketState, PlainRow, Reply, Seen, WalletState, World, act, acted, is_same, is_same-true, markets_acted, request_of, row_step, seen_by, wallet_acted, why, why_in, why_on}
use Rattle.dex_bank.proofs.Common.{AreCells, CanAct, CellState, CellsState, IsFirstAt, IsMarketCell, IsReply, MarketCellState, StandsAt, market_at, wallet_state_of, world_of}
use Rattle.std.proofs.lemmas.List.Elements.{All-get_or, All-set}
use Rattle.std.proofs.Math.Seq.{map-set_same}
use Rattle.dex_cell.specs.CellState as market
use Rattle.dex_world.specs.Items.{doing}
use Rattle.dex_act.specs.declared.places.WalletPlaces.{WalletPlaces}
use Rattle.dex_act.specs.Steps.{CanStep, HasDone}
use Rattle.dex_bank.specs.Stepped.{HasActedOrWaited}
use Rattle.dex_bank.proofs.StepMarkets.{become-first, market-found, others-stay}
use Rattle.dex_bank.proofs.StepWorld.{opened_market}

-- ---- before

-- a row can act where its market and its wallets stand
module _ (row : PlainRow) (place : ℕ) (places : WalletPlaces) (cells : CellsState) (at : StandsAt cells row place places) (are : AreCells cells)
    (can : CanAct row cells) (default : MarketCellState) where
  pub can-step : CanStep row places (get_or cells.markets place default) cells.wallets
  can-step = record {
    on = is_same-true row.market (get_or cells.markets place default).accounts.address (at.market.here default);
    market = All-get_or IsMarketCell cells.markets place default at.market.within are.markets;
    spare =
        All-get_or (λ (cell : MarketCellState). is_same row.market cell.accounts.address ≡ true → market.HasSpare cell) cells.markets place default at.market.within
        can.market_spare (at.market.here default);
    wallets = record { apart = are.apart; kept = are.wallets; spare = can.wallet_spare; at = at.wallets };
  }

-- it is refused there or nowhere
pub refused-here : (row : PlainRow) (place : ℕ) (cells : CellsState) → IsFirstAt row.market cells.markets place → (default : MarketCellState)
    → why (request_of row) (seen_by row (world_of cells)) (market.market_at (get_or cells.markets place default)) ≡ why_in (world_of cells) row
refused-here row place cells first default =
    ap (why_on row (seen_by row (world_of cells))) (sym (market-found row.market cells.markets place default first))

-- ---- after

module _ (row : PlainRow) (waits : Bool) (seen : Seen) (place : ℕ) (cells : CellsState) (seen_is : seen ≡ seen_by row (world_of cells))
    (first : IsFirstAt row.market cells.markets place) (are : AreCells cells) (answer : Reply) (default cell : MarketCellState) (wallets : List CellState)
    (has : HasDone row waits seen answer (get_or cells.markets place default) cell cells.wallets wallets) where
  abbrev done : PlainRow
  done = doing waits row

  abbrev before : World
  before = world_of cells

  abbrev after : CellsState
  after = record cells { markets = set cells.markets place cell; wallets = wallets }

  abbrev here : Market
  here = market.market_at (get_or cells.markets place default)

  found : market_at row.market before.markets ≡ Some here
  found = market-found row.market cells.markets place default first

  -- the world that they are has acted
  world-acted : world_of after ≡ act done before
  world-acted =
      let made : List MarketState → List WalletState → World = λ ms ws. record before { markets = ms; wallets = ws } in
      let by : Seen → World = λ s.
      made (markets_acted done s before.markets) (map (wallet_acted done s (row_step done s here).transfers) before.wallets) in
      ap (λ (ms : List MarketState). made ms (map wallet_state_of wallets)) (become-first done seen cells.markets place cell default first has.state)
      ∙ ap (made (markets_acted done seen before.markets)) has.wallets.states
      ∙ ap by seen_is
      ∙ sym (ap (λ (m : Option Market). acted done m before) found)

  -- the reply is that of the market that was found
  told : IsReply before done answer
  told m at =
      let is : here ≡ m = let both : Some here ≡ Some m = sym found ∙ at in cc in
      has.reply
      ∙ ap (λ (s : Seen). (row_step done s here).reply) seen_is
      ∙ ap (λ (x : Market). (row_step done (seen_by row before) x).reply) is

  pub stepped : HasActedOrWaited row waits answer cells after
  stepped = record {
    reply = told;
    acted = world-acted;
    kept =
        let same = map-set_same opened_market cells.markets place cell default (λ i. market.new_cell (has.start i) (has.room i)) in
        λ i. record cells { markets = same i; wallets = has.wallets.made i };
    others = others-stay row.market cells.markets place cell first;
    refused = λ refused. map-set_same (λ (c : MarketCellState). c.accounts) cells.markets place cell default (has.refused refused);
    cells = record {
      markets = All-set IsMarketCell cells.markets place cell has.kept are.markets;
      wallets = has.wallets.kept;
      apart = has.wallets.apart;
    };
  }

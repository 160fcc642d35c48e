-- One row on the cells in hand: what it needs, and what its market's cell is after it.
use Rattle.std.proofs.Common.{◌≡◌, ◌++◌, ◌∷◌, ◌&&◌, not, Bool, true, false, List, [], map, is_some, Option, Some, None, refl, sym, ap, ◌∙◌, subst}
use Rattle.dex_world.proofs.Common.{Call, Entry, Market, MarketState, PlainRow, Refusal, Row, Seen, Sees, Step, asked_of, entry_by, false≢true, is_take, market_acted, request_of, row_of, row_step, seen_by, why}
use Rattle.std.specs.List.{All}
use Rattle.std.proofs.lemmas.Bool.{true_from_ne_false}
use Rattle.std.proofs.lemmas.List.{map-append}
use Rattle.dex_wallet.specs.CellState.{CellState}
use Rattle.dex_cell.specs.CellState.{CanHold, HasHeld, HasTaken, IsFor, MarketCellState, entries_of, held_made, market_at}
use Rattle.dex_world.specs.Items.{doing}
use Rattle.dex_world.proofs.ItemLaws.{idle-step, not-refused}
use Rattle.dex_act.specs.declared.places.WalletPlaces.{WalletPlaces}
use Rattle.dex_act.specs.declared.steps.RowDone.{RowDone}
use Rattle.dex_act.specs.Opened.{market_state_of}
use Rattle.dex_act.specs.Steps.{CanStep, HasDone, HasEntered, IsRecorded, IsStepOn, IsTakeOrRefused, Terms, made_by, world_in_hand}
use Rattle.dex_act.specs.Wallets.{CanActAt, Fits, SeesCells, roles_of}
use Rattle.dex_act.proofs.Rowing.{seen-at}
use Rattle.dex_act.proofs.Sights.{row-sees, sees-cells}

-- ---- its market's cell

-- a take that was held back entered as a row with nothing to do
held-call : (row : PlainRow) (seen : Seen) (m : Market) → held_made row seen ≡ made_by true row seen m
held-call row seen m =
    ap (λ (s : Step). record { asked = asked_of row; seen = seen; entry = entry_by row seen s.reply s.transfers }) (sym (idle-step row seen m))

pub held-entered : (row : Row) {seen : Seen} {before after : MarketCellState} (waits : Bool) → waits ≡ true → HasHeld row seen before after
    → HasEntered (row_of row) waits seen before after
held-entered row {seen} {before} {after} waits on is =
    subst (λ (b : Bool). HasEntered (row_of row) b seen before after) (sym on)
    (record {
      calls = ap (λ (cell : MarketCellState). cell.calls) is.held ∙ ap (λ (call : Call). before.calls ++ call ∷ []) (held-call (row_of row) seen (market_at before));
      market = ap market_at is.held ∙ sym (ap (λ (s : Step). s.market) (idle-step (row_of row) seen (market_at before)));
      kept = is.cell;
      start = ap (λ (cell : MarketCellState). cell.start) is.held;
      room = ap (λ (cell : MarketCellState). cell.room) is.held;
      refused = λ still. ap (λ (cell : MarketCellState). cell.accounts) is.held;
    })

-- and one that was done or refused as what it is
pub taken-entered : (row : Row) {seen : Seen} {before after : MarketCellState} (waits : Bool) → waits ≡ false → HasTaken row seen before after
    → HasEntered (row_of row) waits seen before after
taken-entered row {seen} {before} {after} waits off is =
    subst (λ (b : Bool). HasEntered (row_of row) b seen before after) (sym off)
    (record {
      calls = is.acted.calls;
      market = is.acted.market;
      kept = is.cell;
      start = is.acted.start;
      room = is.acted.room;
      refused = λ refused. ap (λ (cell : MarketCellState). cell.accounts) (is.refused refused);
    })

-- the market and its journal behind it
pub entered-state : (row : PlainRow) (waits : Bool) (seen : Seen) (before after : MarketCellState) → HasEntered row waits seen before after
    → market_state_of after ≡ market_acted (doing waits row) seen (market_state_of before)
entered-state row waits seen before after is =
    let entry : Call → Entry = λ call. call.entry in
    let state : Market → List Entry → MarketState = λ m entries. record { market = m; entries = entries } in
    ap (λ (m : Market). state m (entries_of after)) is.market
    ∙ ap (state (row_step (doing waits row) seen (market_at before)).market)
    (ap (map entry) is.calls ∙ map-append entry before.calls (made_by waits row seen (market_at before) ∷ []))

-- ---- what it sees, and that it can act so

module _ (terms : Terms) (row : Row) {places : WalletPlaces} {seen : Seen} {market : MarketCellState} {cells : List CellState}
    (seen_is : seen ≡ seen_by (row_of row) (world_in_hand terms cells)) (can : CanStep (row_of row) places market cells) where
  pub sees-row : Sees (asked_of (row_of row)) seen
  sees-row = subst (Sees (asked_of (row_of row))) (sym seen_is) (row-sees terms can.wallets)

  for : IsFor row seen market
  for = record { market = can.on; sees = sees-row }

  pub can-act : All Fits (roles_of seen) → CanActAt row seen places market cells
  can-act fits = record {
    row = for;
    market = can.market;
    spare = can.spare;
    wallets = subst (λ (s : Seen). SeesCells s cells) (sym seen_is) (sees-cells terms can.wallets (subst (λ (s : Seen). All Fits (roles_of s)) seen_is fits));
    places = seen-at row seen market cells places for can.wallets.at;
  }

-- so a row that acted or was held back made a step
module _ (terms : Terms) (row : Row) (done : RowDone) {places : WalletPlaces} {before after : MarketCellState} {cells left : List CellState} {waits told : Bool}
    (seen_is : done.seen.value ≡ seen_by (row_of row) (world_in_hand terms cells)) (can : CanStep (row_of row) places before cells) (same : waits ≡ told)
    (recorded : IsRecorded (row_of row) waits (market_at before) done) (did : HasDone (row_of row) waits done.seen.value done.reply before after cells left) where
  pub stepped : IsStepOn terms (row_of row) told done before after cells left
  stepped =
      subst (λ (b : Bool). IsStepOn terms (row_of row) b done before after cells left) same
      (record { seen = seen_is; sees = sees-row terms row seen_is can; recorded = recorded; did = did })

-- a leg that waits is a take that would not be refused
module _ (terms : Terms) (row : Row) (seen : Seen) (market : MarketCellState) (cells : List CellState)
    (seen_is : seen ≡ seen_by (row_of row) (world_in_hand terms cells)) (take : IsTakeOrRefused terms (row_of row) market cells)
    (waits other refused : Bool) (is : waits ≡ (other && not refused)) (told : refused ≡ is_some (why (request_of (row_of row)) seen (market_at market))) where
  pub can-hold : waits ≡ true → CanHold row seen market
  can-hold on =
      let spared : is_some (why (request_of (row_of row)) seen (market_at market)) ≡ false = sym told ∙ not-refused other refused (sym is ∙ on) in
      record {
        take = true_from_ne_false (is_take (asked_of (row_of row)).request.instruction) (λ isnt.
            false≢true (sym spared ∙ ap (λ (s : Seen). is_some (why (request_of (row_of row)) s (market_at market))) seen_is ∙ take isnt));
        spared = nothing (why (request_of (row_of row)) seen (market_at market)) spared;
      }
    where
      nothing : (found : Option Refusal) → is_some found ≡ false → found ≡ None
      nothing None none = refl
      nothing (Some why) some = absurd (false≢true (sym some))

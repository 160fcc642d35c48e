-- The two legs of a swap on all cells.
use Rattle.std.proofs.Common.{◌≡◌, ℕ, ◌&&◌, not, List, get_or, set, is_some, Option, sym, ap, ◌∙◌, subst}
use Rattle.dex_world.proofs.Common.{PlainRow, Refusal, Row, Seen, request_of, row_of, seen_by, why, why_in}
use Rattle.dex_bank.proofs.Common.{AreCells, CellState, CellsState, IsFirstAt, MarketCellState, StandsAt, cells_inside, item_at, world_of}
use Rattle.dex_cell.specs.CellState.{market_at}
use Rattle.dex_act.specs.declared.steps.Legs.{Legs}
use Rattle.dex_act.specs.declared.steps.RowDone.{RowDone}
use Rattle.dex_act.specs.Steps.{AreStepsOn, CanStepBoth, HasDone}
use Rattle.dex_bank.specs.Cells.{CanActBoth}
use Rattle.std.specs.Borrow.{Bor}
use Rattle.dex_bank.specs.declared.cells.Cells.TheInside.{Inside}
use Rattle.dex_bank.specs.declared.standing.Standing.{Standing}
use Rattle.dex_bank.specs.Stepped.{HasActedOrWaited, HaveBothStepped}
use Rattle.dex_bank.specs.Stepping.{AreStepsAt}
use Rattle.dex_bank.proofs.Stands.{first-still, its-address}
use Rattle.dex_bank.proofs.StepCells.{can-step, refused-here, stepped}
use Rattle.dex_bank.proofs.StepMarkets.{apart-places, other-at}
use Rattle.dex_bank.proofs.StepTwo.{both-stepped}

-- the legs of a swap can act where their markets and wallets stand
pub record AreReady (cells : CellsState) (legs : Legs) (one two : ℕ) : Type 0 where
  pub are : AreCells cells
  pub can : CanActBoth (row_of legs.first.row.now) (row_of legs.second.row.now) cells
  pub first_at : StandsAt cells (row_of legs.first.row.now) one legs.first.places
  pub second_at : StandsAt cells (row_of legs.second.row.now) two legs.second.places

-- legs with what stands beside them
abbrev pub legs_of : Bor Row → Standing → Bor Row → Standing → Legs
legs_of first one second two = record { first = record { row = first; places = one.wallets }; second = record { row = second; places = two.wallets } }

pub are-ready : (first second : Bor Row) (one two : Standing) {cells same : CellsState} → cells ≡ same → AreCells cells
    → CanActBoth (row_of first.now) (row_of second.now) same → StandsAt same (row_of first.now) one.market one.wallets
    → StandsAt same (row_of second.now) two.market two.wallets → AreReady cells (legs_of first one second two) one.market two.market
are-ready first second one two is are can first_at second_at =
    subst (λ (cs : CellsState). AreReady cs (legs_of first one second two) one.market two.market) (sym is)
    (record { are = subst AreCells is are; can = can; first_at = first_at; second_at = second_at })

module _ (inside : Inside) {legs : Legs} {one two : ℕ} (ready : AreReady (cells_inside inside) legs one two) where
  abbrev cells : CellsState
  cells = cells_inside inside

  abbrev first : PlainRow
  first = row_of legs.first.row.now

  abbrev second : PlainRow
  second = row_of legs.second.row.now

  pub apart : one ≡ two → ⊥
  apart = apart-places first.market second.market cells.markets one two ready.first_at.market ready.second_at.market ready.can.share.markets

  pub can-both : (default : MarketCellState) → CanStepBoth inside.terms legs (get_or cells.markets one default) (get_or cells.markets two default) cells.wallets
  can-both default = record {
    first_can = can-step first one legs.first.places cells ready.first_at ready.are ready.can.first_can default;
    second_can = can-step second two legs.second.places cells ready.second_at ready.are ready.can.second_can default;
    share = ready.can.share;
    first_take = λ isnt. ap (λ (found : Option Refusal). is_some found) (refused-here first one cells ready.first_at.market default) ∙ ready.can.first_take isnt;
    second_take = λ isnt. ap (λ (found : Option Refusal). is_some found) (refused-here second two cells ready.second_at.market default) ∙ ready.can.second_take isnt;
  }

  module _ {dones : RowDone × RowDone} {after : List MarketCellState} {left : List CellState}
      (steps : AreStepsAt inside.terms legs dones one two cells.markets after cells.wallets left) where
    abbrev some : MarketCellState
    some = item_at cells.markets one ready.first_at.market.within

    abbrev are_steps : AreStepsOn inside.terms legs dones (get_or cells.markets one some) steps.first (get_or cells.markets two some) steps.second cells.wallets left
    are_steps = steps.steps some

    abbrev between : CellsState
    between = record cells { markets = set cells.markets one steps.first; wallets = are_steps.between }

    first-stepped : HasActedOrWaited first (are_steps.two_refused && not are_steps.one_refused) dones.0.reply cells between
    first-stepped =
        stepped first (are_steps.two_refused && not are_steps.one_refused) dones.0.seen.value one cells are_steps.one.seen ready.first_at.market ready.are dones.0.reply some
        steps.first are_steps.between are_steps.one.did

    still : IsFirstAt second.market (set cells.markets one steps.first) two
    still =
        first-still cells between (its-address cells ready.are) (its-address between first-stepped.cells) first-stepped.kept second.market two ready.second_at.market

    second-stepped : HasActedOrWaited second (are_steps.one_refused && not are_steps.two_refused) dones.1.reply between
        (record between { markets = set (set cells.markets one steps.first) two steps.second; wallets = left })
    second-stepped =
        stepped second (are_steps.one_refused && not are_steps.two_refused) dones.1.seen.value two between are_steps.two.seen still first-stepped.cells dones.1.reply some
        steps.second left
        (subst
        (λ (cell : MarketCellState). HasDone second (are_steps.one_refused && not are_steps.two_refused) dones.1.seen.value dones.1.reply cell steps.second are_steps.between left)
        (sym (other-at cells.markets one two steps.first some apart)) are_steps.two.did)

    -- a leg is refused as in the world before both
    refused-as : (row : PlainRow) (place : ℕ) (seen : Seen) → IsFirstAt row.market cells.markets place → seen ≡ seen_by row (world_of cells)
        → is_some (why (request_of row) seen (market_at (get_or cells.markets place some))) ≡ is_some (why_in (world_of cells) row)
    refused-as row place seen at seen_is =
        ap (λ (s : Seen). is_some (why (request_of row) s (market_at (get_or cells.markets place some)))) seen_is
        ∙ ap (λ (found : Option Refusal). is_some found) (refused-here row place cells at some)

    pub both-acted : HaveBothStepped first second (dones.0.reply, dones.1.reply) cells (record cells { markets = after; wallets = left })
    both-acted =
        subst (λ (ms : List MarketCellState). HaveBothStepped first second (dones.0.reply, dones.1.reply) cells (record cells { markets = ms; wallets = left }))
        (sym steps.are)
        (both-stepped first second ready.can.share are_steps.one_refused are_steps.two_refused dones.0.reply dones.1.reply cells between
        (record cells { markets = set (set cells.markets one steps.first) two steps.second; wallets = left }) first-stepped second-stepped
        (are_steps.one_is ∙ refused-as first one dones.0.seen.value ready.first_at.market are_steps.one.seen)
        (are_steps.two_is ∙ refused-as second two dones.1.seen.value ready.second_at.market are_steps.two_seen))

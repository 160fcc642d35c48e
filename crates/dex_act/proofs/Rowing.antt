-- The steps of a row on cells, put together.
use Rattle.std.proofs.Common.{◌≡◌, List, map, Option, Ok, Err, sym, ap, ◌∙◌, subst, Bool, true, false, refl}
use Rattle.dex_world.proofs.Common.{Address, Market, Movement, PlainRow, Refusal, Row, Seen, Step, false≢true, idle-step, row_of, row_step}
use Rattle.dex_types.specs.Side.{Coin, Pc}
use Rattle.dex_types.specs.Transfers.{Transfers}
use Rattle.dex_types.specs.Wallets.{movements}
use Rattle.dex_history.specs.Journal.{asked_of, front, places, request_of}
use Rattle.dex_world.specs.Items.{doing}
use Rattle.dex_world.proofs.MappedLists.{map-map}
use Rattle.dex_plan.specs.declared.plan.Plan.{Plan}
use Rattle.dex_movements.specs.declared.amounts.Amounts.{Amounts}
use Rattle.dex_movements.specs.Amounts.{transfers_of}
use Rattle.dex_cell.specs.declared.payouts.Payouts.{Payouts}
use Rattle.dex_cell.specs.CellState.{CanHold, IsFor, MarketCellState, answer_on, market_at, step_on}
use Rattle.dex_cell.specs.Paying.{paid_in, paid_out, parcel_of}
use Rattle.dex_plan.specs.Owing.{plan_transfers}
use Rattle.dex_plan.proofs.StepLaws.{planned-moves}
use Rattle.dex_cell.proofs.PlanLaws.{refused-step}
use Rattle.dex_wallet.specs.CellState.{CellState}
use Rattle.dex_wallet.specs.TokenAmount.{TokenAmount}
use Rattle.dex_act.specs.declared.places.WalletPlaces.{WalletPlaces}
use Rattle.dex_act.specs.Acted.{HaveActed}
use Rattle.dex_act.specs.Wallets.{AreOf, ArePlacesAmong, AreSeenAt, CanActAt, CanBePaid, CanPay, CanProbe, amount_in, cell_credited, cell_debited, cell_paid, moves_probed}
use Rattle.dex_act.proofs.Acting.{RowMoves}
use Rattle.dex_act.proofs.Paying as paying
use Rattle.dex_act.proofs.Paying.{held-moves, moves-of-asked, paid-nothing}

-- the wallets of its roles stand where those that it names do
pub seen-at : (row : Row) (seen : Seen) (market : MarketCellState) (cells : List CellState) (at : WalletPlaces) → IsFor row seen market
    → ArePlacesAmong cells (row_of row) at → AreSeenAt cells seen at
seen-at row seen market cells at for among = rw (for.sees.coin, for.sees.pc, for.sees.discount, for.sees.referrer) among

-- ---- a row that can act

module _ {row : Row} {seen : Seen} {at : WalletPlaces} {market : MarketCellState} {cells : List CellState} (can : CanActAt row seen at market cells) where
  -- what it moves on its market's cell: nothing where it waits
  pub moves-of : (waits : Bool) → (waits ≡ true → CanHold row seen market) → RowMoves seen (market_at market) (row_step (doing waits (row_of row)) seen (market_at market)).transfers
  moves-of false held = moves-of-asked (asked_of (row_of row)) seen (market_at market) can.market.sound.sound can.row.sees
  moves-of true held =
      subst (λ (s : Step). RowMoves seen (market_at market) s.transfers) (sym (idle-step (row_of row) seen (market_at market)))
      (held-moves (row_of row) seen (market_at market) (held refl).take can.market.sound.sound can.row.sees)

  -- what the probes of its entry's movements ask of the cells after what was paid, and what they leave
  module _ (t : Transfers) (moves : RowMoves seen (market_at market) t) (paid : List CellState) (paid_is : paid ≡ map (cell_paid (row_of row) seen t) cells)
      (told : List (Option Movement)) (told_is : told ≡ places (movements seen t)) where
    pub probes-behind : CanProbe (row_of row) seen at (front told) paid
    probes-behind =
        subst (λ (l : List (Option Movement)). CanProbe (row_of row) seen at (front l) paid) (sym told_is)
        (subst (CanProbe (row_of row) seen at (front (places (movements seen t)))) (sym paid_is)
        (paying.can-probe (row_of row) seen (market_at market) t cells at moves can.wallets can.places))

    pub acted-behind : (waits : Bool) (new : List CellState) → new ≡ map (moves_probed (row_of row) (front told)) paid → HaveActed (doing waits (row_of row)) seen t cells new
    acted-behind waits new is =
        let looks : List (Option Movement) → List CellState → List CellState = λ l. map (moves_probed (row_of row) (front l)) in
        let have : HaveActed (row_of row) seen t cells new =
        subst (HaveActed (row_of row) seen t cells)
        (sym (is ∙ ap (λ (l : List (Option Movement)). looks l paid) told_is ∙ ap (looks (places (movements seen t))) paid_is
        ∙ map-map (cell_paid (row_of row) seen t) (moves_probed (row_of row) (front (places (movements seen t)))) cells))
        (paying.have-acted (row_of row) seen (market_at market) t cells at moves can.wallets can.places can.row.sees) in
        record { states = have.states; kept = have.kept; apart = have.apart; made = have.made }

  -- ---- a row that is done

  module _ {plan : Plan} (decided : Ok plan ≡ answer_on row seen market) (amounts : Amounts) (told : transfers_of amounts ≡ plan_transfers plan) where
    abbrev m : Market
    m = market_at market

    abbrev t : Transfers
    t = (step_on row seen market).transfers

    step-moves : RowMoves seen m t
    step-moves = moves-of false (λ waits. absurd (false≢true waits))

    -- what the plan moves is what the step moves
    told-step : transfers_of amounts ≡ t
    told-step = told ∙ planned-moves plan (request_of (row_of row)) seen m decided

    pub pays : CanPay seen at amounts.coin_in amounts.pc_in cells
    pays =
        subst (λ (x : Transfers). CanPay seen at x.coin_in x.pc_in cells) (sym told-step)
        (paying.can-pay (row_of row) seen m t cells at step-moves can.wallets can.places)

    -- the parcels are the plan's deposit
    pub coin-paid : (parcel : Option TokenAmount)
        → ((mint : Address) → AreOf mint seen.coin amounts.coin_in cells → parcel ≡ parcel_of mint amounts.coin_in) → parcel ≡ paid_in Coin plan m
    coin-paid parcel made =
        made m.listing.coin_mint (subst (λ (x : Transfers). AreOf m.listing.coin_mint seen.coin x.coin_in cells) (sym told-step)
        (λ k default lt. (paying.each-moves (row_of row) seen m t cells at step-moves can.wallets can.places k default lt).coin_in))
        ∙ ap (λ (x : Transfers). parcel_of m.listing.coin_mint x.coin_in) told

    pub pc-paid : (parcel : Option TokenAmount)
        → ((mint : Address) → AreOf mint seen.pc amounts.pc_in cells → parcel ≡ parcel_of mint amounts.pc_in) → parcel ≡ paid_in Pc plan m
    pc-paid parcel made =
        made m.listing.pc_mint (subst (λ (x : Transfers). AreOf m.listing.pc_mint seen.pc x.pc_in cells) (sym told-step)
        (λ k default lt. (paying.each-moves (row_of row) seen m t cells at step-moves can.wallets can.places k default lt).pc_in))
        ∙ ap (λ (x : Transfers). parcel_of m.listing.pc_mint x.pc_in) told

    -- the cells after the deposits, and the payouts
    module _ (debited : List CellState) (debited_is : debited ≡ map (cell_debited (row_of row) seen amounts.coin_in amounts.pc_in) cells)
        (payouts : Payouts) (paid : payouts ≡ paid_out m t) where
      behind : debited ≡ map (cell_debited (row_of row) seen t.coin_in t.pc_in) cells
      behind = debited_is ∙ ap (λ (x : Transfers). map (cell_debited (row_of row) seen x.coin_in x.pc_in) cells) told-step

      pub gets : CanBePaid seen at payouts.coin payouts.pc payouts.referrer debited
      gets =
          subst (λ (p : Payouts). CanBePaid seen at p.coin p.pc p.referrer debited) (sym paid)
          (subst (CanBePaid seen at (paid_out m t).coin (paid_out m t).pc (paid_out m t).referrer) (sym behind)
          (paying.can-be-paid (row_of row) seen m t cells at step-moves can.wallets can.places))

      pub behind-both : (credited : List CellState)
          → credited ≡ map (cell_credited (row_of row) seen (amount_in payouts.coin) (amount_in payouts.pc) (amount_in payouts.referrer)) debited
          → credited ≡ map (cell_paid (row_of row) seen t) cells
      behind-both credited is =
          is
          ∙ ap (λ (p : Payouts). map (cell_credited (row_of row) seen (amount_in p.coin) (amount_in p.pc) (amount_in p.referrer)) debited) paid
          ∙ ap (map (cell_credited (row_of row) seen (amount_in (paid_out m t).coin) (amount_in (paid_out m t).pc) (amount_in (paid_out m t).referrer))) behind
          ∙ paying.paid-whole (row_of row) seen m t cells at step-moves can.wallets can.places

-- ---- rows that move nothing

-- a row that is refused
pub refused-moves : (row : Row) (seen : Seen) (refusal : Refusal) (market : MarketCellState) (cells : List CellState) → Err refusal ≡ answer_on row seen market
    → cells ≡ map (cell_paid (row_of row) seen (step_on row seen market).transfers) cells
refused-moves row seen refusal market cells decided =
    sym (paid-nothing (row_of row) seen (step_on row seen market).transfers cells
    (ap (λ (s : Step). s.transfers) (refused-step refusal (request_of (row_of row)) seen (market_at market) decided)))

-- and one that is held back
pub held-paid : (row : PlainRow) (seen : Seen) (m : Market) (cells : List CellState) (waits : Bool) → waits ≡ true
    → cells ≡ map (cell_paid row seen (row_step (doing waits row) seen m).transfers) cells
held-paid row seen m cells waits on =
    subst (λ (b : Bool). cells ≡ map (cell_paid row seen (row_step (doing b row) seen m).transfers) cells) (sym on)
    (sym (paid-nothing row seen (row_step (doing true row) seen m).transfers cells (ap (λ (s : Step). s.transfers) (idle-step row seen m))))

-- A cell with a call more is a cell again.
use Rattle.std.proofs.Common.{◌≡◌, ◌&&◌, Bool, true, [], ◌∷◌, ◌++◌, refl, sym, ap, subst, ◌∙◌, arith, length-append}
use Rattle.dex_types.specs.declared.refusals.Refusal.{Refusal}
use Rattle.dex_types.specs.declared.replies.Reply.{Reply}
use Rattle.dex_types.specs.declared.replies.Reply.TheVariants.{Refused}
use Rattle.dex_types.specs.declared.rows.Row.{Row}
use Rattle.dex_types.specs.declared.rows.Seen.{Seen}
use Rattle.dex_types.specs.Accounts.{PlainMarketAccounts}
use Rattle.dex_types.specs.Market.{Market}
use Rattle.dex_types.specs.Rows.{PlainRow, row_of}
use Rattle.dex_types.specs.Steps.{Step, refused}
use Rattle.dex_accounts.specs.Decoded.{market_in}
use Rattle.dex_history.specs.Journal.{Call, Sees, Stands, asked_of, is_held, market_after, row_step}
use Rattle.dex_history.proofs.HeldLaws.{held-stands, held-step, own-stands, own-step}
use Rattle.dex_history.proofs.HistoryLaws.{IsLegal-one, market_after-one}
use Rattle.dex_history.proofs.PriceLaws.{decoded-priced}
use Rattle.dex_ring.specs.declared.pending_fills.PendingFills.{PendingFills}
use Rattle.dex_ring.specs.PendingFills.{pending_fills_of}
use Rattle.dex_step.specs.Acting.{HasStepped}
use Rattle.dex_wallet.specs.TokenAmount.{TokenAmount, held_in}
use Rattle.dex_movements.specs.Entries.{entry_by}
use Rattle.dex_cell.specs.CellState.{CanHold, HasActed, HasSpare, HasTaken, IsFor, IsMarketCell, MarketCellState}
use Rattle.dex_cell.specs.CellState.{call_made, call_on, held_made, held_on, market_at, noted_on, refused_on, step_on}

-- the call of a row stands on the market of its address
stands : (row : PlainRow) (seen : Seen) (m : Market) → row.market ≡ m.listing.address → Sees (asked_of row) seen → Stands (call_made row seen m) m
stands row seen m market sees = own-stands (call_made row seen m) m market (decoded-priced row.bytes) sees refl

-- the cell after the step of a row
pub called : (cell : MarketCellState) (row : Row) (seen : Seen) (accounts : PlainMarketAccounts) (reply : Reply) (pending : PendingFills) (coin pc : TokenAmount)
    → IsMarketCell cell → IsFor row seen cell → HasSpare cell → HasStepped cell.accounts accounts reply pending (step_on row seen cell)
    → coin ≡ held_in accounts.coin_vault → pc ≡ held_in accounts.pc_vault
    → IsMarketCell (record cell { accounts = accounts; coin = coin; pc = pc; calls = cell.calls ++ call_on row seen cell ∷ [] })
called cell row seen accounts reply pending coin pc is for spare stepped coin_is pc_is =
    let m : Market = market_in cell.accounts in
    let call : Call = call_on row seen cell in
    let standing : Stands call (market_after (market_in cell.start) cell.calls) =
    subst (λ (x : Market). Stands call x) is.end_is (stands (row_of row) seen m (for.market ∙ is.sound.stands.address) for.sees) in
    record {
      sound = stepped.sound;
      accepted = stepped.kept.accepted is.accepted;
      one_market = record {
        address = stepped.kept.address ∙ is.one_market.address;
        authority = stepped.kept.authority ∙ is.one_market.authority;
        orders = stepped.kept.addresses ∙ is.one_market.orders;
      };
      start = is.start;
      legal = (IsLegal-one cell.calls call (market_in cell.start)).1 (is.legal, standing);
      end_is = stepped.market ∙ ap (λ (x : Market). (row_step (row_of row) seen x).market) is.end_is
          ∙ sym (ap (λ (s : Step). s.market) (own-step call m (market_after (market_in cell.start) cell.calls) refl))
          ∙ sym (market_after-one cell.calls call (market_in cell.start));
      coin = coin_is;
      pc = pc_is;
      room = omega (arith, length-append cell.calls (call ∷ []), spare);
    }

-- a row whose step is refused, written down so, is its call
pub refused-noted : (cell : MarketCellState) (row : Row) (seen : Seen) (refusal : Refusal) → step_on row seen cell ≡ refused refusal (market_at cell)
    → noted_on row seen (Refused refusal) cell ≡ refused_on row seen cell
refused-noted cell row seen refusal refuses =
    ap (λ (s : Step). record cell { calls = cell.calls ++ record { asked = asked_of (row_of row); seen = seen; entry = entry_by (row_of row) seen s.reply s.transfers } ∷ [] })
    (sym refuses)

-- the cell after a refusal
pub refused-called : (cell : MarketCellState) (row : Row) (seen : Seen) (refusal : Refusal) → IsFor row seen cell → HasSpare cell
    → step_on row seen cell ≡ refused refusal (market_at cell) → IsMarketCell cell → IsMarketCell (noted_on row seen (Refused refusal) cell)
refused-called cell row seen refusal for spare refuses is =
    subst IsMarketCell (sym (refused-noted cell row seen refusal refuses))
    (called cell row seen cell.accounts (Refused refusal) (pending_fills_of (market_at cell).events) cell.coin cell.pc is for spare (record {
      reply_is = sym (ap (λ (s : Step). s.reply) refuses);
      market = sym (ap (λ (s : Step). s.market) refuses);
      sound = is.sound;
      pending_is = refl;
      kept = record { address = refl; authority = refl; addresses = refl; accepted = λ accepted. accepted };
    }) is.coin is.pc)

pub refused-taken : (cell after : MarketCellState) (row : Row) (seen : Seen) (refusal : Refusal) → after ≡ noted_on row seen (Refused refusal) cell
    → step_on row seen cell ≡ refused refusal (market_at cell) → IsMarketCell after → HasTaken row seen cell after
refused-taken cell after row seen refusal noted refuses is =
    let on : after ≡ refused_on row seen cell = noted ∙ refused-noted cell row seen refusal refuses in
    record {
      acted = subst (HasActed row seen cell) (sym on) (record { calls = refl; market = sym (ap (λ (s : Step). s.market) refuses); start = refl; room = refl });
      refused = λ reply. on;
      cell = is;
    }

-- the cell after a take that was held back
pub held-called : (cell : MarketCellState) (row : Row) (seen : Seen) → IsMarketCell cell → IsFor row seen cell → CanHold row seen cell → HasSpare cell
    → IsMarketCell (held_on row seen cell)
held-called cell row seen is for can spare =
    let m : Market = market_in cell.accounts in
    let call : Call = held_made (row_of row) seen in
    let standing : Stands call m =
    held-stands call m (for.market ∙ is.sound.stands.address) (decoded-priced row.bytes.items) for.sees can.take can.spared refl in
    let held : is_held call ≡ true = ap (λ (b : Bool). b && true) can.take in
    record {
      sound = is.sound;
      accepted = is.accepted;
      one_market = is.one_market;
      start = is.start;
      legal = (IsLegal-one cell.calls call (market_in cell.start)).1 (is.legal, subst (λ (x : Market). Stands call x) is.end_is standing);
      end_is = is.end_is
          ∙ sym (ap (λ (s : Step). s.market) (held-step call (market_after (market_in cell.start) cell.calls) held))
          ∙ sym (market_after-one cell.calls call (market_in cell.start));
      coin = is.coin;
      pc = is.pc;
      room = omega (arith, length-append cell.calls (call ∷ []), spare);
    }

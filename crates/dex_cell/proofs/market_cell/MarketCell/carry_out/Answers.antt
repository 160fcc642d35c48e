use Rattle.std.proofs.Common.{◌≡◌, ◌+◌, false, List, [], ◌∷◌, ◌++◌, Ok, map, refl, sym, ap, subst, ◌∙◌, arith}
use Rattle.std.proofs.lemmas.Bool.{false≢true}
use Rattle.dex_types.specs.Accounts.{market_accounts_of}
use Rattle.dex_types.specs.Rows.{row_of}
use Rattle.dex_types.specs.Side.{Coin, Pc}
use Rattle.dex_types.specs.Steps.{Step}
use Rattle.dex_types.specs.Transfers.{Transfers}
use Rattle.dex_history.specs.Balances.{mint_of}
use Rattle.dex_history.specs.Journal.{Call, asked_of, is_refusal, request_of}
use Rattle.dex_history.proofs.StepMoves.{row-moves}
use Rattle.dex_movements.specs.Amounts.{CanMoveEach, transfers_of}
use Rattle.dex_wallet.specs.TokenAmount.{held_in}
use Rattle.dex_cell.specs.CellInside.{call_of, cell_inside}
use Rattle.dex_cell.specs.CellState.{HasSpare, HasTaken, IsFor, IsMarketCell, MarketCellState, answer_on, call_on, market_at, step_on}
use Rattle.dex_cell.specs.Paying.{CanMoveShare, moved_share, paid_in, paid_out, parcel_of}
use Rattle.dex_cell.proofs.CallLaws.{called}
use Rattle.dex_cell.proofs.InsideLaws.{calls-grow, entries-grow}
use Rattle.dex_cell.proofs.PayLaws.{coin-moved, coin-moves, mints-are, paid_by, pc-moved, pc-moves}
use Rattle.dex_cell.proofs.PlanLaws.{plan-moves-cell, planned-done}
use Rattle.dex_cell.proofs.market_cell.MarketCell.carry_out.Goals as goal

-- ---- before the parcels move

moved-first : (c : goal.After-pay-arg-2-1) → transfers_of c.args.amounts.now ≡ (step_on c.args.row.now c.args.seen.now (cell_inside c.self.inside)).transfers
moved-first c =
    plan-moves-cell (cell_inside c.self.inside) c.args.self.now c.args.row.now c.args.seen.now c.args.plan.now _ c.self.view_is c.requires.decided c.requires.amounts

pub pay-payouts-requires-clause-coin : goal.pay-payouts-requires-clause-coin
pay-payouts-requires-clause-coin c =
    subst (λ (t : Transfers). CanMoveShare c.self.inside.vaults.coin t.coin_out t.coin_in c.args.deposits.coin) (sym (moved-first c))
    (coin-moves (cell_inside c.self.inside) c.args.row.now c.args.seen.now c.args.deposits.coin c.self.invariant.cell
    (subst (λ (cell : MarketCellState). c.args.deposits.coin ≡ paid_in Coin c.args.plan.now (market_at cell)) (sym c.self.view_is) c.requires.coin
    ∙ ap (λ (t : Transfers). parcel_of (mint_of Coin (market_at (cell_inside c.self.inside))) t.coin_in) (sym c.requires.amounts ∙ moved-first c)))

pub pay-payouts-requires-clause-pc : goal.pay-payouts-requires-clause-pc
pay-payouts-requires-clause-pc c =
    subst (λ (t : Transfers). CanMoveShare c.self.inside.vaults.pc (t.pc_out + t.referrer_out) t.pc_in c.args.deposits.pc) (sym (moved-first c))
    (pc-moves (cell_inside c.self.inside) c.args.row.now c.args.seen.now c.args.deposits.pc c.self.invariant.cell
    (subst (λ (cell : MarketCellState). c.args.deposits.pc ≡ paid_in Pc c.args.plan.now (market_at cell)) (sym c.self.view_is) c.requires.pc
    ∙ ap (λ (t : Transfers). parcel_of (mint_of Pc (market_at (cell_inside c.self.inside))) t.pc_in) (sym c.requires.amounts ∙ moved-first c)))

-- ---- before the entry is written

pub write_down-requires-clause-moves : goal.write_down-requires-clause-moves
write_down-requires-clause-moves c =
    subst (CanMoveEach c.args.seen.now) (sym (plan-moves-cell (cell_inside c.self.inside) c.args.self.now c.args.row.now c.args.seen.now c.args.plan.now _ c.self.view_is c.requires.decided c.requires.amounts))
    (λ wallet. row-moves (asked_of (row_of c.args.row.now)) c.args.seen.now (market_at (cell_inside c.self.inside)) wallet c.self.invariant.cell.sound.sound c.requires.row.sees)

-- ---- at the end

-- the cell before, its row's step, and what that moves
abbrev before : goal.After-write_down → MarketCellState
before c = cell_inside c.self.inside

abbrev stepped : goal.After-write_down → Step
stepped c = step_on c.args.row.now c.args.seen.now (before c)

moved : (c : goal.After-write_down) → transfers_of c.args.amounts.now ≡ (stepped c).transfers
moved c =
    plan-moves-cell (before c) c.args.self.now c.args.row.now c.args.seen.now c.args.plan.now _ c.self.view_is c.requires.decided c.requires.amounts

calls : (c : goal.After-write_down) → map call_of c.write_down.new.calls.items ≡ (before c).calls ++ call_on c.args.row.now c.args.seen.now (before c) ∷ []
calls c =
    calls-grow c.args.row.now c.args.seen.now c.apply-reply.result (stepped c).reply _ (stepped c).transfers c.apply-reply.ensures.stepped.reply_is (moved c)
    c.self.inside.calls.items c.write_down.new.calls.items c.write_down.ensures.calls

-- the cell after it
abbrev after : goal.After-write_down → MarketCellState
after c = record (before c) {
  accounts = market_accounts_of c.apply-reply.new.accounts;
  coin = c.pay-payouts.new.coin;
  pc = c.pay-payouts.new.pc;
  calls = map call_of c.write_down.new.calls.items;
}

coin : (c : goal.After-write_down) → c.pay-payouts.new.coin ≡ held_in (market_accounts_of c.apply-reply.new.accounts).coin_vault
coin c =
    c.pay-payouts.ensures.coin ∙ ap (λ (t : Transfers). moved_share c.self.inside.vaults.coin t.coin_out t.coin_in) (moved c)
    ∙ coin-moved (before c) c.args.row.now c.args.seen.now (market_accounts_of c.apply-reply.new.accounts) c.self.invariant.cell c.apply-reply.ensures.stepped.sound c.apply-reply.ensures.stepped.market

pc : (c : goal.After-write_down) → c.pay-payouts.new.pc ≡ held_in (market_accounts_of c.apply-reply.new.accounts).pc_vault
pc c =
    c.pay-payouts.ensures.pc ∙ ap (λ (t : Transfers). moved_share c.self.inside.vaults.pc (t.pc_out + t.referrer_out) t.pc_in) (moved c)
    ∙ pc-moved (before c) c.args.row.now c.args.seen.now (market_accounts_of c.apply-reply.new.accounts) c.self.invariant.cell c.apply-reply.ensures.stepped.sound c.apply-reply.ensures.stepped.market

kept : (c : goal.After-write_down) → IsMarketCell (after c)
kept c =
    subst (λ (cs : List Call). IsMarketCell (record (after c) { calls = cs })) (sym (calls c))
    (called (before c) c.args.row.now c.args.seen.now (market_accounts_of c.apply-reply.new.accounts) c.apply-reply.result c.apply-reply.new.pending
    c.pay-payouts.new.coin c.pay-payouts.new.pc c.self.invariant.cell (subst (IsFor c.args.row.now c.args.seen.now) (sym c.self.view_is) c.requires.row) (subst HasSpare (sym c.self.view_is) c.requires.spare) c.apply-reply.ensures.stepped (coin c) (pc c))

pub invariant_of-self : goal.invariant_of-self
invariant_of-self c = record {
  cell = kept c;
  journal = entries-grow c.args.row.now c.args.seen.now c.apply-reply.result (stepped c).reply _ (stepped c).transfers c.apply-reply.ensures.stepped.reply_is (moved c)
      c.self.inside.entries.items c.write_down.new.entries.items (before c).calls c.self.invariant.journal c.write_down.ensures.entries
      ∙ sym (ap (map (λ (call : Call). call.entry)) (calls c));
  reserved = omega (arith, c.write_down.ensures.reserved, c.self.invariant.reserved);
  pending = c.apply-reply.ensures.stepped.pending_is;
  index = c.apply-reply.ensures.indexed;
}

pub returns-clause-paid : goal.returns-clause-paid
returns-clause-paid c =
    c.pay-payouts.ensures.paid ∙ ap (λ (t : Transfers). paid_by c.self.inside.vaults.coin.mint c.self.inside.vaults.pc.mint t) (moved c)
    ∙ mints-are (before c) (stepped c).transfers c.self.invariant.cell
    ∙ ap (λ (cell : MarketCellState). paid_out (market_at cell) (step_on c.args.row.now c.args.seen.now cell).transfers) c.self.view_is

-- its step is no refusal
spared : (c : goal.After-write_down) → is_refusal (stepped c).reply ≡ false
spared c =
    planned-done c.args.plan.now (request_of (row_of c.args.row.now)) c.args.seen.now (market_at (before c))
    (subst (λ (cell : MarketCellState). Ok c.args.plan.now ≡ answer_on c.args.row.now c.args.seen.now cell) (sym c.self.view_is) c.requires.decided)

pub returns-clause-done : goal.returns-clause-done
returns-clause-done c = subst (λ (cell : MarketCellState). is_refusal (step_on c.args.row.now c.args.seen.now cell).reply ≡ false) c.self.view_is (spared c)

pub returns-clause-taken : goal.returns-clause-taken
returns-clause-taken c =
    subst (λ (cell : MarketCellState). HasTaken c.args.row.now c.args.seen.now cell (after c)) c.self.view_is (record {
      acted = record { calls = calls c; market = c.apply-reply.ensures.stepped.market; start = refl; room = refl };
      refused = λ refused. absurd (false≢true (sym (spared c) ∙ refused));
      cell = kept c;
    })

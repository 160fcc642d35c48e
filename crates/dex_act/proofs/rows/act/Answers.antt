use Rattle.std.proofs.Common.{◌≡◌, ◌||◌, true, ap, subst}
use Rattle.dex_world.proofs.Common.{Entry, Reply, is_refusal, row_of, row_step}
use Rattle.dex_cell.specs.CellState.{MarketCellState, market_at}
use Rattle.dex_world.specs.Items.{doing}
use Rattle.dex_act.specs.Steps.{made_by}
use Rattle.dex_act.proofs.Rowing.{acted-behind, moves-of, probes-behind}
use Rattle.dex_act.proofs.StepLaws.{entered-state}
use Rattle.dex_act.proofs.rows.act.Goals as goal

pub probes-requires : goal.probes-requires
probes-requires c =
    let row = row_of c.args.asked.now.row.now in
    let seen = c.args.asked.now.seen.now in
    let before : MarketCellState = c.args.market.now in
    let entry = c.last-entry.ensures before.calls (made_by c.args.waits row seen (market_at before)) c.enter.ensures.entered.calls in
    probes-behind c.requires.can (row_step (doing c.args.waits row) seen (market_at before)).transfers (moves-of c.requires.can c.args.waits c.requires.held)
    c.enter.new.wallets c.enter.ensures.wallets c.last-entry.result.now.moves (ap (λ (e : Entry). e.moves) entry)

pub returns : goal.returns
returns c =
    let row = row_of c.args.asked.now.row.now in
    let seen = c.args.asked.now.seen.now in
    let before : MarketCellState = c.args.market.now in
    let entered = c.enter.ensures.entered in
    let entry = c.last-entry.ensures before.calls (made_by c.args.waits row seen (market_at before)) entered.calls in
    let reply = ap (λ (e : Entry). e.reply) entry in
    record {
      reply = reply;
      calls = entered.calls;
      kept = entered.kept;
      state = entered-state row c.args.waits seen before c.enter.new.market entered;
      start = entered.start;
      room = entered.room;
      refused = λ refused. entered.refused (subst (λ (r : Reply). (c.args.waits || is_refusal r) ≡ true) reply refused);
      wallets =
          acted-behind c.requires.can (row_step (doing c.args.waits row) seen (market_at before)).transfers (moves-of c.requires.can c.args.waits c.requires.held)
          c.enter.new.wallets c.enter.ensures.wallets c.last-entry.result.now.moves (ap (λ (e : Entry). e.moves) entry) c.args.waits c.probes.new.cells c.probes.ensures;
    }

use Rattle.std.proofs.Common.{◌≡◌, Bool, sym, subst}
use Rattle.dex_types.specs.Rows.{row_of}
use Rattle.dex_cell.specs.CellState.{market_at}
use Rattle.dex_act.specs.Wallets.{cells_paid}
use Rattle.dex_act.proofs.Rowing.{held-paid}
use Rattle.dex_act.proofs.StepLaws.{held-entered, taken-entered}
use Rattle.dex_act.proofs.rows.enter.Goals as goal

pub idle-requires-clause-held : goal.idle-requires-clause-held
idle-requires-clause-held c = c.requires.held c.if-waits.true

pub returns-then-waits-clause-entered : goal.returns-then-waits-clause-entered
returns-then-waits-clause-entered c = held-entered c.args.asked.now.row.now c.args.waits c.if-waits.true c.idle.ensures.held

pub returns-then-waits-clause-wallets : goal.returns-then-waits-clause-wallets
returns-then-waits-clause-wallets c =
    held-paid (row_of c.args.asked.now.row.now) c.args.asked.now.seen.now (market_at c.args.market.now) c.args.wallets.now c.args.waits c.if-waits.true

pub returns-else-waits-clause-entered : goal.returns-else-waits-clause-entered
returns-else-waits-clause-entered c = taken-entered c.args.asked.now.row.now c.args.waits c.if-waits.false c.answer.ensures.taken

pub returns-else-waits-clause-wallets : goal.returns-else-waits-clause-wallets
returns-else-waits-clause-wallets c =
    subst (λ (b : Bool). c.answer.new.wallets ≡ cells_paid b c.args.asked.now.row.now c.args.asked.now.seen.now c.args.market.now c.args.wallets.now)
    (sym c.if-waits.false) c.answer.ensures.wallets

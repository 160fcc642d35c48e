use Rattle.std.proofs.Common.{sym, subst}
use Rattle.dex_world.proofs.Common.{Row, row_of}
use Rattle.dex_bank.specs.Cells.{CanActBoth}
use Rattle.dex_bank.specs.Places.{StandsAt}
use Rattle.dex_bank.specs.Stepped.{HaveBothStepped}
use Rattle.dex_bank.proofs.cells.Cells.step_two.Goals as goal

pub stepped_both-requires-clause-rows : goal.stepped_both-requires-clause-rows
stepped_both-requires-clause-rows g c =
    subst (λ (row : Row). CanActBoth (row_of row) (row_of c.row-2.result.now) c.args.self.now) (sym c.row.ensures)
    (subst (λ (row : Row). CanActBoth (row_of (g.W.AsRow.is c.args.first.now)) (row_of row) c.args.self.now) (sym c.row-2.ensures) c.requires.rows)

pub stepped_both-requires-clause-first : goal.stepped_both-requires-clause-first
stepped_both-requires-clause-first g c =
    subst (λ (row : Row). StandsAt c.args.self.now (row_of row) c.of-one.result.market c.of-one.result.wallets) (sym c.row.ensures) c.of-one.ensures

pub stepped_both-requires-clause-second : goal.stepped_both-requires-clause-second
stepped_both-requires-clause-second g c =
    subst (λ (row : Row). StandsAt c.args.self.now (row_of row) c.of-two.result.market c.of-two.result.wallets) (sym c.row-2.ensures) c.of-two.ensures

pub returns : goal.returns
returns g c =
    subst (λ (row : Row). HaveBothStepped (row_of row) (row_of (g.W.AsRow.is c.args.second.now)) c.stepped_both.result c.args.self.now c.stepped_both.new.cells) c.row.ensures
    (subst (λ (row : Row). HaveBothStepped (row_of c.row.result.now) (row_of row) c.stepped_both.result c.args.self.now c.stepped_both.new.cells) c.row-2.ensures c.stepped_both.ensures)

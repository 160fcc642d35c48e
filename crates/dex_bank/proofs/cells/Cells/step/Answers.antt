use Rattle.std.proofs.Common.{sym, subst}
use Rattle.dex_world.proofs.Common.{Row, row_of}
use Rattle.dex_bank.proofs.Common.{CanAct, StandsAt}
use Rattle.dex_bank.specs.Stepped.{HasStepped}
use Rattle.dex_bank.proofs.cells.Cells.step.Goals as goal

pub stepped-requires-clause-row : goal.stepped-requires-clause-row
stepped-requires-clause-row g c = subst (λ (row : Row). CanAct (row_of row) c.args.self.now) (sym c.row.ensures) c.requires.row

pub stepped-requires-clause-places : goal.stepped-requires-clause-places
stepped-requires-clause-places g c =
    subst (λ (row : Row). StandsAt c.args.self.now (row_of row) c.of-standing.result.market c.of-standing.result.wallets) (sym c.row.ensures) c.of-standing.ensures

pub returns : goal.returns
returns g c = subst (λ (row : Row). HasStepped (row_of row) c.stepped.result c.args.self.now c.stepped.new.cells) c.row.ensures c.stepped.ensures

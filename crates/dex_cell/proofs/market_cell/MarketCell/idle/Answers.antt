use Rattle.dex_cell.proofs.CallLaws.{held-called}
use Rattle.dex_cell.proofs.market_cell.MarketCell.idle.Goals as goal

pub note-requires-clause-cell : goal.note-requires-clause-cell
note-requires-clause-cell c is = held-called c.args.self.now c.args.row.now c.args.seen.now is c.requires.row c.requires.held c.requires.spare

pub returns-clause-held : goal.returns-clause-held
returns-clause-held c = record { held = c.note.ensures.noted; cell = c.note.ensures.cell }

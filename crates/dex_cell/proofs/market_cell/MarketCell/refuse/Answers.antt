use Rattle.std.proofs.Common.{◌≡◌, ◌∙◌}
use Rattle.dex_types.specs.Rows.{row_of}
use Rattle.dex_types.specs.Steps.{refused}
use Rattle.dex_history.specs.Journal.{request_of}
use Rattle.dex_cell.specs.CellState.{market_at, step_on}
use Rattle.dex_cell.proofs.CallLaws.{refused-called, refused-noted, refused-taken}
use Rattle.dex_cell.proofs.PlanLaws.{refused-step}
use Rattle.dex_cell.proofs.market_cell.MarketCell.refuse.Goals as goal

-- its step is a refused one
refuses : (c : goal.After-note) → step_on c.args.row.now c.args.seen.now c.args.self.now ≡ refused c.args.refusal (market_at c.args.self.now)
refuses c = refused-step c.args.refusal (request_of (row_of c.args.row.now)) c.args.seen.now (market_at c.args.self.now) c.requires.decided

pub note-requires-clause-cell : goal.note-requires-clause-cell
note-requires-clause-cell c =
    refused-called c.args.self.now c.args.row.now c.args.seen.now c.args.refusal c.requires.row c.requires.spare
    (refused-step c.args.refusal (request_of (row_of c.args.row.now)) c.args.seen.now (market_at c.args.self.now) c.requires.decided)

pub returns-clause-refused : goal.returns-clause-refused
returns-clause-refused c = c.note.ensures.noted ∙ refused-noted c.args.self.now c.args.row.now c.args.seen.now c.args.refusal (refuses c)

pub returns-clause-taken : goal.returns-clause-taken
returns-clause-taken c =
    refused-taken c.args.self.now c.note.new.self c.args.row.now c.args.seen.now c.args.refusal c.note.ensures.noted (refuses c) c.note.ensures.cell

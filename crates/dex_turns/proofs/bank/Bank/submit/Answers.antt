use Rattle.std.proofs.Common.{sym, subst}
use Rattle.std.specs.Prelude.{IfSome}
use Rattle.dex_types.specs.declared.rows.Row.{Row}
use Rattle.dex_world.proofs.Common.{row_of}
use Rattle.dex_script_types.specs.Places.{IsPlaced}
use Rattle.dex_turns.proofs.Common.{BankState, HasSubmitted, IsBank, IsNext, IsRowOf}
use Rattle.dex_turns.specs.Inside.{bank_inside}
use Rattle.dex_turns.proofs.SeatAfter.{next-ahead, row-fits}
use Rattle.dex_turns.proofs.bank.Bank.submit.Goals as goal

pub places_of-places-requires-clause-row : goal.places_of-places-requires-clause-row
places_of-places-requires-clause-row g c =
    subst (λ (bank : BankState). IsRowOf bank.script.start (row_of (g.W.AsRow.is c.args.row.now))) (sym c.self.view_is)
    (row-fits c.requires.seat (subst IsBank c.self.view_is c.self.invariant.bank) (next-ahead c.requires.row))

pub places_of-places-requires-clause-placed : goal.places_of-places-requires-clause-placed
places_of-places-requires-clause-placed g c =
    subst (λ (bank : BankState). IfSome (g.W.AsRow.at c.args.row.now) (IsPlaced bank.script.start (row_of (g.W.AsRow.is c.args.row.now)))) (sym c.self.view_is) c.requires.placed

pub submit_at-requires-clause-row : goal.submit_at-requires-clause-row
submit_at-requires-clause-row g c = subst (λ (row : Row). IsNext (row_of row) c.args.seat.now) (sym c.row.ensures) c.requires.row

pub submit_at-requires-clause-places : goal.submit_at-requires-clause-places
submit_at-requires-clause-places g c =
    subst (λ (bank : BankState). IsPlaced bank.script.start (row_of c.row.result.now) c.places_of-places.result) c.self.view_is
    (subst (λ (row : Row). IsPlaced (bank_inside c.self.inside).script.start (row_of row) c.places_of-places.result) (sym c.row.ensures) c.places_of-places.ensures)

pub returns-clause-submitted : goal.returns-clause-submitted
returns-clause-submitted g c = subst (λ (row : Row). HasSubmitted (row_of row) c.submit_at.result c.args.seat.now c.submit_at.new.seat) c.row.ensures c.submit_at.ensures.submitted

use Rattle.std.proofs.Common.{sym, subst}
use Rattle.std.specs.Prelude.{IfSome}
use Rattle.dex_types.specs.declared.rows.Row.{Row}
use Rattle.dex_world.proofs.Common.{row_of}
use Rattle.dex_script_types.specs.Places.{IsPlaced}
use Rattle.dex_turns.proofs.Common.{AreNext, BankState, HaveSubmitted, IsBank, IsRowOf}
use Rattle.dex_turns.specs.Inside.{bank_inside}
use Rattle.dex_turns.proofs.SeatAfter.{first-ahead, row-fits, second-ahead}
use Rattle.dex_turns.proofs.bank.Bank.submit_two.Given as given
use Rattle.dex_turns.proofs.bank.Bank.submit_two.Goals.{After-row-next}
use Rattle.dex_turns.proofs.bank.Bank.submit_two.Goals as goal

pub places_of-one-requires-clause-row : goal.places_of-one-requires-clause-row
places_of-one-requires-clause-row g c =
    subst (λ (bank : BankState). IsRowOf bank.script.start (row_of (g.W.AsRow.is c.args.first.now))) (sym c.self.view_is)
    (row-fits c.requires.seat (subst IsBank c.self.view_is c.self.invariant.bank) (first-ahead c.requires.legs))

pub places_of-one-requires-clause-placed : goal.places_of-one-requires-clause-placed
places_of-one-requires-clause-placed g c =
    subst (λ (bank : BankState). IfSome (g.W.AsRow.at c.args.first.now) (IsPlaced bank.script.start (row_of (g.W.AsRow.is c.args.first.now)))) (sym c.self.view_is) c.requires.first

pub places_of-two-requires-clause-row : goal.places_of-two-requires-clause-row
places_of-two-requires-clause-row g c =
    subst (λ (bank : BankState). IsRowOf bank.script.start (row_of (g.W.AsRow.is c.args.second.now))) (sym c.self.view_is)
    (row-fits c.requires.seat (subst IsBank c.self.view_is c.self.invariant.bank) (second-ahead c.requires.legs))

pub places_of-two-requires-clause-placed : goal.places_of-two-requires-clause-placed
places_of-two-requires-clause-placed g c =
    subst (λ (bank : BankState). IfSome (g.W.AsRow.at c.args.second.now) (IsPlaced bank.script.start (row_of (g.W.AsRow.is c.args.second.now)))) (sym c.self.view_is) c.requires.second

-- ---- the legs

-- their markets and wallets stand at these places
one : (g : given.Over) (c : After-row-next g) → IsPlaced c.args.self.now.script.start (row_of c.row-row.result.now) c.places_of-one.result
one g c =
    subst (λ (bank : BankState). IsPlaced bank.script.start (row_of c.row-row.result.now) c.places_of-one.result) c.self.view_is
    (subst (λ (row : Row). IsPlaced (bank_inside c.self.inside).script.start (row_of row) c.places_of-one.result) (sym c.row-row.ensures) c.places_of-one.ensures)

two : (g : given.Over) (c : After-row-next g) → IsPlaced c.args.self.now.script.start (row_of c.row-next.result.now) c.places_of-two.result
two g c =
    subst (λ (bank : BankState). IsPlaced bank.script.start (row_of c.row-next.result.now) c.places_of-two.result) c.self.view_is
    (subst (λ (row : Row). IsPlaced (bank_inside c.self.inside).script.start (row_of row) c.places_of-two.result) (sym c.row-next.ensures) c.places_of-two.ensures)

next : (g : given.Over) (c : After-row-next g) → AreNext (row_of c.row-row.result.now) (row_of c.row-next.result.now) c.args.seat.now
next g c =
    subst (λ (row : Row). AreNext (row_of row) (row_of c.row-next.result.now) c.args.seat.now) (sym c.row-row.ensures)
    (subst (λ (row : Row). AreNext (row_of (g.W.AsRow.is c.args.first.now)) (row_of row) c.args.seat.now) (sym c.row-next.ensures) c.requires.legs)

pub wallets_of_both-requires : goal.wallets_of_both-requires
wallets_of_both-requires g c = (next g (goal.at.wallets_of_both-requires g c).After-row-next).legs

pub submit_legs-requires-clause-legs : goal.submit_legs-requires-clause-legs
submit_legs-requires-clause-legs g c = next g (goal.at.submit_legs-requires-clause-legs g c).After-row-next

pub submit_legs-requires-clause-placed : goal.submit_legs-requires-clause-placed
submit_legs-requires-clause-placed g c =
    let k = (goal.at.submit_legs-requires-clause-placed g c).After-row-next in
    c.wallets_of_both.ensures c.args.self.now.script (one g k) (two g k)

pub submit_legs-requires-clause-first : goal.submit_legs-requires-clause-first
submit_legs-requires-clause-first g c = (one g (goal.at.submit_legs-requires-clause-first g c).After-row-next).market

pub submit_legs-requires-clause-second : goal.submit_legs-requires-clause-second
submit_legs-requires-clause-second g c = (two g (goal.at.submit_legs-requires-clause-second g c).After-row-next).market

pub returns-clause-submitted : goal.returns-clause-submitted
returns-clause-submitted g c =
    subst (λ (row : Row). HaveSubmitted (row_of row) (row_of (g.W.AsRow.is c.args.second.now)) c.submit_legs.result c.args.seat.now c.submit_legs.new.seat) c.row-row.ensures
    (subst (λ (row : Row). HaveSubmitted (row_of c.row-row.result.now) (row_of row) c.submit_legs.result c.args.seat.now c.submit_legs.new.seat) c.row-next.ensures
    c.submit_legs.ensures.submitted)

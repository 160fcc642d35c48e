use Rattle.std.proofs.Common.{◌∷◌, [], map, refl, sym, ap, ◌∙◌, subst, arith}
use Rattle.dex_world.proofs.Common.{row_of}
use Rattle.dex_turns.proofs.Common.{HasSubmitted, IsBank, IsNext, IsSeatOf, call_made}
use Rattle.std.proofs.lemmas.List.{map-append}
use Rattle.dex_turns.specs.Inside.{seat_inside}
use Rattle.dex_turns.proofs.SeatAfter.{IsAfter, finds-at, next-ahead, ready, row-after, seat_with}
use Rattle.dex_turns.proofs.bank.Bank.submit_at.Given as given
use Rattle.dex_turns.proofs.bank.Bank.submit_at.Goals.{After-and-seat-inside}
use Rattle.dex_turns.proofs.bank.Bank.submit_at.Goals as goal

pub in_market-made-requires-clause-market : goal.in_market-made-requires-clause-market
in_market-made-requires-clause-market g c =
    (finds-at c.seat.view_is (next-ahead c.requires.row) (subst IsBank c.self.view_is c.self.invariant.bank) c.requires.seat c.seat.invariant.seat c.requires.places.market).enters

pub in_market-made-requires-clause-markets : goal.in_market-made-requires-clause-markets
in_market-made-requires-clause-markets g c =
    (finds-at c.seat.view_is (next-ahead c.requires.row) (subst IsBank c.self.view_is c.self.invariant.bank) c.requires.seat c.seat.invariant.seat c.requires.places.market).long

pub in_market-made-requires-clause-idle : goal.in_market-made-requires-clause-idle
in_market-made-requires-clause-idle g c =
    (finds-at c.seat.view_is (next-ahead c.requires.row) (subst IsBank c.self.view_is c.self.invariant.bank) c.requires.seat c.seat.invariant.seat c.requires.places.market).idle

pub in_market-made-requires-clause-passes : goal.in_market-made-requires-clause-passes
in_market-made-requires-clause-passes g c =
    ready (subst (IsSeatOf c.args.self.now) (sym c.seat.view_is) c.requires.seat) (subst IsBank c.self.view_is c.self.invariant.bank)
    (next-ahead (subst (IsNext (row_of c.args.row.now)) (sym c.seat.view_is) c.requires.row)) c.seat.invariant.seat

-- ---- the seat behind it

known : (g : given.Over) (c : After-and-seat-inside g) → IsAfter c.args.self.now (HasSubmitted (row_of c.args.row.now) c.in_market-made.result.reply) c.args.seat.now
    (seat_with (seat_inside c.seat.inside) (map call_made c.and-seat-inside.result.items) c.in_market-made.result.stamp.number c.in_market-made.new.markets.items
    c.in_market-made.new.wallets.passes.items)
known g c =
    row-after (subst (IsNext (row_of c.args.row.now)) (sym c.seat.view_is) c.requires.row) (subst (IsSeatOf c.args.self.now) (sym c.seat.view_is) c.requires.seat)
    c.seat.invariant.seat c.in_market-made.ensures.told refl c.in_market-made.ensures.own c.in_market-made.ensures.later c.in_market-made.new.markets.items
    c.in_market-made.ensures.markets c.in_market-made.new.wallets.passes.items c.in_market-made.ensures.passes c.seat.view_is
    (ap (map call_made) c.and-seat-inside.ensures ∙ map-append call_made c.seat.inside.calls.items ((c.args.row.now, c.in_market-made.result) ∷ [])) c.in_market-made.result.told

pub invariant_of-seat : goal.invariant_of-seat
invariant_of-seat g c = record {
  seat = (known g (goal.at.invariant_of-seat g c).After-and-seat-inside).kept;
  hands = c.in_market-made.ensures.hands;
  room = omega (arith, c.seat.invariant.room, c.in_market-made.ensures.room);
}

pub returns-clause-submitted : goal.returns-clause-submitted
returns-clause-submitted g c = (known g (goal.at.returns-clause-submitted g c).After-and-seat-inside).submitted

pub returns-clause-bank : goal.returns-clause-bank
returns-clause-bank g c = (known g (goal.at.returns-clause-bank g c).After-and-seat-inside).of

pub returns-clause-kept : goal.returns-clause-kept
returns-clause-kept g c = (known g (goal.at.returns-clause-kept g c).After-and-seat-inside).kept

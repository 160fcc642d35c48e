use Rattle.std.proofs.Common.{[], ◌∷◌, ◌++◌, List, map, refl, sym, ap, ◌∙◌, subst, arith}
use Rattle.dex_world.proofs.Common.{Row, row_of}
use Rattle.dex_turns.proofs.Common.{AreNext, HaveSubmitted, IsBank, IsSeatOf, call_made}
use Rattle.std.proofs.lemmas.List.{append_assoc, map-append}
use Rattle.dex_turns.specs.Inside.{seat_inside}
use Rattle.dex_turns.specs.declared.stamped_record.StampedRecord.{StampedRecord}
use Rattle.dex_turns.proofs.LegSeat.{legs-after, legs-ready}
use Rattle.dex_turns.proofs.SeatAfter.{IsAfter, finds-at, first-ahead, seat_with, second-ahead}
use Rattle.dex_turns.proofs.bank.Bank.submit_legs.Given as given
use Rattle.dex_turns.proofs.bank.Bank.submit_legs.Goals.{After-and-seat-inside}
use Rattle.dex_turns.proofs.bank.Bank.submit_legs.Goals as goal

pub in_markets-made-requires-clause-first : goal.in_markets-made-requires-clause-first
in_markets-made-requires-clause-first g c =
    (finds-at c.seat.view_is (first-ahead c.requires.legs) (subst IsBank c.self.view_is c.self.invariant.bank) c.requires.seat c.seat.invariant.seat c.requires.first).enters

pub in_markets-made-requires-clause-second : goal.in_markets-made-requires-clause-second
in_markets-made-requires-clause-second g c =
    (finds-at c.seat.view_is (second-ahead c.requires.legs) (subst IsBank c.self.view_is c.self.invariant.bank) c.requires.seat c.seat.invariant.seat c.requires.second).enters

pub in_markets-made-requires-clause-markets : goal.in_markets-made-requires-clause-markets
in_markets-made-requires-clause-markets g c =
    (finds-at c.seat.view_is (first-ahead c.requires.legs) (subst IsBank c.self.view_is c.self.invariant.bank) c.requires.seat c.seat.invariant.seat c.requires.first).long

pub in_markets-made-requires-clause-idle : goal.in_markets-made-requires-clause-idle
in_markets-made-requires-clause-idle g c =
    (finds-at c.seat.view_is (first-ahead c.requires.legs) (subst IsBank c.self.view_is c.self.invariant.bank) c.requires.seat c.seat.invariant.seat c.requires.first).idle

pub in_markets-made-requires-clause-passes : goal.in_markets-made-requires-clause-passes
in_markets-made-requires-clause-passes g c =
    legs-ready (subst (AreNext (row_of c.args.legs.now.first.now) (row_of c.args.legs.now.second.now)) (sym c.seat.view_is) c.requires.legs)
    (subst IsBank c.self.view_is c.self.invariant.bank) (subst (IsSeatOf c.args.self.now) (sym c.seat.view_is) c.requires.seat) c.seat.invariant.seat

-- ---- the seat behind them

known : (g : given.Over) (c : After-and-seat-inside g) → IsAfter c.args.self.now
    (HaveSubmitted (row_of c.args.legs.now.first.now) (row_of c.args.legs.now.second.now) (c.in_markets-made.result.first.reply, c.in_markets-made.result.second.reply)) c.args.seat.now
    (seat_with (seat_inside c.seat.inside) (map call_made c.and-seat-inside.result.items) c.in_markets-made.result.first.stamp.number c.in_markets-made.new.markets.items
    c.in_markets-made.new.wallets.passes.items)
known g c =
    let one : Row × StampedRecord = (c.args.legs.now.first.now, c.in_markets-made.result.first) in
    let two : Row × StampedRecord = (c.args.legs.now.second.now, c.in_markets-made.result.second) in
    legs-after (subst (AreNext (row_of c.args.legs.now.first.now) (row_of c.args.legs.now.second.now)) (sym c.seat.view_is) c.requires.legs)
    (subst (IsSeatOf c.args.self.now) (sym c.seat.view_is) c.requires.seat) c.seat.invariant.seat c.in_markets-made.ensures.told (refl, refl) c.in_markets-made.new.markets.items
    c.in_markets-made.ensures.markets c.in_markets-made.new.wallets.passes.items c.in_markets-made.ensures.passes c.seat.view_is
    (ap (map call_made) (c.and-seat-inside.ensures ∙ ap (λ (l : List _). l ++ two ∷ []) c.and.ensures ∙ append_assoc c.seat.inside.calls.items _ _)
    ∙ map-append call_made c.seat.inside.calls.items (one ∷ two ∷ [])) c.in_markets-made.result.first.told c.in_markets-made.result.second.told

pub invariant_of-seat : goal.invariant_of-seat
invariant_of-seat g c = record {
  seat = (known g (goal.at.invariant_of-seat g c).After-and-seat-inside).kept;
  hands = c.in_markets-made.ensures.hands;
  room = omega (arith, c.seat.invariant.room, c.in_markets-made.ensures.room);
}

pub returns-clause-submitted : goal.returns-clause-submitted
returns-clause-submitted g c = (known g (goal.at.returns-clause-submitted g c).After-and-seat-inside).submitted

pub returns-clause-bank : goal.returns-clause-bank
returns-clause-bank g c = (known g (goal.at.returns-clause-bank g c).After-and-seat-inside).of

pub returns-clause-kept : goal.returns-clause-kept
returns-clause-kept g c = (known g (goal.at.returns-clause-kept g c).After-and-seat-inside).kept

use Rattle.std.proofs.Common.{rules, IsSome, refl, sym, subst}
use Rattle.dex_gate.proofs.Keeps.{looks_at}
use Rattle.dex_gate.proofs.Seating.{in_hand, found_in_hand, takes_turn}
use Rattle.dex_gate.proofs.steps.look.Goals as goal

pub load-served-requires : goal.load-served-requires
load-served-requires g c = (search rules, search rules, looks_at _ _ _ _ _ _ _ _ _ _ c.requires.waiting.1)

pub returns-then-served-ticket : goal.returns-then-served-ticket
returns-then-served-ticket g c = record { table = c.load-served.ensures.0; took = tt; kept = (c.load-served.ensures.2 _ _ c.requires.waiting.1).1 c.if-served-ticket.true; other = c.if-served-ticket.true }

pub exchange-requires : goal.exchange-requires
exchange-requires g c = let took = (c.load-served.ensures.2 _ _ c.requires.waiting.1).0 c.if-served-ticket.false in (search rules, in_hand _ _ _ took.1)

pub unwrap-requires : goal.unwrap-requires
unwrap-requires g c = let took = (c.load-served.ensures.2 _ _ c.requires.waiting.1).0 c.if-served-ticket.false in subst IsSome (sym (found_in_hand _ _ _ _ took.1 c.exchange.ensures.2)) refl

pub returns-clause-took : goal.returns-clause-took
returns-clause-took g c = λ card is.
    takes_turn g.V.Journaled.entries g.V.Journaled.lane g.V.Journaled.origin _ _ card _ _ _ ((c.load-served.ensures.2 card _ is).0 c.if-served-ticket.false) c.exchange.ensures.2 c.exchange.ensures.3 c.unwrap.ensures

use Rattle.std.proofs.Common.{refl, sym}
use Rattle.dex_ring.proofs.Verdicts.{none_from_queue, queue_from_none}
use Rattle.dex_ring.proofs.ring_check.check_events.Goals as goal

pub returns-in-Some-clause-ok : goal.returns-in-Some-clause-ok
returns-in-Some-clause-ok c =
    ((λ ok. absurd cc), (λ accepted. absurd (let none = none_from_queue c.args.bytes.now accepted in cc c.in-Some.ensures)))

pub returns-in-None-clause-ok : goal.returns-in-None-clause-ok
returns-in-None-clause-ok c = ((λ ok. queue_from_none c.args.bytes.now (sym c.in-None.ensures)), (λ accepted. refl))

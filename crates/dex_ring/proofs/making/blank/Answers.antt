use Rattle.std.proofs.Common.{length, ap, subst, sym, ◌∙◌}
use Rattle.dex_ring.specs.Ring.{IsEventQueue, ring_of}
use Rattle.dex_ring.proofs.BlankLaw.{IsEventQueue-blank_queue, ring_of-blank_queue}
use Rattle.dex_ring.proofs.making.blank.Goals as goal

pub returns-clause-accepted : goal.returns-clause-accepted
returns-clause-accepted c =
    subst IsEventQueue (sym c.write_empty_account.ensures.bytes) (IsEventQueue-blank_queue (length c.args.bytes.now) c.requires)

pub returns-clause-ring : goal.returns-clause-ring
returns-clause-ring c =
    ap ring_of c.write_empty_account.ensures.bytes ∙ ring_of-blank_queue (length c.args.bytes.now) c.requires

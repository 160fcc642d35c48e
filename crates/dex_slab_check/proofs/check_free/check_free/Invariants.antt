use Rattle.dex_slab_check.specs.Checked.{IsSoundFree}
use Rattle.dex_slab_check.specs.declared.slab_fault.SlabFault.{SlabFault}
use Rattle.dex_slab_check.specs.Faults.{BreaksFree}
use Rattle.dex_slab.specs.Slab.{free_from, free_of}
use Rattle.dex_slab_check.proofs.check_free.check_free.Given as goal

abbrev pub invariant-loop-left : goal.invariant-loop-left
invariant-loop-left l = record {
  sound : IsSoundFree l.bytes (free_from l.bytes l.left l.node) → IsSoundFree l.bytes (free_of l.bytes);
  breaks : (fault : SlabFault) → BreaksFree l.bytes (free_from l.bytes l.left l.node) fault → BreaksFree l.bytes (free_of l.bytes) fault;
}

abbrev pub decreases-loop-left : goal.decreases-loop-left
decreases-loop-left l = l.left

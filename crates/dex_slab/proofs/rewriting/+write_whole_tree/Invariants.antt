use Rattle.dex_slab.specs.Nodes.{count_of}
use Rattle.dex_slab.proofs.rewriting.+write_whole_tree.Given as goal

abbrev pub decreases-write_whole_tree : goal.decreases-write_whole_tree
decreases-write_whole_tree l = count_of l.bytes.now

use Rattle.dex_slab_check.proofs.check_tree.+check_tree.Given as goal

abbrev pub decreases-check_tree : goal.decreases-check_tree
decreases-check_tree l = l.steps

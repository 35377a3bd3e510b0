use Rattle.certificate_checker.proofs.small_node.+check_small_node.Given as goal

abbrev pub decreases-check_small_node : goal.decreases-check_small_node
decreases-check_small_node l = l.levels

use Rattle.certificate_checker.proofs.node.+check_node.Given as goal

abbrev pub decreases-check_node : goal.decreases-check_node
decreases-check_node l = l.levels

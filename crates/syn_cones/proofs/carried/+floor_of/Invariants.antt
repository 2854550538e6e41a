use Rattle.syn_cones.proofs.carried.+floor_of.Given as goal

abbrev pub decreases-floor_of : goal.decreases-floor_of
decreases-floor_of l = l.depth

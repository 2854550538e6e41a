use Rattle.syn_cones.proofs.words.+word_of.Given as goal

abbrev pub decreases-word_of : goal.decreases-word_of
decreases-word_of l = l.depth

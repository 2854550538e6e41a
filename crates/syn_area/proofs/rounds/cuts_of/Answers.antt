use Rattle.syn_area.proofs.rounds.cuts_of.Goals as goal

pub loop-pick-preserved : goal.loop-pick-preserved
loop-pick-preserved c = λ rows node joins left right is. c.push_pick.ensures rows node joins left right is (c.loop-pick.invariant rows node joins left right is)

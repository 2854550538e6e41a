use Rattle.syn_fanout_free.proofs.Bounded.{saved_is_bounded}
use Rattle.syn_fanout_free.proofs.Existing.{all_ands_reached, saved_tells}
use Rattle.syn_fanout_free.proofs.saved_numbers.Goals as goal

pub returns-clause-all : goal.returns-clause-all
returns-clause-all c = all_ands_reached

pub returns-clause-difference : goal.returns-clause-difference
returns-clause-difference c = saved_tells

pub returns-clause-bounded : goal.returns-clause-bounded
returns-clause-bounded c = saved_is_bounded

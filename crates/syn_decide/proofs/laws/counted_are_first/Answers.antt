use Rattle.syn_decide.specs.Fold.{after_reads, begin}
use Rattle.syn_decide.proofs.Counting.{first_counted}
use Rattle.syn_decide.proofs.laws.counted_are_first.Goals as goal

pub returns : goal.returns
returns c = λ t reads. first_counted (after_reads t (begin t) reads).inner (after_reads t (begin t) reads).counts

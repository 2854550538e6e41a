use Rattle.std.proofs.Common.{arith}
use Rattle.syn_cut_functions.proofs.CutTruth.{nothing_of_all}
use Rattle.syn_cut_functions.proofs.numbered.none_found.Goals as goal

pub returns : goal.returns
returns c = λ rows same. nothing_of_all rows c.loop.lists.items (omega (arith, same, c.loop.invariant.count, c.loop-test.false, c.loop.auto.counter-end)) c.loop.invariant.none

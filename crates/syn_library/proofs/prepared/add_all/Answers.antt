use Rattle.std.proofs.Common.{arith}
use Rattle.syn_library.proofs.Found.{found_more}
use Rattle.syn_library.proofs.prepared.add_all.Goals as goal

pub loop-function-preserved : goal.loop-function-preserved
loop-function-preserved c = record {
  count = omega (arith, c.in_ok-add_new.ensures.count, c.loop-function.invariant.count);
  few = omega (arith, c.in_ok-add_new.ensures.more, c.loop-function.invariant.few);
  found = found_more c.loop-function.function c.canon-class.result.0 c.loop-function.lists.items c.add_new.new.lists.items c.loop-function.places c.add_new.new.places
      c.loop-function.invariant.found c.in_ok-add_new.ensures.kept c.canon-class.ensures.class c.in_ok-add_new.ensures.added;
}

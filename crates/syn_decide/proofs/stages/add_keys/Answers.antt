use Rattle.std.proofs.Common.{◌-◌, sym, ◌∙◌, arith}
use Rattle.syn_decide.specs.Tasks.{task_of}
use Rattle.syn_decide.proofs.Using.{keys_skip}
use Rattle.syn_decide.proofs.stages.add_keys.Goals as goal

pub loop-i-preserved : goal.loop-i-preserved
loop-i-preserved c = record {
  keys = keys_skip (task_of c.args.attempt.now) c.args.attempt.now.candidate.leaves.now c.loop-i.waiting c.args.attempt.now.candidate.root c.loop-i.i (c.loop-i.i - 1)
      (omega arith) (omega arith) (sym c.uses.ensures ∙ c.if-uses.false) c.loop-i.invariant.keys;
  within = omega arith;
  few = omega arith;
}

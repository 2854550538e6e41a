use Rattle.std.proofs.Common.{◌<◌, length, arith, rules}
use Rattle.syn_balance.proofs.Marking.{set_kept, marked_more, observed_more}
use Rattle.syn_balance.proofs.roots.mark_observed.Goals as goal

pub loop-lit-preserved : goal.loop-lit-preserved
loop-lit-preserved c =
    let inside : c.node.result < length c.loop-lit.marks = search rules in
    record {
      size = search rules;
      kept = λ m h. set_kept c.loop-lit.marks c.node.result m inside (c.loop-lit.invariant.kept m h);
      all = marked_more c.args.observed.now c.loop-lit.marks c.loop-lit.lit-index c.node.result _ inside c.node.ensures (omega arith) c.loop-lit.invariant.all;
      only = observed_more c.args.observed.now c.args.marks.now c.loop-lit.marks c.loop-lit.lit-index c.node.result _ inside c.node.ensures (omega arith) c.loop-lit.invariant.only;
    }

pub returns-clause-all : goal.returns-clause-all
returns-clause-all c k d lt = c.loop-lit.invariant.all k d (omega arith) lt

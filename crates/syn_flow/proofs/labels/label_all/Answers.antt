use Rattle.std.proofs.Common.{◌≡◌, length, subst, arith}
use Rattle.syn_flow.specs.Labelling.{IsLabelling}
use Rattle.syn_flow.proofs.Labelled.{none_labelled}
use Rattle.syn_flow.proofs.labels.label_all.Goals as goal

pub loop-n-init : goal.loop-n-init
loop-n-init c = record {
  labelled = none_labelled c.args.k c.args.rows.now c.new-labelling.result c.new-labelling.ensures.labels c.new-labelling.ensures.cuts c.new-labelling.ensures.paths;
  ready = c.in_ok-room.ensures;
}

pub returns : goal.returns
returns c =
    let all : c.loop-n.n ≡ length c.args.rows.now = omega (arith, c.loop-n-test.false, c.loop-n.auto.n-end) in
    subst (λ m. IsLabelling c.args.k c.args.rows.now m c.loop-n.labelling) all c.loop-n.invariant.labelled

use Rattle.std.proofs.Common.{rules, ◌-◌, ◌∷◌, List, [], sym, ap, ◌∙◌, subst, arith}
use Rattle.syn_decide.specs.declared.decisions.Counted.{Counted}
use Rattle.syn_decide.specs.Dying.{AreLeft, first_dying}
use Rattle.syn_decide.specs.Walk.{nodes_of}
use Rattle.syn_decide.proofs.Least.{one_step}
use Rattle.syn_decide.proofs.mffc.dying_with.Goals as goal

pub loop-steps-init : goal.loop-steps-init
loop-steps-init g c = record {
  rest = search rules;
  few = search rules;
  left = subst (λ (dying : List Counted). AreLeft c.args.rows.now dying c.release.new.left.items) (search rules) (c.release.ensures [] c.begin_left.ensures);
}

pub loop-steps-preserved : goal.loop-steps-preserved
loop-steps-preserved g c = record {
  rest = one_step (nodes_of c.args.hits.now) c.args.rows.now c.loop-steps.dying.items c.push-in-loop-steps.new.self.items _ c.in-Some.r (c.loop-steps.steps - 1) c.loop-steps.steps (omega (arith, c.loop-steps-test.true))
      (ap (λ (dying : List Counted). first_dying (nodes_of c.args.hits.now) dying c.args.rows.now) (sym c.as_slice.ensures.value) ∙ sym c.first_dying.ensures ∙ c.in-Some.is)
      c.push-in-loop-steps.ensures.items c.loop-steps.invariant.rest;
  few = search rules;
  left = subst (λ (dying : List Counted). AreLeft c.args.rows.now dying c.release-in-loop-steps.new.left.items) (sym c.push-in-loop-steps.ensures.items) (c.release-in-loop-steps.ensures c.loop-steps.dying.items c.loop-steps.invariant.left);
}

use Rattle.std.proofs.Common.{sym, ◌∙◌}
use Rattle.syn_sat.proofs.Opposites.{is_true, next_literal, or_none}
use Rattle.syn_sat.proofs.checking.mark_false.Goals as goal

pub loop-lit-preserved : goal.loop-lit-preserved
loop-lit-preserved c = record {
  agrees = λ v agrees is.
      let before = c.loop-lit.invariant.agrees v agrees is in
      let parts = or_none _ _ (sym (next_literal v c.args.clause.now c.loop-lit.lit-index (record { 0 = 0 }) c.loop-lit-test.true) ∙ before.1) in
      (c.mark.ensures.agrees v before.0 (is_true v _ c.not.result c.not.ensures parts.0), parts.1);
  up_to = λ h. c.mark.ensures.up_to (c.loop-lit.invariant.up_to h);
}

use Rattle.std.proofs.Common.{◌≡◌, ◌+◌, ◌||◌, Bool, true, drop, subst}
use Rattle.syn_sat.specs.Clauses.{clause_value}
use Rattle.syn_sat.specs.Checking.{open_value}
use Rattle.syn_sat.proofs.Opposites.{is_false, next_literal}
use Rattle.syn_sat.proofs.checking.open_in.Goals as goal

pub loop-lit-preserved : goal.loop-lit-preserved
loop-lit-preserved c = λ v agrees is.
    c.with_literal-left.ensures v (clause_value v (drop (c.loop-lit.lit-index + 1) c.args.clause.now))
    (λ marked. is_false v _ c.not.result c.not.ensures (c.is_marked-is_false.ensures marked v agrees))
    (subst (λ (b : Bool). (open_value v c.loop-lit.left || b) ≡ true) (next_literal v c.args.clause.now c.loop-lit.lit-index _ c.loop-lit-test.true) (c.loop-lit.invariant v agrees is))

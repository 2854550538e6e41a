use Rattle.std.proofs.Common.{◌≡◌, false, not, List, sym, ap, ◌∙◌, subst}
use Rattle.syn_rows.specs.declared.Lit.{Lit}
use Rattle.syn_sat.specs.Clauses.{clause_value}
use Rattle.syn_sat.proofs.Opposites.{not_value, push_value}
use Rattle.syn_sat.proofs.solver.complements.Goals as goal

pub loop-lit-preserved : goal.loop-lit-preserved
loop-lit-preserved c = λ v all.
    subst (λ (xs : List Lit). clause_value v xs ≡ false) (sym c.in_ok-push.ensures.items)
    (push_value v c.loop-lit.clause.items c.not.result (c.loop-lit.invariant v all) (not_value v _ c.not.result c.not.ensures ∙ ap not (all c.loop-lit.lit-index _ c.loop-lit-test.true)))

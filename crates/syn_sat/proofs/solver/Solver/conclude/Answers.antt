use Rattle.std.proofs.Common.{rules, ◌≡◌, true, false, sym, ap, ◌∙◌}
use Rattle.syn_sat.specs.Clauses.{clause_value}
use Rattle.syn_sat.proofs.solver.Solver.conclude.Goals as goal

pub returns-clause-refuted : goal.returns-clause-refuted
returns-clause-refuted c = λ _ v h all.
    let is : clause_value v c.complements.new.clause.items ≡ true = ap (clause_value v) (sym c.as_slice-2.ensures.value) ∙ c.in_ok-accepted.ensures.learned (search rules) v h in
    let no : clause_value v c.complements.new.clause.items ≡ false = c.in_ok-complements.ensures v all in
    absurd (cc (is, no))

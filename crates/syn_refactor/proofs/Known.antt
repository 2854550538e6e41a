-- Tables that are one.
use Rattle.std.proofs.Common.{◌≡◌, true, ◌&&◌, eqb, subst}
use Rattle.std.proofs.lemmas.Bool.{and_parts, eqb-true}
use Rattle.syn_truth.specs.declared.Truth.{Truth}
use Rattle.syn_truth.proofs.Each.{same_table, same_values}
use Rattle.syn_plan.specs.declared.plan.Plan.{Plan}
use Rattle.syn_refactor.specs.Known.{IsFactored}

-- those that `==` tells to be
pub same_words : (f g : Truth) → (eqb f.vars g.vars && (eqb f.low g.low && eqb f.high g.high)) ≡ true → f ≡ g
same_words f g h =
    let parts = and_parts _ _ h in
    let words : (eqb f.low g.low ≡ true) × (eqb f.high g.high ≡ true) = and_parts _ _ parts.1 in
    same_table f g (eqb-true _ _ parts.0) (λ xs long. same_values f g (eqb-true _ _ words.0) (eqb-true _ _ words.1) xs)

-- a plan of the one is one of the other
pub factored_same : (f g : Truth) (p : Plan) → f ≡ g → IsFactored f p → IsFactored g p
factored_same f g p same known = subst (λ t. IsFactored t p) same known

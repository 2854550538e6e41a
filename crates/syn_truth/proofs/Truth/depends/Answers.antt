use Rattle.std.proofs.Common.{◌≡◌, true, false, not, Bool, ap, ap₂, sym, ◌∙◌}
use Rattle.std.proofs.Math.ListN.{set}
use Rattle.std.proofs.lemmas.Bool.{not-true, not_from_false}
use Rattle.std.specs.Bool.{beq}
use Rattle.syn_truth.specs.Truth.{holds_at_each, value_of}
use Rattle.syn_truth.proofs.Each.{each_same, equal_test, depends_from, depends_test}
use Rattle.syn_truth.proofs.Truth.depends.Goals as goal

pub returns : goal.returns
returns c =
    let same : Bool = holds_at_each c.args.self.vars (λ xs. beq (value_of c.args.self (set xs c.args.i true)) (value_of c.args.self (set xs c.args.i false))) in
    let answer : c.ne.result ≡ not same =
    c.ne.ensures
    ∙ ap not
    (equal_test c.cofactor.result c.cofactor-2.result (c.cofactor.ensures.vars ∙ sym c.cofactor-2.ensures.vars)
    ∙ ap (λ n. holds_at_each n (λ xs. beq (value_of c.cofactor.result xs) (value_of c.cofactor-2.result xs))) c.cofactor.ensures.vars
    ∙ each_same c.args.self.vars _ _ (λ xs h. ap₂ beq (c.cofactor.ensures.values xs h) (c.cofactor-2.ensures.values xs h))) in (
      (λ h. depends_from c.args.self c.args.i (not-true same (sym answer ∙ h))),
      λ d. answer ∙ not_from_false same (depends_test c.args.self c.args.i d),
    )

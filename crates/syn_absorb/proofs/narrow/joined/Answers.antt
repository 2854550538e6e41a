use Rattle.std.proofs.Common.{◌&&◌, ◌||◌, not, false, Bool, get_or, ap, ap₂, ◌∙◌, arith}
use Rattle.syn_absorb.proofs.Narrowing.{chosen_value}
use Rattle.syn_absorb.proofs.narrow.joined.Goals as goal

pub returns-clause-values : goal.returns-clause-values
returns-clause-values c xs e =
    let own = c.var-variable.ensures.values xs e in
    c.either.ensures.values xs (omega arith)
    ∙ ap₂ (λ (a b : Bool). a || b)
    (c.and-high.ensures.values xs (omega arith) ∙ ap₂ (λ (a b : Bool). a && b) own (c.cofactor.ensures.values xs e))
    (c.and-low.ensures.values xs (omega arith) ∙ ap₂ (λ (a b : Bool). a && b) (c.not.ensures.values xs (omega arith) ∙ ap not own) (c.cofactor-2.ensures.values xs e))
    ∙ chosen_value c.args.truth xs c.args.j (get_or xs c.args.i false)

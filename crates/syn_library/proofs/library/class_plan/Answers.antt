use Rattle.std.proofs.Common.{◌≡◌, true, [], ap, subst, sym, ◌∙◌}
use Rattle.syn_truth.specs.Truth.{value_of}
use Rattle.syn_plan.specs.Factoring.{Built, factored, names_once}
use Rattle.syn_plan.specs.Naming.{NamesNeeded}
use Rattle.syn_plan.proofs.Named.{factored_needed}
use Rattle.syn_plan.proofs.Steps.{factored-table}
use Rattle.syn_library.specs.Library.{function_of}
use Rattle.syn_library.proofs.Firsts.{built_of-is}
use Rattle.syn_library.proofs.library.class_plan.Goals as goal

pub factor_in-requires : goal.factor_in-requires
factor_in-requires c = subst (λ n. names_once n c.args.order.now ≡ true) (sym c.from_bits.ensures.vars) c.requires

pub returns-clause-built : goal.returns-clause-built
returns-clause-built c =
    let same = factored-table c.from_bits.result.vars 4 c.args.order.now (value_of c.from_bits.result) (function_of c.args.class) [] c.from_bits.ensures.vars c.from_bits.ensures.values in
    built_of-is c.factor_in.result (factored 4 c.args.order.now (function_of c.args.class))
    (c.factor_in.ensures.gates ∙ ap (λ b. b.gates) same)
    (c.factor_in.ensures.out ∙ ap (λ b. b.out) same)

pub returns-clause-truth : goal.returns-clause-truth
returns-clause-truth c = λ xs h. c.factor_in.ensures.truth xs (h ∙ sym c.from_bits.ensures.vars) ∙ c.from_bits.ensures.values xs h

pub returns-clause-names : goal.returns-clause-names
returns-clause-names c =
    subst (λ (b : Built). NamesNeeded 4 (function_of c.args.class) b) (sym (returns-clause-built c))
    (factored_needed 4 c.args.order.now (function_of c.args.class))

use Rattle.syn_library.proofs.Fits.{Computes-fitted, fitted-ordered, fitted-there, plan_truth-fitted}
use Rattle.std.proofs.Common.{List, ap, ap₂, ◌∙◌}
use Rattle.syn_plan.specs.declared.PLit.{PLit}
use Rattle.syn_plan.specs.Factoring.{Built}
use Rattle.syn_plan.specs.Naming.{built_of, built_names}
use Rattle.syn_library.proofs.Owned.{fitted_own}
use Rattle.syn_library.proofs.fit.Goals as goal

abbrev made : List (PLit × PLit) → PLit → Built
made gates out = record { gates = gates; out = out }

pub invariant_of-result-clause-ordered : goal.invariant_of-result-clause-ordered
invariant_of-result-clause-ordered c = fitted-ordered c.args.plan.now c.args.transform c.fitted_gates.result.items c.requires c.fitted_gates.ensures

pub invariant_of-result-clause-there : goal.invariant_of-result-clause-there
invariant_of-result-clause-there c = fitted-there c.args.plan.now c.args.transform c.fitted_gates.result.items c.fitted_output.result c.requires c.fitted_gates.ensures c.fitted_output.ensures

pub returns-clause-built : goal.returns-clause-built
returns-clause-built c = ap₂ made c.fitted_gates.ensures c.fitted_output.ensures

pub returns-clause-truth : goal.returns-clause-truth
returns-clause-truth c = plan_truth-fitted c.args.plan.now _ c.args.transform c.requires c.fitted_gates.ensures c.fitted_output.ensures

pub returns-clause-fits : goal.returns-clause-fits
returns-clause-fits c = λ function class canon computes.
    Computes-fitted function class c.args.transform c.args.plan.now _ canon computes (returns-clause-truth c)

pub returns-clause-names : goal.returns-clause-names
returns-clause-names c = λ function class canon own i l d.
    ap (built_names i) (ap₂ made c.fitted_gates.ensures c.fitted_output.ensures)
    ∙ fitted_own function class c.args.transform (built_of c.args.plan.now) canon own i l d

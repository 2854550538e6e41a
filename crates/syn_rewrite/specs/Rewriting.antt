-- The proposals of rewriting (Mishchenko, Chatterjee and Brayton, DAC 2006): cut by cut, plan by plan.
use Rattle.std.specs.Prelude.{ℕ, List, map, flat_map}
use Rattle.syn_rows.specs.declared.Row.{Row}
use Rattle.syn_plan.specs.Factoring.{Built}
use Rattle.syn_gain.specs.Replacements.{Replacement}
use Rattle.syn_cut_functions.specs.Cuts.{cuts_of}
use Rattle.syn_cut_functions.specs.Functions.{cut_function}
use Rattle.syn_function_plans.specs.PlansOf.{fitted_plans}

-- a plan of four leaves over the leaves of a cut of the root
abbrev pub over : ℕ → List ℕ → Built → Replacement
over root leaves plan = record { root = root; leaves = leaves; count = 4; gates = plan.gates; out = plan.out }

-- for a cut: the plans of the root's function over it
abbrev pub cut_proposals : List Row → ℕ → List ℕ → List Replacement
cut_proposals rows root leaves = map (over root leaves) (fitted_plans (cut_function rows leaves root))

-- The proposals of rewriting for a node: for each of its listed cuts of at most four leaves but the trivial one, in order, those of the cut.
abbrev pub rewritings : List Row → ℕ → List Replacement
rewritings rows node = flat_map (cut_proposals rows node) (cuts_of rows node)

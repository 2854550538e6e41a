use Rattle.std.proofs.Common.{◌≤◌, Some, sym, ◌∙◌}
use Rattle.std.proofs.lemmas.Result.{IfErr-weaker, IfOk-weaker}
use Rattle.syn_network.specs.WrittenLuts as luts
use Rattle.syn_build.specs.BuildFaults.{most_gates}
use Rattle.syn_shell.specs.Networks.{gates_in, mapped_network}
use Rattle.syn_shell.specs.Steps.{MakingRefused, gates_for}
use Rattle.syn_shell.proofs.Recipes.{few_for, gates_for_luts, makes_of_luts, refused_for}
use Rattle.syn_shell.proofs.commands.remade_luts.Goals as goal

pub returns-in-None-clause-made : goal.returns-in-None-clause-made
returns-in-None-clause-made g c = c.hashed_and_remade.ensures.made (sym c.window_in.ensures ∙ c.in-None.is)

pub returns-in-None-clause-gates : goal.returns-in-None-clause-gates
returns-in-None-clause-gates g c =
    let net = mapped_network (luts.network_of c.args.net.now) in
    IfOk-weaker c.hashed_and_remade.result (λ new. gates_in net ≤ most_gates) (λ new. gates_for c.args.recipe.now net ≤ most_gates) (λ new few. few_for c.args.recipe.now net few) c.hashed_and_remade.ensures.gates

pub returns-in-None-clause-refused : goal.returns-in-None-clause-refused
returns-in-None-clause-refused g c =
    let m = Some (mapped_network (luts.network_of c.args.net.now)) in
    IfErr-weaker c.hashed_and_remade.result (MakingRefused gates_in m) (MakingRefused (gates_for c.args.recipe.now) m)
    (λ cause why. refused_for c.args.recipe.now m cause (sym c.window_in.ensures ∙ c.in-None.is) why) c.hashed_and_remade.ensures.refused

pub returns-in_ok-made-in-Some-clause-made : goal.returns-in_ok-made-in-Some-clause-made
returns-in_ok-made-in-Some-clause-made g c = makes_of_luts c.args.recipe.now c.in-Some.window _ _ (sym c.window_in.ensures ∙ c.in-Some.is) c.in_ok-made-in-Some.ensures

pub returns-in_ok-made-in-Some-clause-gates : goal.returns-in_ok-made-in-Some-clause-gates
returns-in_ok-made-in-Some-clause-gates g c = gates_for_luts c.args.recipe.now c.in-Some.window _ (sym c.window_in.ensures ∙ c.in-Some.is)

use Rattle.std.proofs.Common.{Option, subst}
use Rattle.syn_network.specs.Written as graphs
use Rattle.syn_network.specs.declared.lut_networks.LutNetwork.{LutNetwork}
use Rattle.syn_shell.specs.Networks.{graph_network, made_in}
use Rattle.syn_shell.specs.Makes.{MakesOfGraph}
use Rattle.syn_shell.proofs.Recipes.{behind_hashing}
use Rattle.syn_shell.proofs.commands.hashed_and_remade.Goals as goal

pub returns-in-Ok-None-clause-made : goal.returns-in-Ok-None-clause-made
returns-in-Ok-None-clause-made g c = λ none.
    behind_hashing c.same_is_transitive.ensures c.args.recipe.now _ _ _ none c.in_ok-graph.ensures.graph
    (subst (λ (made : Option LutNetwork). MakesOfGraph c.args.recipe.now (graph_network (graphs.network_of c.in_ok-graph.graph)) (made_in c.remake_graph.new.network made)) c.in-Ok-None.field-0-is c.in-Ok-None.ensures.made)

pub returns-in-Ok-Some-clause-made : goal.returns-in-Ok-Some-clause-made
returns-in-Ok-Some-clause-made g c = λ none.
    behind_hashing c.same_is_transitive.ensures c.args.recipe.now _ _ _ none c.in_ok-graph.ensures.graph
    (subst (λ (made : Option LutNetwork). MakesOfGraph c.args.recipe.now (graph_network (graphs.network_of c.in_ok-graph.graph)) (made_in c.remake_graph.new.network made)) c.in-Ok-Some.field-0-is c.in-Ok-Some.ensures.made)

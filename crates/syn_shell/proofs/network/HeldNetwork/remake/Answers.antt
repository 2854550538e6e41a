use Rattle.std.proofs.Common.{◌≡◌, ◌≤◌, Option, Some, None, sym, ap, subst}
use Rattle.syn_network.specs.Written as graphs
use Rattle.syn_network.specs.WrittenLuts as luts
use Rattle.syn_network.specs.declared.networks.Network.{Network}
use Rattle.syn_network.specs.declared.lut_networks.LutNetwork.{LutNetwork}
use Rattle.syn_words.specs.declared.recipes.Recipe.{Recipe}
use Rattle.syn_build.specs.BuildFaults.{most_gates}
use Rattle.syn_shell.specs.declared.network.HeldNetwork.{HeldNetwork}
use Rattle.syn_shell.specs.declared.network.HeldNetwork.TheVariants as held
use Rattle.syn_shell.specs.Networks.{IsSmall, graph_network, made_in, mapped_network, network_of}
use Rattle.syn_shell.specs.Makes.{Makes, MakesOfGraph}
use Rattle.syn_shell.specs.Steps.{gates_for}
use Rattle.syn_shell.proofs.Recipes.{few_for, makes_of_graph, no_gates, small_kept}
use Rattle.syn_shell.proofs.network.HeldNetwork.remake.Goals as goal

-- what is made of a graph is made of the network that it is
made_of : (r : Recipe) (self : HeldNetwork) (was now : Network) (made there : Option LutNetwork) → self ≡ held.Graph was → made ≡ there
    → MakesOfGraph r (graph_network (graphs.network_of was)) (made_in now made) → Makes r (network_of self) (made_in now there)
made_of r self was now made there is same h =
    subst (λ (n : HeldNetwork). Makes r (network_of n) (made_in now there)) (sym is) (makes_of_graph r (graphs.network_of was) (made_in now there)
    (subst (λ (m : Option LutNetwork). MakesOfGraph r (graph_network (graphs.network_of was)) (made_in now m)) same h))

-- a graph is made of no gates
few_gates : (r : Recipe) (self : HeldNetwork) (was : Network) → self ≡ held.Graph was → gates_for r (network_of self) ≤ most_gates
few_gates r self was is = few_for r (network_of self) (no_gates (network_of self) (ap (λ (n : HeldNetwork). (network_of n).mapped) is))

pub returns-in-None-clause-made : goal.returns-in-None-clause-made
returns-in-None-clause-made g c =
    made_of c.args.recipe.now c.args.self.now c.in-Graph.network c.remake_graph.new.network _ None c.in-Graph.is c.in-None.is c.in_ok-remake_graph-in-Graph.ensures.made

pub returns-in-None-clause-gates : goal.returns-in-None-clause-gates
returns-in-None-clause-gates g c = few_gates c.args.recipe.now c.args.self.now c.in-Graph.network c.in-Graph.is

pub returns-in-None-clause-small : goal.returns-in-None-clause-small
returns-in-None-clause-small g c =
    small_kept c.args.recipe.now (network_of c.args.self.now) _
    (made_of c.args.recipe.now c.args.self.now c.in-Graph.network c.remake_graph.new.network _ None c.in-Graph.is c.in-None.is c.in_ok-remake_graph-in-Graph.ensures.made)
    (few_gates c.args.recipe.now c.args.self.now c.in-Graph.network c.in-Graph.is) c.requires

pub returns-in-Some-clause-made : goal.returns-in-Some-clause-made
returns-in-Some-clause-made g c =
    made_of c.args.recipe.now c.args.self.now c.in-Graph.network c.remake_graph.new.network _ (Some c.in-Some.luts) c.in-Graph.is c.in-Some.is c.in_ok-remake_graph-in-Graph.ensures.made

pub returns-in-Some-clause-gates : goal.returns-in-Some-clause-gates
returns-in-Some-clause-gates g c = few_gates c.args.recipe.now c.args.self.now c.in-Graph.network c.in-Graph.is

pub returns-in-Some-clause-small : goal.returns-in-Some-clause-small
returns-in-Some-clause-small g c =
    small_kept c.args.recipe.now (network_of c.args.self.now) _
    (made_of c.args.recipe.now c.args.self.now c.in-Graph.network c.remake_graph.new.network _ (Some c.in-Some.luts) c.in-Graph.is c.in-Some.is c.in_ok-remake_graph-in-Graph.ensures.made)
    (few_gates c.args.recipe.now c.args.self.now c.in-Graph.network c.in-Graph.is) c.requires

pub returns-in_ok-self-in-Luts-clause-small : goal.returns-in_ok-self-in-Luts-clause-small
returns-in_ok-self-in-Luts-clause-small g c =
    small_kept c.args.recipe.now (mapped_network (luts.network_of c.in-Luts.net)) (network_of c.in_ok-self-in-Luts.field-0) c.in_ok-self-in-Luts.ensures.made c.in_ok-self-in-Luts.ensures.gates
    (subst (λ (n : HeldNetwork). IsSmall (network_of n)) c.in-Luts.is c.requires)

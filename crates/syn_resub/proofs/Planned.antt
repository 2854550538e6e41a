-- The inner nodes of a form's plan.
use Rattle.std.proofs.Common.{◌≡◌, ℕ, true, List, sym, ◌∙◌, subst}
use Rattle.syn_rows.specs.Nodes.{has_node}
use Rattle.syn_graph.specs.declared.Graph.{Graph}
use Rattle.syn_growing.proofs.InGraphs.{in_order}
use Rattle.syn_resub.specs.declared.divided.Divided.{Divided}
use Rattle.syn_resub.specs.Divided.{AreDivided}
use Rattle.syn_resub.specs.Laws.{AreDivisors}
use Rattle.syn_resub.specs.Needed.{AreInner, is_there}
use Rattle.syn_resub.specs.Resubstitution.{needed_below}
use Rattle.syn_resub.proofs.InGraph.{are_divisors}
use Rattle.syn_resub.proofs.Needing.{needed_are_inner, needed_are_there}

module _ (graph : Graph) (node : ℕ) (d : Divided) (divided : AreDivided graph.rows node d) where
  -- in the words of slices
  pub divisors_of : (leaves nodes : List ℕ) → leaves ≡ d.leaves.items → nodes ≡ d.nodes.items → AreDivisors graph.rows leaves node nodes
  divisors_of leaves nodes same_leaves same_nodes =
      subst (λ l. AreDivisors graph.rows l node nodes) (sym same_leaves) (subst (AreDivisors graph.rows d.leaves.items node) (sym same_nodes) (are_divisors graph node d divided))

  pub inner_of : (leaves roots inner items : List ℕ) → leaves ≡ d.leaves.items → inner ≡ items → items ≡ needed_below graph.rows leaves node roots → ((m : ℕ) → has_node roots m ≡ true → has_node d.nodes.items m ≡ true) → AreInner graph.rows leaves inner
  inner_of leaves roots inner items same_leaves same is listed =
      subst (AreInner graph.rows leaves) (sym (same ∙ is))
      (subst (λ l. AreInner graph.rows l (needed_below graph.rows l node roots)) (sym same_leaves) (needed_are_inner graph.rows d.leaves.items node d.nodes.items (are_divisors graph node d divided) (in_order graph) roots listed))

  pub there_of : (leaves roots inner items : List ℕ) (m : ℕ) → leaves ≡ d.leaves.items → inner ≡ items → items ≡ needed_below graph.rows leaves node roots → ((k : ℕ) → has_node roots k ≡ true → has_node d.nodes.items k ≡ true) → has_node roots m ≡ true
      → is_there leaves inner m ≡ true
  there_of leaves roots inner items m same_leaves same is listed h =
      subst (λ l. is_there leaves l m ≡ true) (sym (same ∙ is))
      (subst (λ l. is_there l (needed_below graph.rows l node roots) m ≡ true) (sym same_leaves) (needed_are_there graph.rows d.leaves.items node d.nodes.items (are_divisors graph node d divided) (in_order graph) roots listed m h))

-- What a form saves in a graph, from what it becomes.
use Rattle.std.specs.List.{AllWithin}
use Rattle.std.proofs.lemmas.Bool.{cases_lt}
use Rattle.std.proofs.lemmas.List.{get_or_default}
use Rattle.std.proofs.Common.{◌≡◌, ℕ, ◌+◌, ◌<◌, get_or, sym, subst, inl, inr, List, length, ap, ap₂, ◌∙◌, arith}
use Rattle.syn_rows.specs.declared.Lit.{Lit}
use Rattle.syn_rows.specs.declared.Row.{Row}
use Rattle.syn_rows.specs.declared.Row.TheVariants.{And}
use Rattle.syn_rows.specs.Rows.{row_at}
use Rattle.syn_rows.proofs.JoinLaws.{NeedRow}
use Rattle.syn_hashed.proofs.Looking.{gate_needs}
use Rattle.syn_fanout_free.specs.Saved.{IsExtra}
use Rattle.syn_graph.specs.declared.Graph.{Graph}
use Rattle.syn_gain.specs.Placing.{root_row}
use Rattle.syn_gain.specs.Replacements.{Replacement, new_root_by, new_rows_by}
use Rattle.syn_hashed.proofs.Orders.{and_inside}
use Rattle.syn_gain.proofs.Owning.{IsBelow, as_extra, graph_order, graph_pairs}
use Rattle.syn_growing.specs.Plans.{over}
use Rattle.syn_growing.proofs.Sorted.{below_from}
use Rattle.syn_resub.specs.declared.divided.Divided.{Divided}
use Rattle.syn_resub.specs.declared.forms.Form.{Form}
use Rattle.syn_resub.specs.Divided.{AreDivided}
use Rattle.syn_resub.specs.Needed.{IsMadeOf}
use Rattle.syn_resub.specs.Placing.{placed_form, placed_root}
use Rattle.syn_resub.specs.Resubstitution.{plan_for}
use Rattle.syn_resub.proofs.InGraph.{are_divisors, is_gate_at}
use Rattle.syn_resub.proofs.Joined.{root_is, rows_are}

module _ (graph : Graph) (node : ℕ) (d : Divided) (divided : AreDivided graph.rows node d) (form : Form) (made : IsMadeOf d.nodes.items form) where
  abbrev pub form_replacement : Replacement
  form_replacement = over node d.leaves.items (plan_for graph.rows d.leaves.items node form)

  needs : (n : ℕ) (a b : Lit) → row_at graph.rows n ≡ And a b → NeedRow a b
  needs n a b is = gate_needs n a b (is_gate_at graph n a b is)

  pub root_becomes : placed_root graph.rows (placed_form graph.rows node form) ≡ new_root_by graph.rows form_replacement
  root_becomes = root_is graph.rows d.leaves.items node (graph_order graph) (graph_pairs graph) needs d.nodes.items (are_divisors graph node d divided) form made

  pub rows_become : (placed_form graph.rows node form).extra ≡ new_rows_by graph.rows form_replacement
  rows_become = rows_are graph.rows d.leaves.items node (graph_order graph) (graph_pairs graph) needs d.nodes.items (are_divisors graph node d divided) form made

  is_below : IsBelow form_replacement
  is_below = record {
    positive = (let inside = and_inside graph.source_count graph.rows graph.graph.hashed node divided.gate in let after = inside.0 in omega (arith, after));
    low = below_from node d.leaves.items (λ n h. (divided.are.within n h).1);
  }

  pub row_is : (slice extra : List Row) (row : Row) (literal : Lit) → slice ≡ graph.rows → extra ≡ (placed_form graph.rows node form).extra → literal ≡ (placed_form graph.rows node form).literal → row ≡ root_row (length slice) extra literal
      → row ≡ new_root_by graph.rows form_replacement
  row_is slice extra row literal same_rows same_extra same_literal is =
      is ∙ ap₂ (λ (rs : List Row) (x : List Row). root_row (length rs) x literal) same_rows same_extra
      ∙ ap (root_row (length graph.rows) (placed_form graph.rows node form).extra) same_literal
      ∙ root_becomes

  pub extra_is : (slice extra : List Row) (row : Row) → slice ≡ graph.rows → row ≡ new_root_by graph.rows form_replacement → extra ≡ new_rows_by graph.rows form_replacement → IsExtra (length slice) row extra
  extra_is = as_extra graph form_replacement is_below divided.gate

-- the forms up to a place save nothing, and the one there doesn't
pub nothing_more : {X : Type 0} (P : X → Type 0) (xs : List X) (i : ℕ) (x : X) → i < length xs → x ≡ get_or xs i x → AllWithin P xs 0 i → P x → AllWithin P xs 0 (i + 1)
nothing_more P xs i x lt at before here = λ k d low high. elim (cases_lt k i) [
  | inl old ↦ before k d low old
  | inr ge ↦ let same : k ≡ i = omega (arith, high, ge) in subst P (at ∙ get_or_default xs i x d lt ∙ ap (λ j. get_or xs j d) (sym same)) here
]

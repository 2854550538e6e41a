-- A proposal that keeps its root's level makes no observed signal deeper.
use Rattle.std.proofs.Common.{◌≡◌, ℕ, ◌<◌, ◌≤◌, true, length, Result, Ok, Err, IfOk, ap, arith, inl, inr}
use Rattle.std.proofs.lemmas.Bool.{cases_lt}
use Rattle.syn_rows.specs.Rows.{node_of, row_at}
use Rattle.syn_rows.specs.Reach.{is_and}
use Rattle.syn_rows.specs.Levels.{HasLevels, level_in, levels_of}
use Rattle.syn_hashed.specs.Growing.{level_by}
use Rattle.syn_hashed.specs.Hashed.{lit_at}
use Rattle.syn_hashed.proofs.Compacted.{has_level_is}
use Rattle.syn_graph.specs.declared.Graph.{Graph}
use Rattle.syn_gain.specs.Replacements.{Replacement, rows_after_by}
use Rattle.syn_gain.proofs.Owning.{IsBelow, graph_order, root_there}
use Rattle.syn_levels.specs.Levels.{IsNoDeeper, keeps_level}
use Rattle.syn_levels.proofs.Staying.{levels_stay}
use Rattle.syn_levels.proofs.Deeper.{past_level}
use Rattle.syn_apply.proofs.Compactable.{can_compact}

pub IfOk-both : {T E : Type 0} {P Q S : T → Type 0} (r : Result T E) → ((x : T) → P x → Q x → S x) → IfOk r P → IfOk r Q → IfOk r S
IfOk-both (Ok x) f p q = f x p q
IfOk-both (Err e) f p q = p

-- compaction makes no signal deeper, nor did the replacement
pub none_deeper : (graph : Graph) (r : Replacement) → IsBelow r → is_and (row_at graph.rows r.root) ≡ true → (new : Graph) → length new.observed ≡ length graph.observed
    → ((level : ℕ → ℕ) → HasLevels (rows_after_by graph.rows r) level → (i : ℕ) → i < length graph.observed → level_by new.rows (lit_at new.observed i) ≤ level (node_of (lit_at graph.observed i)))
    → keeps_level graph.rows r ≡ true → IsNoDeeper graph new
none_deeper graph r below gate new same lower keeps i = elim (cases_lt i (length graph.observed)) [
  | inl lt ↦
      let node : ℕ = node_of (lit_at graph.observed i) in
      let low : level_by new.rows (lit_at new.observed i) ≤ level.0 node = lower level.0 level.1 i lt in
      let stays : level.0 node ≤ level_in (levels_of graph.rows) node =
      levels_stay graph.rows r (graph_order graph) below.positive (root_there graph r.root gate) below.low keeps level.0 level.1 node (graph.graph.within i (record { 0 = 0 }) lt) in
      omega (arith, low, stays)
  | inr past ↦ omega (arith, past_level new i (omega (arith, past, same)))
]
  where
    level : (level : ℕ → ℕ) × HasLevels (rows_after_by graph.rows r) level
    level = has_level_is graph.source_count (rows_after_by graph.rows r) graph.observed (can_compact graph r below gate)

-- One look at each observed literal tells whether a signal is deeper.
use Rattle.std.proofs.Common.{◌≡◌, ℕ, ◌<◌, ◌≤◌, List, length, ap, ap₂, ◌∙◌, arith, inl, inr}
use Rattle.std.proofs.lemmas.Bool.{cases_lt}
use Rattle.std.proofs.lemmas.List.{get_or_past}
use Rattle.syn_rows.specs.declared.Lit.{Lit}
use Rattle.syn_rows.specs.Rows.{node_of}
use Rattle.syn_rows.specs.Levels.{level_in, levels_of}
use Rattle.syn_hashed.specs.Growing.{level_by}
use Rattle.syn_hashed.specs.Hashed.{lit_at}
use Rattle.syn_hashed.proofs.LevelLaws.{source_level}
use Rattle.syn_graph.specs.declared.Graph.{Graph}
use Rattle.syn_levels.specs.Levels.{IsNoDeeper}

-- a place past the last observed literal has the constant's level
pub past_level : (graph : Graph) (i : ℕ) → length graph.observed ≤ i → level_by graph.rows (lit_at graph.observed i) ≡ 0
past_level graph i past =
    ap (level_by graph.rows) (get_or_past graph.observed i (record { 0 = 0 }) past)
    ∙ source_level graph.source_count graph.rows graph.graph.hashed 0 (omega arith)

pub no_deeper : (was now : Graph) (old new : List Lit) (before after : List ℕ) → old ≡ was.observed → before ≡ levels_of was.rows → new ≡ now.observed → after ≡ levels_of now.rows
    → ((i : ℕ) → i < length new → level_in after (node_of (lit_at new i)) ≤ level_in before (node_of (lit_at old i))) → IsNoDeeper was now
no_deeper was now old new before after same_old same_before same_new same_after each i = elim (cases_lt i (length now.observed)) [
  | inl lt ↦
      let level : level_in after (node_of (lit_at new i)) ≡ level_by now.rows (lit_at now.observed i) = ap₂ (λ (ls : List ℕ) (xs : List Lit). level_in ls (node_of (lit_at xs i))) same_after same_new in
      let own : level_in before (node_of (lit_at old i)) ≡ level_by was.rows (lit_at was.observed i) = ap₂ (λ (ls : List ℕ) (xs : List Lit). level_in ls (node_of (lit_at xs i))) same_before same_old in
      omega (arith, level, own, each i (omega (arith, ap length same_new)))
  | inr past ↦ omega (arith, past_level now i past)
]

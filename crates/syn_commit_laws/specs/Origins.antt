-- Where the nodes come from to which a commit's new rows refer.
use Rattle.std.specs.Prelude.{◌≡◌, ◌≢◌, ◌⊎◌, ℕ, ◌+◌, ◌<◌, ◌≤◌, true, List, length}
use Rattle.syn_rows.specs.declared.Lit.{Lit}
use Rattle.syn_rows.specs.declared.Row.TheVariants.{And}
use Rattle.syn_rows.specs.Rows.{node_of, row_at}
use Rattle.syn_rows.specs.Nodes.{has_node}
use Rattle.syn_decide.specs.declared.decisions.NodeRow.{NodeRow}
use Rattle.syn_decide.specs.Tasks.{Task}
use Rattle.syn_decide.specs.Walk.{nodes_of}
use Rattle.syn_decide.specs.Functions.{used_leaves}
use Rattle.syn_decide.specs.Hints.{first_new, out_literal, placed_by_hits}

-- the node is node 0, a used leaf, a hit, or one of so many new gates
abbrev pub IsFrom : Task → List ℕ → ℕ → ℕ → Type 0
IsFrom t hits m n = ((n ≡ 0) ⊎ (has_node (used_leaves t) n ≡ true)) ⊎ ((has_node hits n ≡ true) ⊎ ((first_new ≤ n) × (n < first_new + m)))

-- so is the literal's node, and it isn't node 0
pub record IsFanIn (t : Task) (hits : List ℕ) (m : ℕ) (l : Lit) : Type 0 where
  pub from : IsFrom t hits m (node_of l)
  pub other : node_of l ≢ 0

-- Each new row is the AND of two such literals, of new gates only earlier ones; and the output becomes such a literal.
pub record ReferToOrigins (t : Task) (hits : List NodeRow) : Type 0 where
  pub rows : (i : ℕ) → i < length (placed_by_hits t hits).extra
      → (a : Lit) × (b : Lit) × (row_at (placed_by_hits t hits).extra i ≡ And a b) × IsFanIn t (nodes_of hits) i a × IsFanIn t (nodes_of hits) i b
  pub out : IsFrom t (nodes_of hits) (length (placed_by_hits t hits).extra) (node_of (out_literal t (placed_by_hits t hits)))

abbrev pub NewRowsReferToOrigins : Type 0
NewRowsReferToOrigins = (t : Task) (hits : List NodeRow) → ReferToOrigins t hits

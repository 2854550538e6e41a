-- Graphs: node 0 is the constant 0, then come the sources, then ANDs of smaller nodes (an and-inverter graph). Nothing in them has a name.
use Rattle.std.specs.Prelude.{◌≡◌, ℕ, ◌+◌, ◌<◌, All, List, length}
use Rattle.syn_rows.specs.declared.Lit.{Lit}
use Rattle.syn_rows.specs.declared.Row.{Row}
use Rattle.syn_rows.specs.Rows.{node_of}
use Rattle.syn_rows.specs.Reach.{Reached}
use Rattle.syn_hashed.specs.Hashed.{IsHashed, lit_at}

-- Rows and observed literals are a graph over so many sources: hashed rows, literals of nodes that are there, and every AND is reached.
pub record IsGraph (count : ℕ) (rows : List Row) (lits : List Lit) : Type 0 where
  pub hashed : IsHashed count rows
  pub within : All (λ l. node_of l < length rows) lits
  pub reached : (n : ℕ) → count < n → n < length rows → Reached rows lits n

-- a literal of node 0 or of a source stays
abbrev pub SourcesStay : ℕ → List Lit → List Lit → Type 0
SourcesStay count lits new_lits = (i : ℕ) (l : Lit) → i < length lits → node_of l < count + 1 → lit_at lits i ≡ l → lit_at new_lits i ≡ l

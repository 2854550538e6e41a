-- Whether a plan in place of a root's row keeps the root's level, and whether a graph is no deeper than another.
use Rattle.std.specs.Prelude.{◌≡◌, ℕ, ◌≤◌, nat_le, Bool, true, All, List, ◌++◌}
use Rattle.std.specs.List.{filter}
use Rattle.syn_rows.specs.declared.Row.{Row}
use Rattle.syn_rows.specs.Levels.{level_in, levels_of, row_level}
use Rattle.syn_hashed.specs.Growing.{level_by}
use Rattle.syn_hashed.specs.Hashed.{lit_at}
use Rattle.syn_graph.specs.declared.Graph.{Graph}
use Rattle.syn_gain.specs.Replacements.{Replacement, new_root_by, new_rows_by}

-- the levels over the rows and the new ones of a replacement behind them
abbrev pub level_with : List Row → Replacement → ℕ → ℕ
level_with rows r = level_in (levels_of (rows ++ new_rows_by rows r))

-- A replacement keeps its root's level: the root's new row gives it, over the rows and the new ones, at most the level that it has.
abbrev pub keeps_level : List Row → Replacement → Bool
keeps_level rows r = nat_le (row_level (level_with rows r) r.root (new_root_by rows r)) (level_in (levels_of rows) r.root)

-- those of the proposals for a node that keep its level, in order
abbrev pub keeping : (List Row → ℕ → List Replacement) → List Row → ℕ → List Replacement
keeping proposals rows node = filter (keeps_level rows) (proposals rows node)

-- each proposal keeps its root's level
abbrev pub AllKeep : (List Row → ℕ → List Replacement) → Type 0
AllKeep proposals = (rows : List Row) (node : ℕ) → All (λ r. keeps_level rows r ≡ true) (proposals rows node)

-- No observed signal is deeper: none of the literals has a higher level than the one in its place before.
abbrev pub IsNoDeeper : Graph → Graph → Type 0
IsNoDeeper was now = (i : ℕ) → level_by now.rows (lit_at now.observed i) ≤ level_by was.rows (lit_at was.observed i)

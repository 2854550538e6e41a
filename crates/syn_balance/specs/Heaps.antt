-- Leaves in a heap, each with its level, the least in front.
use Rattle.std.specs.Prelude.{◌≡◌, ℕ, ◌<◌, All, List, length}
use Rattle.std.specs.declared.cmp.Reverse.{Reverse}
use Rattle.std.specs.declared.cmp.Ordering.{Ordering}
use Rattle.std.specs.Ordering.{nat_cmp, ordering_then}
use Rattle.syn_rows.specs.declared.Lit.{Lit}
use Rattle.syn_rows.specs.declared.Row.{Row}
use Rattle.syn_rows.specs.Rows.{node_of}
use Rattle.syn_rows.specs.Levels.{level_in}
use Rattle.syn_hashed.specs.Growing.{level_by}

-- a literal with its level, by a list of levels
abbrev pub leaf : List ℕ → Lit → Reverse (ℕ × Lit)
leaf levels l = record { 0 = (level_in levels (node_of l), l) }

abbrev pub literal_in : Reverse (ℕ × Lit) → Lit
literal_in entry = entry.0.1

abbrev pub level_of : Reverse (ℕ × Lit) → ℕ
level_of entry = entry.0.0

-- each leaf is there, and has its level
abbrev pub AreLeaves : List Row → List (Reverse (ℕ × Lit)) → Type 0
AreLeaves rows entries = All (λ e. (node_of (literal_in e) < length rows) × (level_of e ≡ level_by rows (literal_in e))) entries

-- leaves by level, then by number; the reversed order, in which the least is the greatest
abbrev pub leaf_order : Reverse (ℕ × Lit) → Reverse (ℕ × Lit) → Ordering
leaf_order x y = ordering_then (nat_cmp y.0.0 x.0.0) (nat_cmp y.0.1.0 x.0.1.0)

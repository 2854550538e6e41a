-- A graph made again over rows that grow: which literals stand for the old nodes.
use Rattle.std.specs.Prelude.{◌≡◌, ℕ, ◌+◌, ◌%◌, ◌<◌, ◌==◌, if◌then◌else◌, Bool, false, List, length, slice_index_or}
use Rattle.syn_rows.specs.declared.Lit.{Lit}
use Rattle.syn_rows.specs.declared.Row.{Row}
use Rattle.syn_rows.specs.Rows.{node_of}
use Rattle.syn_rows.specs.Joining.{complement, constant, lit_of}
use Rattle.syn_rows.specs.Values.{value_in, values_of}
use Rattle.syn_hashed.specs.Growing.{value_by}

-- the literal that stands for an old one, where the nodes' are these
abbrev pub moved : List Lit → Lit → Lit
moved literals l =
    if l.0 % 2 == 0
    then slice_index_or literals (node_of l) constant
    else complement (slice_index_or literals (node_of l) constant)

-- A literal of new rows stands for an old node: it is there, and has the node's value, whatever the sources have.
pub record Stands (rows new : List Row) (n : ℕ) (l : Lit) : Type 0 where
  pub there : node_of l < length new
  pub value : (given : ℕ → Bool) → given 0 ≡ false → value_by given new l ≡ value_in (values_of given rows) n

-- the first nodes have literals that stand for them
abbrev pub AllStand : List Row → List Row → List Lit → Type 0
AllStand rows new literals = (n : ℕ) → n < length literals → Stands rows new n (slice_index_or literals n constant)

-- node 0 and the sources stand for themselves
abbrev pub SourcesStay : ℕ → List Lit → Type 0
SourcesStay count literals = (n : ℕ) → n < count + 1 → n < length literals → slice_index_or literals n constant ≡ lit_of n

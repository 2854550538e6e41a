-- The nodes that keep a node of their own: all others are joined into the one AND that refers to them.
use Rattle.std.specs.Prelude.{◌≡◌, ℕ, ◌+◌, ◌*◌, ◌<◌, ◌≤◌, ◌%◌, ◌⊎◌, suc, Bool, true, false, All, List, set, slice_index_or, length}
use Rattle.syn_rows.specs.declared.Lit.{Lit}
use Rattle.syn_rows.specs.declared.Row.{Row}
use Rattle.syn_rows.specs.declared.Row.TheVariants.{Free, Source, And, Alias}
use Rattle.syn_rows.specs.Rows.{node_of, row_at}
use Rattle.syn_rows.specs.References.{hits, refs, sum_below}
use Rattle.syn_hashed.specs.Hashed.{lit_at}

-- the mark of a node; none past the end
abbrev pub mark_at : List Bool → ℕ → Bool
mark_at marks n = slice_index_or marks n false

-- how often the rows below n refer to the node m
abbrev pub refs_before : ℕ → List Row → ℕ → ℕ
refs_before n rows m = sum_below n (λ k. refs m (row_at rows k))

-- complemented literals of the rows below n name only marked nodes
abbrev pub ComplementsMarked : ℕ → List Row → List Bool → Type 0
ComplementsMarked n rows marks = (k : ℕ) (a b : Lit) → suc k ≤ n → row_at rows k ≡ And a b → (a.0 % 2 ≡ 1 → mark_at marks (node_of a) ≡ true) × (b.0 % 2 ≡ 1 → mark_at marks (node_of b) ≡ true)

-- how often a row names the node m by a complemented literal, whose number is 2 m + 1
abbrev pub complements : ℕ → Row → ℕ
complements m Free = 0
complements m Source = 0
complements m (And a b) = hits (2 * m + 1) a.0 + hits (2 * m + 1) b.0
complements m (Alias a) = hits (2 * m + 1) a.0

-- how often the rows below n do
abbrev pub complements_before : ℕ → List Row → ℕ → ℕ
complements_before n rows m = sum_below n (λ k. complements m (row_at rows k))

-- the rows below n name the node by two literals, or by a complemented one
abbrev pub IsCause : ℕ → List Row → ℕ → Type 0
IsCause n rows m = (2 ≤ refs_before n rows m) ⊎ (0 < complements_before n rows m)

-- some of the literals is one of the node
abbrev pub IsObserved : List Lit → ℕ → Type 0
IsObserved lits m = (i : ℕ) × (i < length lits) × (node_of (lit_at lits i) ≡ m)

-- Marked are the nodes that are observed, are referred to twice or more, or are named by a complemented literal of a row, and no others.
pub record HasRoots (rows : List Row) (lits : List Lit) (marks : List Bool) : Type 0 where
  pub all : length marks ≡ length rows
  pub observed : All (λ l. mark_at marks (node_of l) ≡ true) lits
  pub shared : (m : ℕ) → mark_at marks m ≡ false → refs_before (length rows) rows m ≤ 1
  pub complemented : ComplementsMarked (length rows) rows marks
  pub only : (m : ℕ) → mark_at marks m ≡ true → IsObserved lits m ⊎ IsCause (length rows) rows m

-- marks while rows are read, with counts of the references to each node and of those by complements: a node was seen where it has some; one that isn't marked has one at most, and a marked one has two or one by a complement
pub record IsCounted (count : ℕ) (times_read times_complemented : ℕ → ℕ) (seen marks : List Bool) : Type 0 where
  pub all_seen : length seen ≡ count
  pub all_marked : length marks ≡ count
  pub unseen : (m : ℕ) → mark_at seen m ≡ false → times_read m ≡ 0
  pub was_seen : (m : ℕ) → mark_at seen m ≡ true → 0 < times_read m
  pub once : (m : ℕ) → mark_at marks m ≡ false → times_read m ≤ 1
  pub marked : (m : ℕ) → mark_at marks m ≡ true → (2 ≤ times_read m) ⊎ (0 < times_complemented m)

-- A fan-in is read: its node is seen; it is marked where it was seen before or is named by a complement.
pub record IsRead (lit : Lit) (seen marks new_seen new_marks : List Bool) : Type 0 where
  pub now_seen : new_seen ≡ set seen (node_of lit) true
  pub size : length new_marks ≡ length marks
  pub kept : (m : ℕ) → mark_at marks m ≡ true → mark_at new_marks m ≡ true
  pub again : mark_at seen (node_of lit) ≡ true → mark_at new_marks (node_of lit) ≡ true
  pub complemented : lit.0 % 2 ≡ 1 → mark_at new_marks (node_of lit) ≡ true
  pub only : (m : ℕ) → mark_at new_marks m ≡ true → (mark_at marks m ≡ true) ⊎ ((m ≡ node_of lit) × ((mark_at seen (node_of lit) ≡ true) ⊎ (lit.0 % 2 ≡ 1)))

-- the complemented literals of a row name marked nodes
abbrev pub ComplementsOf : Row → List Bool → Type 0
ComplementsOf Free marks = Unit {0}
ComplementsOf Source marks = Unit {0}
ComplementsOf (And a b) marks = (a.0 % 2 ≡ 1 → mark_at marks (node_of a) ≡ true) × (b.0 % 2 ≡ 1 → mark_at marks (node_of b) ≡ true)
ComplementsOf (Alias a) marks = Unit {0}

-- The rows below n are read.
pub record AreRead (rows : List Row) (n : ℕ) (seen marks : List Bool) : Type 0 where
  pub counted : IsCounted (length rows) (refs_before n rows) (complements_before n rows) seen marks
  pub complemented : ComplementsMarked n rows marks

-- What goes where the row of one node is replaced: which new rows are kept, which old rows are freed.
use Rattle.std.specs.Prelude.{◌≡◌, ◌≢◌, ℕ, zero, suc, ◌+◌, ◌≤◌, ◌==◌, ◌||◌, ◌&&◌, nat_lt, not, if◌then◌else◌, Bool, true, false, All, List, length}
use Rattle.syn_rows.specs.declared.Lit.{Lit}
use Rattle.syn_rows.specs.declared.Row.{Row}
use Rattle.syn_rows.specs.declared.Row.TheVariants.{Free, Source, And, Alias}
use Rattle.syn_rows.specs.Rows.{node_of, row_at, AllRefs, Rises, is_derived}
use Rattle.syn_rows.specs.Reach.{is_and, Reached}
use Rattle.syn_rows.specs.References.{refs, refs_by_literals, sum_below}

-- no node is there
abbrev pub is_free : Row → Bool
is_free Free = true
is_free Source = false
is_free (And a b) = false
is_free (Alias a) = false

-- the row refers to the node m
abbrev pub refers : Row → ℕ → Bool
refers row m = nat_lt 0 (refs m row)

-- Each row other than n's that was not free stays. (A node past the end of a list has a free row.)
abbrev pub Keeps : List Row → List Row → ℕ → Type 0
Keeps was now n = (m : ℕ) → m ≢ n → is_free (row_at was m) ≡ false → row_at now m ≡ row_at was m

-- The new rows: that of n, and those where a free row was.
abbrev pub is_new : List Row → ℕ → ℕ → Bool
is_new was n m = (m == n) || is_free (row_at was m)

-- a set that has, with a new row, the new rows to which it refers
abbrev pub IsClosedOnNew : List Row → List Row → ℕ → (ℕ → Bool) → Type 0
IsClosedOnNew was now n set = (p : ℕ) → is_new was n p ≡ true → set p ≡ true → AllRefs (λ m. is_new was n m ≡ true → set m ≡ true) (row_at now p)

-- The new rows that are kept: the least such set that has n.
pub record IsKept (was now : List Row) (n : ℕ) (kept : ℕ → Bool) : Type 0 where
  pub root : kept n ≡ true
  pub closed : IsClosedOnNew was now n kept
  pub least : (set : ℕ → Bool) → set n ≡ true → IsClosedOnNew was now n set → (m : ℕ) → is_new was n m ≡ true → kept m ≡ true → set m ≡ true

-- some number below k is in the set
abbrev pub any_below : ℕ → (ℕ → Bool) → Bool
any_below zero set = false
any_below (suc k) set = set k || any_below k set

-- some kept new row refers to m
abbrev pub uses : List Row → List Row → ℕ → (ℕ → Bool) → ℕ → Bool
uses was now n kept m = any_below (length now) (λ p. (is_new was n p && kept p) && refers (row_at now p) m)

-- The nodes that may be freed: ANDs and aliases other than n to which no kept new row refers.
abbrev pub unused : List Row → List Row → ℕ → (ℕ → Bool) → ℕ → Bool
unused was now n kept m = is_derived (row_at was m) && (not (m == n) && not (uses was now n kept m))

-- A set that has each node that may be freed, that no observed literal names, and to which only n and nodes of the set referred.
abbrev pub Frees : List Row → List Lit → ℕ → (ℕ → Bool) → (ℕ → Bool) → Type 0
Frees was observed n may set =
    (m : ℕ) → may m ≡ true → refs_by_literals m observed ≡ 0
    → ((p : ℕ) → p ≢ n → refers (row_at was p) m ≡ true → set p ≡ true)
    → set m ≡ true

-- The freed rows: the least such set.
pub record IsFreed (was : List Row) (observed : List Lit) (n : ℕ) (may freed : ℕ → Bool) : Type 0 where
  pub frees : Frees was observed n may freed
  pub least : (set : ℕ → Bool) → Frees was observed n may set → (m : ℕ) → freed m ≡ true → set m ≡ true

-- the references to m by the rows of a set
abbrev pub refs_from : List Row → (ℕ → Bool) → ℕ → ℕ
refs_from rows set m = sum_below (length rows) (λ p. if set p then refs m (row_at rows p) else 0)

-- The same rule by counts: the set has each node that may be freed whose count is at most the references to it by the old row of n and by nodes of the set.
abbrev pub FreesByCount : List Row → (ℕ → ℕ) → ℕ → (ℕ → Bool) → (ℕ → Bool) → Type 0
FreesByCount was counts n may set =
    (m : ℕ) → may m ≡ true
    → counts m ≤ refs m (row_at was n) + refs_from was (λ p. set p && not (p == n)) m
    → set m ≡ true

pub record IsFreedByCount (was : List Row) (counts : ℕ → ℕ) (n : ℕ) (may freed : ℕ → Bool) : Type 0 where
  pub frees : FreesByCount was counts n may freed
  pub least : (set : ℕ → Bool) → FreesByCount was counts n may set → (m : ℕ) → freed m ≡ true → set m ≡ true

-- how many numbers below k are in the set
abbrev pub count_below : ℕ → (ℕ → Bool) → ℕ
count_below k set = sum_below k (λ m. if set m then 1 else 0)

-- the new ANDs that are kept
abbrev pub added : List Row → List Row → ℕ → (ℕ → Bool) → ℕ
added was now n kept = count_below (length now) (λ m. is_and (row_at now m) && (is_new was n m && kept m))

-- the old ANDs that go: that of n, and the freed ones
abbrev pub lost : List Row → ℕ → (ℕ → Bool) → ℕ
lost was n freed = count_below (length was) (λ m. is_and (row_at was m) && ((m == n) || freed m))

-- rows and observed literals refer to nodes that are there
pub record RefersInside (rows : List Row) (observed : List Lit) : Type 0 where
  pub rows_in : (n : ℕ) → AllRefs (λ m. is_free (row_at rows m) ≡ false) (row_at rows n)
  pub observed_in : All (λ l. is_free (row_at rows (node_of l)) ≡ false) observed

-- A replacement of the row of n, a node that was reached, in rows along whose references a rank rises.
pub record IsReplacement (was now : List Row) (observed : List Lit) (n : ℕ) (rank : ℕ → ℕ) : Type 0 where
  pub keeps : Keeps was now n
  pub longer : length was ≤ length now
  pub reached : Reached was observed n
  pub inside : RefersInside was observed
  pub rises : Rises was rank

-- Found where it takes place: the kept new rows, and the old rows that they free.
pub record IsLocal (was now : List Row) (observed : List Lit) (n : ℕ) (kept freed : ℕ → Bool) : Type 0 where
  pub keeping : IsKept was now n kept
  pub freeing : IsFreed was observed n (unused was now n kept) freed

-- the set has neither n nor a node to which a new row of the other set refers
abbrev pub SparesUsed : List Row → List Row → ℕ → (ℕ → Bool) → (ℕ → Bool) → Type 0
SparesUsed was now n after may =
    (m : ℕ) → may m ≡ true → (m ≢ n) × ((p : ℕ) → is_new was n p ≡ true → after p ≡ true → refers (row_at now p) m ≡ false)

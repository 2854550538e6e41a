-- Labels along references, and paths that meet the leaves of a cut.
use Rattle.std.proofs.Common.{◌≡◌, ℕ, zero, suc, ◌⊎◌, ◌<◌, ◌≤◌, true, false, List, [], ◌∷◌, refl, ap, inl, inr, arith}
use Rattle.std.specs.List.{list_any}
use Rattle.std.proofs.lemmas.Bool.{both_ways, or_cases, or_left, or_right}
use Rattle.syn_rows.specs.declared.Row.{Row}
use Rattle.syn_rows.specs.declared.Row.TheVariants.{Free, Source, And, Alias}
use Rattle.syn_rows.specs.Nodes.{has_node}
use Rattle.syn_rows.specs.Rows.{AllRefs, InOrder, node_of, refs_of, row_at}
use Rattle.syn_rows.specs.Reach.{is_and}
use Rattle.syn_cones.specs.Cones.{IsCut, LeadsTo, LeadsToSource, Refers}
use Rattle.syn_lutnet.specs.LutData.{greatest}
use Rattle.syn_rows.proofs.Nodes.{has_here, has_there, here_or_there, has_one}
use Rattle.syn_cones.proofs.Walking.{refers_row}
use Rattle.syn_paths.specs.Tops.{FallsBelow}
use Rattle.syn_paths.specs.Paths.{IsPathInto, LeadsUp}

-- the greatest on a list

pub greatest_over : (f : ℕ → ℕ) (xs : List ℕ) (n : ℕ) → has_node xs n ≡ true → f n ≤ greatest f xs
greatest_over f [] n h = absurd (both_ways false refl h)
greatest_over f (x ∷ xs) n h = elim (here_or_there x n xs h) [
  | inl e ↦ let same : f n ≡ f x = ap f e in omega (arith, same)
  | inr t ↦ omega (arith, greatest_over f xs n t)
]

pub cases_le : (a b : ℕ) → (a ≤ b) ⊎ (b < a)
cases_le zero b = inl (omega arith)
cases_le (suc a) zero = inr (omega arith)
cases_le (suc a) (suc b) = elim (cases_le a b) [ inl le ↦ inl (omega (arith, le)) | inr gt ↦ inr (omega (arith, gt)) ]

pub greatest_is : (f : ℕ → ℕ) (xs : List ℕ) (m : ℕ) → greatest f xs ≡ suc m → (x : ℕ) × (has_node xs x ≡ true) × (f x ≡ suc m)
greatest_is f [] m h = absurd (omega (arith, h))
greatest_is f (x ∷ xs) m h = elim (cases_le (f x) (greatest f xs)) [
  | inl le ↦ let rest = greatest_is f xs m (omega (arith, h, le)) in (rest.0, has_there x rest.0 xs rest.1, rest.2)
  | inr gt ↦ (x, has_here x xs, omega (arith, h, gt))
]

-- what a node refers to

ref_below : (n m : ℕ) (row : Row) → AllRefs (λ x. x < n) row → has_node (refs_of row) m ≡ true → m < n
ref_below n m Free below h = absurd (both_ways false refl h)
ref_below n m Source below h = absurd (both_ways false refl h)
ref_below n m (And a b) below h = elim (here_or_there (node_of a) m (node_of b ∷ []) h) [
  | inl e ↦ omega (arith, e, below.0)
  | inr t ↦ omega (arith, has_one (node_of b) m t, below.1)
]
ref_below n m (Alias a) below h = omega (arith, has_one (node_of a) m h, below)

pub refers_below : (rows : List Row) (n m : ℕ) → InOrder rows → Refers rows n m → m < n
refers_below rows n m order r = ref_below n m (row_at rows n) (order n) (refers_row rows n m r)

-- an AND is no constant, since it refers to smaller nodes
pub and_refs : (rows : List Row) (n m : ℕ) → InOrder rows → is_and (row_at rows n) ≡ true → has_node (refs_of (row_at rows n)) m ≡ true → Refers rows n m
and_refs rows zero m order gate h = absurd (omega (arith, ref_below zero m (row_at rows zero) (order zero) h))
and_refs rows (suc n) m order gate h = h

-- the label at the end of a way down is no greater than at its beginning
pub way_falls : (rows : List Row) (label : ℕ → ℕ) → ((n m : ℕ) → Refers rows n m → label m ≤ label n) → (n : ℕ) (path : List ℕ) (m : ℕ) → LeadsTo rows [] n path m → label m ≤ label n
way_falls rows label rises n [] m e = let same : label n ≡ label m = ap label e in omega (arith, same)
way_falls rows label rises n (next ∷ path) m way = omega (arith, rises n next way.1, way_falls rows label rises next path m way.2)

-- a path up that ends below the set meets a leaf, where each way down from the set meets one behind its first node
up_meets : (rows : List Row) (leaves : List ℕ) (InSet : ℕ → Type 0) → ((t : ℕ) (rest : List ℕ) → InSet t → LeadsToSource rows t rest → list_any (has_node leaves) rest ≡ true)
    → (n : ℕ) (below : List ℕ) → LeadsToSource rows n below → (path : List ℕ) → LeadsUp rows InSet n path
    → (list_any (has_node leaves) below ≡ true) ⊎ (list_any (has_node leaves) (n ∷ path) ≡ true)
up_meets rows leaves InSet meets n below down [] up =
    elim (or_cases (has_node leaves n) (list_any (has_node leaves) below) (meets up.0 (n ∷ below) up.1 (up.2, down))) [
      | inl here ↦ inr (or_left (has_node leaves n) false here)
      | inr there ↦ inl there
    ]
up_meets rows leaves InSet meets n below down (m ∷ path) up = elim (up_meets rows leaves InSet meets m (n ∷ below) (up.0, down) path up.1) [
  | inl met ↦ elim (or_cases (has_node leaves n) (list_any (has_node leaves) below) met) [
    | inl here ↦ inr (or_left (has_node leaves n) (list_any (has_node leaves) (m ∷ path)) here)
    | inr there ↦ inl there
  ]
  | inr met ↦ inr (or_right (has_node leaves n) (list_any (has_node leaves) (m ∷ path)) met)
]

pub path_meets : (rows : List Row) (leaves : List ℕ) (InSet : ℕ → Type 0) → ((t : ℕ) (rest : List ℕ) → InSet t → LeadsToSource rows t rest → list_any (has_node leaves) rest ≡ true)
    → (path : List ℕ) → IsPathInto rows InSet path → list_any (has_node leaves) path ≡ true
path_meets rows leaves InSet meets [] h = absurd h
path_meets rows leaves InSet meets (n ∷ path) h = elim (up_meets rows leaves InSet meets n [] h.0 path h.1) [
  | inl none ↦ absurd (both_ways false refl none)
  | inr met ↦ met
]

-- a cut that hasn't the node is a cut of its fan-ins
pub cut_below : (rows : List Row) (leaves : List ℕ) (n a : ℕ) → has_node leaves n ≡ false → Refers rows n a → IsCut rows leaves n → IsCut rows leaves a
cut_below rows leaves n a away r cut path down = elim (or_cases (has_node leaves n) (list_any (has_node leaves) (a ∷ path)) (cut (a ∷ path) (r, down))) [
  | inl here ↦ absurd (both_ways (has_node leaves n) away here)
  | inr there ↦ there
]

-- the label at the end of a way down is no greater than at its beginning, before the root
pub way_low : (rows : List Row) (label : ℕ → ℕ) (root : ℕ) → InOrder rows → FallsBelow rows label root → (n : ℕ) (path : List ℕ) (m : ℕ) → n < root → LeadsTo rows [] n path m → label m ≤ label n
way_low rows label root order falls n [] m lt e = let same : label n ≡ label m = ap label e in omega (arith, same)
way_low rows label root order falls n (next ∷ path) m lt way =
    omega (arith, falls n next lt way.1, way_low rows label root order falls next path m (omega (arith, lt, refers_below rows n next order way.1)) way.2)

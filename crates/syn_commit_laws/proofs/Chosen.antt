-- The root's value by the inner rows is its value by known rows, with the leaves that were met chosen.
use Rattle.std.proofs.Common.{◌≡◌, ℕ, zero, suc, ◌<◌, ◌+◌, ◌==◌, ◌&&◌, not, Bool, true, false, if◌then◌else◌, List, [], ◌∷◌, ◌++◌, length, map, get_or, Option, Some, None, refl, sym, ap, ap₂, ◌∙◌, subst, arith, cond}
use Rattle.std.specs.Prelude.{find}
use Rattle.std.specs.List.{AllByRecursion}
use Rattle.std.proofs.lemmas.Bool.{false≢true, or_left, or_right}
use Rattle.std.proofs.lemmas.Option.{none-some}
use Rattle.syn_rows.specs.declared.Row.{Row}
use Rattle.syn_rows.specs.declared.Row.TheVariants as row
use Rattle.syn_rows.specs.Rows.{AllRefs, node_of, refs_of}
use Rattle.syn_rows.specs.Nodes.{has_node}
use Rattle.syn_rows.proofs.Folds.{AllRefs-weaker}
use Rattle.syn_rows.proofs.Nodes.{has_here, has_there, same_node}
use Rattle.syn_core_laws.specs.SameValue.{HasValue, known_value, value_by, value_of_row}
use Rattle.syn_decide.specs.declared.decisions.NodeRow.{NodeRow}
use Rattle.syn_decide.specs.Tasks.{Task}
use Rattle.syn_decide.specs.Walk.{is_met, row_among}
use Rattle.syn_decide.specs.Functions.{has_none, is_true, leaf_value, used_from, uses}
use Rattle.syn_decide.proofs.Steps.{row_moves}
use Rattle.syn_commit_laws.proofs.Valued.{has_filtered, leaf_chosen}
use Rattle.syn_commit_laws.specs.Redefining.{met_leaves}

-- a node of the list is one of its test's
all_refs_in : (f : ℕ → Bool) (r : Row) → ((m : ℕ) → has_node (refs_of r) m ≡ true → f m ≡ true) → AllRefs (λ m. f m ≡ true) r
all_refs_in f row.Free h = tt
all_refs_in f row.Source h = tt
all_refs_in f (row.And a b) h = (h (node_of a) (has_here (node_of a) (node_of b ∷ [])), h (node_of b) (has_there (node_of a) (node_of b) (node_of b ∷ []) (has_here (node_of b) [])))
all_refs_in f (row.Alias a) h = h (node_of a) (has_here (node_of a) [])

-- the nodes to which an inner row refers are met
pub refs_met : (all rows : List NodeRow) (n : ℕ) (r : Row) → ((m : ℕ) → is_met rows m ≡ true → is_met all m ≡ true) → row_among rows n ≡ Some r → AllRefs (λ m. is_met all m ≡ true) r
refs_met all [] n r f e = absurd (none-some r e)
refs_met all (q ∷ rows) n r f e = go (q.node == n) (λ k. refs_met all rows n r (λ m h. f m (or_right (has_node (refs_of q.row) m) (is_met rows m) h)) k) e
  where
    some_row : (a b : Row) → Some a ≡ Some b → a ≡ b
    some_row a b e = cc

    go : (b : Bool) → (row_among rows n ≡ Some r → AllRefs (λ m. is_met all m ≡ true) r) → (if b then Some q.row else row_among rows n) ≡ Some r → AllRefs (λ m. is_met all m ≡ true) r
    go true next e = subst (AllRefs (λ m. is_met all m ≡ true)) (some_row q.row r e) (all_refs_in (is_met all) q.row (λ m h. f m (or_left (has_node (refs_of q.row) m) (is_met rows m) h)))
    go false next e = next e

-- the row of an inner node is known
pub known_among : (known : ℕ → Option Row) (rows : List NodeRow) (n : ℕ) (r : Row) → AllByRecursion (λ r. known r.node ≡ Some r.row) rows → row_among rows n ≡ Some r → known n ≡ Some r
known_among known [] n r h e = absurd (none-some r e)
known_among known (q ∷ rows) n r h e = go (q.node == n) refl (known_among known rows n r h.1) e
  where
    go : (b : Bool) → (q.node == n) ≡ b → (row_among rows n ≡ Some r → known n ≡ Some r) → (if b then Some q.row else row_among rows n) ≡ Some r → known n ≡ Some r
    go true s next e = ap known (sym (same_node q.node n s)) ∙ h.0 ∙ e
    go false s next e = next e

open_moves : (p o q x y : Bool) (v w : Option Bool) (b : Bool) → (p ≡ true → (o ≡ true) × (x ≡ y)) → (p ≡ false → o ≡ false) → (v ≡ Some b → w ≡ Some b)
    → (if p then Some x else (if q then Some false else v)) ≡ Some b → (if o then Some y else (if q then Some false else w)) ≡ Some b
open_moves true o q x y v w b f g k h = let at = f refl in ap (λ c. if c then Some y else (if q then Some false else w)) at.0 ∙ (ap (λ c. Some c) (sym at.1) ∙ h)
open_moves false o true x y v w b f g k h = ap (λ c. if c then Some y else Some false) (g refl) ∙ h
open_moves false o false x y v w b f g k h = ap (λ c. if c then Some y else w) (g refl) ∙ k h

module _ (t : Task) (inner : List NodeRow) (known : ℕ → Option Row) (choice : ℕ → Bool) (ys : List Bool) (are_known : AllByRecursion (λ r. known r.node ≡ Some r.row) inner) where
  pub over_has : (n : ℕ) → has_node (met_leaves t inner) n ≡ (has_node t.proposal.leaves n && is_met inner n)
  over_has n = has_filtered (is_met inner) t.proposal.leaves n

  -- no leaf, and so none that was met
  pub over_lacks : (n : ℕ) → has_node t.proposal.leaves n ≡ false → has_node (met_leaves t inner) n ≡ false
  over_lacks n h = over_has n ∙ ap (λ b. b && is_met inner n) h

  pub over_meets : (n : ℕ) → has_node t.proposal.leaves n ≡ true → is_met inner n ≡ true → has_node (met_leaves t inner) n ≡ true
  over_meets n h k = over_has n ∙ ap₂ (λ b c. b && c) h k

  -- the value of a node by inner rows, and by known rows
  abbrev By : ℕ → ℕ → Option Bool
  By k n = value_by (row_among inner) t.proposal.leaves (leaf_value t.proposal.leaves (map choice t.proposal.leaves ++ ys)) k n

  abbrev Here : ℕ → ℕ → Option Bool
  Here k n = value_by known (met_leaves t inner) choice k n

  row_there : (k : ℕ) (r : Row) (b : Bool) → AllRefs (λ m. is_met inner m ≡ true) r
      → ((i : ℕ) (c : Bool) → (has_node t.proposal.leaves i ≡ true → is_met inner i ≡ true) → By k i ≡ Some c → Here k i ≡ Some c)
      → value_of_row (By k) r ≡ Some b → value_of_row (Here k) r ≡ Some b
  row_there k r b met ih h =
      row_moves (By k) (Here k) r b (AllRefs-weaker (λ m. is_met inner m ≡ true) (λ m. (c : Bool) → By k m ≡ Some c → Here k m ≡ Some c) (λ m e c. ih m c (λ _. e)) r met) h

  moves : (k n : ℕ) (b : Bool) → (has_node t.proposal.leaves n ≡ true → is_met inner n ≡ true) → By k n ≡ Some b → Here k n ≡ Some b
  moves zero n b m h =
      open_moves (has_node t.proposal.leaves n) (has_node (met_leaves t inner) n) (n == 0) (leaf_value t.proposal.leaves (map choice t.proposal.leaves ++ ys) n) (choice n) None None b
      (λ e. (over_meets n e (m e), leaf_chosen choice t.proposal.leaves ys n e)) (over_lacks n) (λ e. e) h
  moves (suc k) n b m h =
      open_moves (has_node t.proposal.leaves n) (has_node (met_leaves t inner) n) (n == 0) (leaf_value t.proposal.leaves (map choice t.proposal.leaves ++ ys) n) (choice n)
      (known_value (By k) (row_among inner n)) (known_value (Here k) (known n)) b
      (λ e. (over_meets n e (m e), leaf_chosen choice t.proposal.leaves ys n e)) (over_lacks n) (go (row_among inner n) refl (moves k)) h
    where
      go : (o : Option Row) → row_among inner n ≡ o → ((i : ℕ) (c : Bool) → (has_node t.proposal.leaves i ≡ true → is_met inner i ≡ true) → By k i ≡ Some c → Here k i ≡ Some c)
          → known_value (By k) o ≡ Some b → known_value (Here k) (known n) ≡ Some b
      go None e ih h = absurd (none-some b h)
      go (Some r) e ih h = ap (known_value (Here k)) (known_among known inner n r are_known e) ∙ row_there k r b (refs_met inner inner n r (λ m f. f) e) ih h

  -- the value of the root, which is neither node 0 nor a leaf, is that of its row
  pub root_moves : (k root : ℕ) (old : Row) (b : Bool) → has_node t.proposal.leaves root ≡ false → (root == 0) ≡ false → row_among inner root ≡ Some old → By k root ≡ Some b → HasValue known (met_leaves t inner) choice old b
  root_moves zero root old b out other e h =
      absurd (none-some b (sym (ap (λ c. if c then Some (leaf_value t.proposal.leaves (map choice t.proposal.leaves ++ ys) root) else (if root == 0 then Some false else None)) out ∙ ap (λ c. if c then Some false else None) other) ∙ h))
  root_moves (suc k) root old b out other e h = (
    k,
    row_there k old b (refs_met inner inner root old (λ m f. f) e) (moves k)
        (sym (ap (λ c. if c then Some (leaf_value t.proposal.leaves (map choice t.proposal.leaves ++ ys) root) else (if root == 0 then Some false else known_value (By k) (row_among inner root))) out
        ∙ ap (λ c. if c then Some false else known_value (By k) (row_among inner root)) other ∙ ap (known_value (By k)) e) ∙ h),
  )

  -- where it has one, the root's row is there
  pub root_there : (k root : ℕ) → has_node t.proposal.leaves root ≡ false → (root == 0) ≡ false → has_none (By k root) ≡ false → (r : Row) × (row_among inner root ≡ Some r)
  root_there zero root out other h = absurd (false≢true (sym h ∙ ap has_none (ap (λ c. if c then Some (leaf_value t.proposal.leaves (map choice t.proposal.leaves ++ ys) root) else (if root == 0 then Some false else None)) out ∙ ap (λ c. if c then Some false else None) other)))
  root_there (suc k) root out other h =
      go (row_among inner root) refl
      (sym (ap has_none (ap (λ c. if c then Some (leaf_value t.proposal.leaves (map choice t.proposal.leaves ++ ys) root) else (if root == 0 then Some false else known_value (By k) (row_among inner root))) out
      ∙ ap (λ c. if c then Some false else known_value (By k) (row_among inner root)) other)) ∙ h)
    where
      go : (o : Option Row) → row_among inner root ≡ o → has_none (known_value (By k) o) ≡ false → (r : Row) × (row_among inner root ≡ Some r)
      go None e h = absurd (cc)
      go (Some r) e h = (r, e)

-- what is no None is something
pub something : (o : Option Bool) → has_none o ≡ false → o ≡ Some (is_true o)
something None h = absurd (cc)
something (Some b) h = refl

-- a leaf that is used is met
pub used_met : (t : Task) (inner : List NodeRow) (leaves : List ℕ) (i j k : ℕ) → find (λ leaf. not (is_met inner leaf)) (used_from t i leaves) ≡ None → j < length leaves → k ≡ i + j → uses t k ≡ true → is_met inner (get_or leaves j 0) ≡ true
used_met t inner [] i j k h lt e u = absurd (omega arith)
used_met t inner (leaf ∷ leaves) i zero k h lt e u =
    go (is_met inner leaf)
    (sym (ap (λ b. find (λ n. not (is_met inner n)) (if b then leaf ∷ used_from t (i + 1) leaves else used_from t (i + 1) leaves)) (sym (ap (uses t) (let same : k ≡ i = omega (arith, e) in same)) ∙ u)) ∙ h)
  where
    go : (b : Bool) → cond (not b) (Some leaf) (find (λ n. not (is_met inner n)) (used_from t (i + 1) leaves)) ≡ None → b ≡ true
    go true h = refl
    go false h = absurd (cc)
used_met t inner (leaf ∷ leaves) i (suc j) k h lt e u = used_met t inner leaves (i + 1) j k (skip (uses t i) h) (omega arith) (omega (arith, e)) u
  where
    past : (b : Bool) → cond (not b) (Some leaf) (find (λ n. not (is_met inner n)) (used_from t (i + 1) leaves)) ≡ None → find (λ n. not (is_met inner n)) (used_from t (i + 1) leaves) ≡ None
    past true h = h
    past false h = absurd (cc)

    skip : (b : Bool) → find (λ n. not (is_met inner n)) (if b then leaf ∷ used_from t (i + 1) leaves else used_from t (i + 1) leaves) ≡ None → find (λ n. not (is_met inner n)) (used_from t (i + 1) leaves) ≡ None
    skip true h = past (is_met inner leaf) h
    skip false h = h

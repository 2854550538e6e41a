-- The inner rows after any reads.
use Rattle.std.proofs.Common.{◌≡◌, ℕ, Bool, true, false, not, nat_lt, ◌==◌, ◌&&◌, ◌||◌, if◌then◌else◌, List, [], ◌∷◌, ◌++◌, length, Option, Some, None, refl, sym, ap, ◌∙◌, subst, inl, inr}
use Rattle.std.specs.List.{AllByRecursion}
use Rattle.std.proofs.lemmas.Bool.{and_parts, and_from, or_cases, or_left, or_right}
use Rattle.syn_rows.specs.declared.Row.{Row}
use Rattle.syn_rows.specs.declared.Row.TheVariants as row
use Rattle.syn_rows.specs.Rows.{AllRefs, node_of, refs_of}
use Rattle.syn_rows.specs.Rows.{is_derived}
use Rattle.syn_rows.specs.Nodes.{has_node}
use Rattle.syn_rows.proofs.Nodes.{has_left, has_right, node_same, same_node}
use Rattle.syn_core_laws.specs.declared.Seen.{Seen}
use Rattle.syn_core_laws.specs.declared.Seen.TheVariants as seen
use Rattle.syn_decide.specs.declared.decisions.NodeRow.{NodeRow}
use Rattle.syn_decide.specs.Tasks.{Task}
use Rattle.syn_decide.specs.Decided.{Reach, Busy, Differs, Wide}
use Rattle.syn_decide.specs.declared.decisions.TheConstants.{MAX_INNER}
use Rattle.syn_decide.specs.Walk.{enters, from_entered, nodes_of}
use Rattle.syn_decide.specs.Functions.{in_circle, is_same_function, now_table, used_leaves, was_table}
use Rattle.syn_decide.specs.Hints.{is_asked, may_hit, most_hits}
use Rattle.syn_decide.specs.Dying.{are_distinct}
use Rattle.syn_decide.specs.Fold.{State, Stage, Walking, Keying, Hinting, Counting, Ended, Failed, after_reads, after_walk, answered, at, begin, count_on, failed, first_unmet, key_loaded, placed_now, read_at, read_count, read_one, row_loaded, uncounted, walk_on, with_count, with_hit, with_inner}
use Rattle.syn_decide.specs.Walked.{AreGates, FirstEnters, HasRoot, IsKnown, IsWalked, RefersToKnown}

pub nodes_more : (inner : List NodeRow) (r : NodeRow) → nodes_of (inner ++ r ∷ []) ≡ nodes_of inner ++ r.node ∷ []
nodes_more [] r = refl
nodes_more (q ∷ inner) r = ap (λ ns. q.node ∷ ns) (nodes_more inner r)

-- a node that isn't there keeps the nodes different
apart : (x n : ℕ) (ns : List ℕ) → has_node ns x ≡ false → (x == n) ≡ false → has_node (ns ++ n ∷ []) x ≡ false
apart x n [] h e = go (n == x) refl
  where
    go : (b : Bool) → (n == x) ≡ b → (b || false) ≡ false
    go true k = let same : n ≡ x = same_node n x k in let yes : (x == n) ≡ true = subst (λ z. (x == z) ≡ true) (sym same) (node_same x) in absurd (cc)
    go false k = refl
apart x n (y ∷ ns) h e = go (y == x) h (λ k. apart x n ns k e)
  where
    go : (b : Bool) → (b || has_node ns x) ≡ false → (has_node ns x ≡ false → has_node (ns ++ n ∷ []) x ≡ false) → (b || has_node (ns ++ n ∷ []) x) ≡ false
    go true k f = absurd (cc)
    go false k f = f k

pub distinct_more : (ns : List ℕ) (n : ℕ) → are_distinct ns ≡ true → has_node ns n ≡ false → are_distinct (ns ++ n ∷ []) ≡ true
distinct_more [] n d h = refl
distinct_more (x ∷ ns) n d h =
    let parts = and_parts (not (has_node ns x)) (are_distinct ns) d in
    let heads = or_false_parts (x == n) (has_node ns n) h in
    and_from (not (has_node (ns ++ n ∷ []) x)) (are_distinct (ns ++ n ∷ [])) (ap not (apart x n ns (not_true (has_node ns x) parts.0) heads.0)) (distinct_more ns n parts.1 heads.1)
  where
    or_false_parts : (a b : Bool) → (a || b) ≡ false → (a ≡ false) × (b ≡ false)
    or_false_parts true b h = absurd (cc)
    or_false_parts false b h = (refl, h)

    not_true : (b : Bool) → not b ≡ true → b ≡ false
    not_true true h = absurd (cc)
    not_true false h = refl

-- what the walk doesn't enter is known without it
not_entered : (t : Task) (inner : List NodeRow) (waiting : List ℕ) (n : ℕ) → enters t.proposal.leaves inner n ≡ false → IsKnown t inner waiting n
not_entered t inner waiting n h = go (n == 0) (has_node t.proposal.leaves n) (has_node (nodes_of inner) n) refl refl refl h
  where
    go : (a b c : Bool) → (n == 0) ≡ a → has_node t.proposal.leaves n ≡ b → has_node (nodes_of inner) n ≡ c → (not a && (not b && not c)) ≡ false → IsKnown t inner waiting n
    go true b c e f g h = inl (inl (same_node n 0 e))
    go false true c e f g h = inl (inr f)
    go false false true e f g h = inr (inl g)
    go false false false e f g h = absurd (cc)

-- skipping nodes that aren't entered forgets nothing
still_known : (t : Task) (inner : List NodeRow) (waiting : List ℕ) (m : ℕ) → IsKnown t inner waiting m → IsKnown t inner (from_entered t.proposal.leaves inner waiting) m
still_known t inner [] m k = k
still_known t inner (n ∷ waiting) m k = go (enters t.proposal.leaves inner n) refl k (still_known t inner waiting m)
  where
    without : enters t.proposal.leaves inner n ≡ false → IsKnown t inner (n ∷ waiting) m → IsKnown t inner waiting m
    without e (inl k) = inl k
    without e (inr (inl k)) = inr (inl k)
    without e (inr (inr k)) = elim (or_cases (n == m) (has_node waiting m) k) [ inl s ↦ subst (λ z. IsKnown t inner waiting z) (same_node n m s) (not_entered t inner waiting n e) | inr w ↦ inr (inr w) ]

    go : (b : Bool) → enters t.proposal.leaves inner n ≡ b → IsKnown t inner (n ∷ waiting) m → (IsKnown t inner waiting m → IsKnown t inner (from_entered t.proposal.leaves inner waiting) m)
        → IsKnown t inner (if b then n ∷ waiting else from_entered t.proposal.leaves inner waiting) m
    go true e k next = k
    go false e k next = next (without e k)

first_enters : (t : Task) (inner : List NodeRow) (waiting : List ℕ) → FirstEnters t inner (from_entered t.proposal.leaves inner waiting)
first_enters t inner [] = tt
first_enters t inner (n ∷ waiting) = go (enters t.proposal.leaves inner n) refl (first_enters t inner waiting)
  where
    go : (b : Bool) → enters t.proposal.leaves inner n ≡ b → FirstEnters t inner (from_entered t.proposal.leaves inner waiting) → FirstEnters t inner (if b then n ∷ waiting else from_entered t.proposal.leaves inner waiting)
    go true e next = e
    go false e next = next

-- what was known stays known with one inner row more
known_on : (t : Task) (inner : List NodeRow) (waiting : List ℕ) (r : NodeRow) (m : ℕ) → IsKnown t inner (r.node ∷ waiting) m → IsKnown t (inner ++ r ∷ []) (refs_of r.row ++ waiting) m
known_on t inner waiting r m (inl k) = inl k
known_on t inner waiting r m (inr (inl k)) = inr (inl (subst (λ ns. has_node ns m ≡ true) (sym (nodes_more inner r)) (has_left (nodes_of inner) (r.node ∷ []) m k)))
known_on t inner waiting r m (inr (inr k)) =
    elim (or_cases (r.node == m) (has_node waiting m) k) [
      | inl s ↦ inr (inl (subst (λ ns. has_node ns m ≡ true) (sym (nodes_more inner r)) (has_right (nodes_of inner) (r.node ∷ []) m (or_left (r.node == m) false s))))
      | inr w ↦ inr (inr (has_right (refs_of r.row) waiting m w))
    ]

all_refs : (P Q : ℕ → Type 0) (r : Row) → ((m : ℕ) → P m → Q m) → AllRefs P r → AllRefs Q r
all_refs P Q row.Free f h = tt
all_refs P Q row.Source f h = tt
all_refs P Q (row.And a b) f h = (f (node_of a) h.0, f (node_of b) h.1)
all_refs P Q (row.Alias a) f h = f (node_of a) h

all_rows : (P Q : NodeRow → Type 0) (rows : List NodeRow) → ((r : NodeRow) → P r → Q r) → AllByRecursion P rows → AllByRecursion Q rows
all_rows P Q [] f h = tt
all_rows P Q (r ∷ rows) f h = (f r h.0, all_rows P Q rows f h.1)

pub all_more : (P : NodeRow → Type 0) (rows : List NodeRow) (r : NodeRow) → AllByRecursion P rows → P r → AllByRecursion P (rows ++ r ∷ [])
all_more P [] r h p = (p, tt)
all_more P (q ∷ rows) r h p = (h.0, all_more P rows r h.1 p)

-- the fan-ins of a row are known where they wait
own_refs : (t : Task) (inner : List NodeRow) (waiting : List ℕ) (r : Row) → AllRefs (IsKnown t inner (refs_of r ++ waiting)) r
own_refs t inner waiting row.Free = tt
own_refs t inner waiting row.Source = tt
own_refs t inner waiting (row.And a b) = (inr (inr (or_left (node_of a == node_of a) _ (node_same (node_of a)))), inr (inr (or_right (node_of a == node_of b) _ (or_left (node_of b == node_of b) _ (node_same (node_of b))))))
own_refs t inner waiting (row.Alias a) = inr (inr (or_left (node_of a == node_of a) _ (node_same (node_of a))))

-- one inner row more, with what waits after it
closed_more : (t : Task) (inner : List NodeRow) (waiting : List ℕ) (r : NodeRow) → RefersToKnown t inner (r.node ∷ waiting)
    → RefersToKnown t (inner ++ r ∷ []) (from_entered t.proposal.leaves (inner ++ r ∷ []) (refs_of r.row ++ waiting))
closed_more t inner waiting r h =
    all_more _ inner r
    (all_rows _ _ inner (λ q. all_refs _ _ q.row (λ m k. still_known t (inner ++ r ∷ []) (refs_of r.row ++ waiting) m (known_on t inner waiting r m k))) h)
    (all_refs _ _ r.row (λ m k. still_known t (inner ++ r ∷ []) (refs_of r.row ++ waiting) m k) (own_refs t (inner ++ r ∷ []) waiting r.row))

not_true : (b : Bool) → not b ≡ true → b ≡ false
not_true true h = absurd (cc)
not_true false h = refl

-- a node that is entered is none of the inner rows'
pub entered_new : (t : Task) (inner : List NodeRow) (n : ℕ) → enters t.proposal.leaves inner n ≡ true → has_node (nodes_of inner) n ≡ false
entered_new t inner n h =
    let first = and_parts (not (n == 0)) (not (has_node t.proposal.leaves n) && not (has_node (nodes_of inner) n)) h in
    not_true _ (and_parts (not (has_node t.proposal.leaves n)) (not (has_node (nodes_of inner) n)) first.1).1

-- a state whose inner rows are as they should be
abbrev Good : Task → State → Type 0
Good t s = IsWalked t s.inner s.stage

walk_over : (t : Task) (inner : List NodeRow) → are_distinct (nodes_of inner) ≡ true → RefersToKnown t inner [] → has_node (nodes_of inner) t.proposal.root ≡ true → AreGates inner → (o : Option ℕ) → IsWalked t inner (after_walk t inner o)
walk_over t inner d h r g (Some leaf) = record { distinct = d; closed = tt; next = tt; root = tt; gates = g }
walk_over t inner d h r g None = go (in_circle t inner) (is_same_function t inner)
  where
    go : (b c : Bool) → IsWalked t inner (if b then Failed else (if c then Keying (used_leaves t ++ t.proposal.root ∷ []) else Ended (Differs (was_table t) (now_table t inner))))
    go true c = record { distinct = d; closed = tt; next = tt; root = tt; gates = g }
    go false true = record { distinct = d; closed = h; next = tt; root = r; gates = g }
    go false false = record { distinct = d; closed = tt; next = tt; root = tt; gates = g }

goes_on : (t : Task) (inner : List NodeRow) (waiting : List ℕ) → are_distinct (nodes_of inner) ≡ true → RefersToKnown t inner waiting → FirstEnters t inner waiting → has_node (nodes_of inner) t.proposal.root ≡ true → AreGates inner → IsWalked t inner (walk_on t inner waiting)
goes_on t inner [] d h f r g = walk_over t inner d h r g (first_unmet t inner)
goes_on t inner (n ∷ waiting) d h f r g = go (nat_lt (length inner) MAX_INNER)
  where
    go : (b : Bool) → IsWalked t inner (if b then Walking (n ∷ waiting) else Ended (Wide n))
    go true = record { distinct = d; closed = h; next = f; root = inl r; gates = g }
    go false = record { distinct = d; closed = tt; next = tt; root = tt; gates = g }

-- a row as an inner row
abbrev pub node_row : ℕ → Row → NodeRow
node_row n r = record { node = n; row = r }

-- the root is an inner row from the first row on
root_there : (t : Task) (inner : List NodeRow) (n : ℕ) (r : Row) (waiting : List ℕ) → HasRoot t inner (Walking (n ∷ waiting)) → has_node (nodes_of (inner ++ node_row n r ∷ [])) t.proposal.root ≡ true
root_there t inner n r waiting (inl h) = subst (λ ns. has_node ns t.proposal.root ≡ true) (sym (nodes_more inner (node_row n r))) (has_left (nodes_of inner) (n ∷ []) t.proposal.root h)
root_there t inner n r waiting (inr e) =
    let same : n ≡ t.proposal.root = ap (first_or n) e in
    subst (λ ns. has_node ns t.proposal.root ≡ true) (sym (nodes_more inner (node_row n r))) (has_right (nodes_of inner) (n ∷ []) t.proposal.root (or_left (n == t.proposal.root) false (ap (λ k. k == t.proposal.root) same ∙ node_same t.proposal.root)))
  where
    first_or : ℕ → List ℕ → ℕ
    first_or d [] = d
    first_or d (x ∷ xs) = x

-- the inner rows with a gate more, and what waits then
pub gate_more : (t : Task) (inner : List NodeRow) (n : ℕ) (r : Row) (waiting : List ℕ) → IsWalked t inner (Walking (n ∷ waiting)) → is_derived r ≡ true
    → (are_distinct (nodes_of (inner ++ node_row n r ∷ [])) ≡ true) × RefersToKnown t (inner ++ node_row n r ∷ []) (from_entered t.proposal.leaves (inner ++ node_row n r ∷ []) (refs_of r ++ waiting))
    × (has_node (nodes_of (inner ++ node_row n r ∷ [])) t.proposal.root ≡ true) × AreGates (inner ++ node_row n r ∷ [])
gate_more t inner n r waiting w g = (
  subst (λ ns. are_distinct ns ≡ true) (sym (nodes_more inner (node_row n r))) (distinct_more (nodes_of inner) n w.distinct (entered_new t inner n w.next)),
  closed_more t inner waiting (node_row n r) w.closed,
  root_there t inner n r waiting w.root,
  all_more (λ q. is_derived q.row ≡ true) inner (node_row n r) w.gates g,
)

row_good : (t : Task) (s : State) (n : ℕ) (r : Row) (waiting : List ℕ) → IsWalked t s.inner (Walking (n ∷ waiting)) → Good t (row_loaded t s n r waiting)
row_good t s n r waiting w = go (is_derived r) refl
  where
    go : (b : Bool) → is_derived r ≡ b → Good t (if b then at (with_inner s n r) (walk_on t (with_inner s n r).inner (from_entered t.proposal.leaves (with_inner s n r).inner (refs_of r ++ waiting))) else answered s (Reach n))
    go true e =
        let more = gate_more t s.inner n r waiting w e in
        goes_on t (s.inner ++ node_row n r ∷ []) (from_entered t.proposal.leaves (s.inner ++ node_row n r ∷ []) (refs_of r ++ waiting)) more.0 more.1 (first_enters t (s.inner ++ node_row n r ∷ []) (refs_of r ++ waiting)) more.2 more.3
    go false e = record { distinct = w.distinct; closed = tt; next = tt; root = tt; gates = w.gates }

failed_good : (t : Task) (s : State) (stage : Stage) → IsWalked t s.inner stage → Good t (failed s)
failed_good t s stage w = record { distinct = w.distinct; closed = tt; next = tt; root = tt; gates = w.gates }

either_good : (t : Task) (b : Bool) (x y : State) → Good t x → Good t y → Good t (if b then x else y)
either_good t true x y g h = g
either_good t false x y g h = h

key_good : (t : Task) (s : State) (key n : ℕ) (left : List ℕ) → IsWalked t s.inner (Keying (n ∷ left)) → Good t (key_loaded s key left)
key_good t s key n [] w = record { distinct = w.distinct; closed = w.closed; next = tt; root = w.root; gates = w.gates }
key_good t s key n (m ∷ left) w = record { distinct = w.distinct; closed = w.closed; next = tt; root = w.root; gates = w.gates }

hint_good : (t : Task) (s : State) (b c : Bool) (last : NodeRow) (key : ℕ) → IsWalked t s.inner (Hinting None)
    → Good t (if b then (if c then at (with_hit s last.node last.row key) (Hinting None) else at s (Hinting None)) else failed s)
hint_good t s true true last key w = record { distinct = w.distinct; closed = w.closed; next = tt; root = w.root; gates = w.gates }
hint_good t s true false last key w = w
hint_good t s false c last key w = record { distinct = w.distinct; closed = tt; next = tt; root = tt; gates = w.gates }

count_good : (t : Task) (s : State) (left : List NodeRow) (node count own : ℕ) → IsWalked t s.inner Counting → Good t (read_count t s left node count own)
count_good t s [] node count own w = failed_good t s Counting w
count_good t s (r ∷ left) node count own w = go (node == r.node) left
  where
    go : (b : Bool) (left : List NodeRow) → Good t (if b then count_on t (with_count s count own) left else failed s)
    go true [] = record { distinct = w.distinct; closed = tt; next = tt; root = tt; gates = w.gates }
    go true (q ∷ left) = record { distinct = w.distinct; closed = w.closed; next = tt; root = w.root; gates = w.gates }
    go false left = record { distinct = w.distinct; closed = tt; next = tt; root = tt; gates = w.gates }

step_good : (t : Task) (s : State) (stage : Stage) (read : Seen) → IsWalked t s.inner stage → Good t (read_at t s stage read)
step_good t s (Walking []) read w = failed_good t s (Walking []) w
step_good t s (Walking (n ∷ waiting)) (seen.Row node r) w = either_good t (node == n) (row_loaded t s n r waiting) (failed s) (row_good t s n r waiting w) (failed_good t s (Walking (n ∷ waiting)) w)
step_good t s (Walking (n ∷ waiting)) (seen.Miss node) w = either_good t (node == n) (answered s (Busy n)) (failed s) (record { distinct = w.distinct; closed = tt; next = tt; root = tt; gates = w.gates }) (failed_good t s (Walking (n ∷ waiting)) w)
step_good t s (Walking (n ∷ waiting)) (seen.Key node key) w = failed_good t s (Walking (n ∷ waiting)) w
step_good t s (Walking (n ∷ waiting)) (seen.Count node count own) w = failed_good t s (Walking (n ∷ waiting)) w
step_good t s (Keying []) read w = failed_good t s (Keying []) w
step_good t s (Keying (n ∷ left)) (seen.Key node key) w = either_good t (node == n) (key_loaded s key left) (failed s) (key_good t s key n left w) (failed_good t s (Keying (n ∷ left)) w)
step_good t s (Keying (n ∷ left)) (seen.Row node r) w = failed_good t s (Keying (n ∷ left)) w
step_good t s (Keying (n ∷ left)) (seen.Miss node) w = failed_good t s (Keying (n ∷ left)) w
step_good t s (Keying (n ∷ left)) (seen.Count node count own) w = failed_good t s (Keying (n ∷ left)) w
step_good t s (Hinting last) (seen.Row node r) w = record { distinct = w.distinct; closed = w.closed; next = tt; root = w.root; gates = w.gates }
step_good t s (Hinting None) (seen.Key node key) w = failed_good t s (Hinting None) w
step_good t s (Hinting (Some last)) (seen.Key node key) w =
    hint_good t s ((node == last.node && nat_lt (length s.hits) most_hits) && is_asked (placed_now t s).extra last.row) (may_hit t.proposal.leaves s.high last.node key) last key (record { distinct = w.distinct; closed = w.closed; next = tt; root = w.root; gates = w.gates })
step_good t s (Hinting last) (seen.Miss node) w = record { distinct = w.distinct; closed = w.closed; next = tt; root = w.root; gates = w.gates }
step_good t s (Hinting last) (seen.Count node count own) w = count_good t s (uncounted s) node count own (record { distinct = w.distinct; closed = w.closed; next = tt; root = w.root; gates = w.gates })
step_good t s Counting (seen.Count node count own) w = count_good t s (uncounted s) node count own w
step_good t s Counting (seen.Row node r) w = failed_good t s Counting w
step_good t s Counting (seen.Key node key) w = failed_good t s Counting w
step_good t s Counting (seen.Miss node) w = failed_good t s Counting w
step_good t s (Ended answer) read w = failed_good t s (Ended answer) w
step_good t s Failed read w = failed_good t s Failed w

all_good : (t : Task) (s : State) (reads : List Seen) → Good t s → Good t (after_reads t s reads)
all_good t s [] w = w
all_good t s (read ∷ reads) w = all_good t (read_one t s read) reads (step_good t s s.stage read w)

pub always_walked : (t : Task) (reads : List Seen) → enters t.proposal.leaves [] t.proposal.root ≡ true → Good t (after_reads t (begin t) reads)
always_walked t reads h = all_good t (begin t) reads (record { distinct = refl; closed = tt; next = h; root = inr refl; gates = tt })

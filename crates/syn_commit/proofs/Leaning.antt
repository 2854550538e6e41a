-- Hits refer to used leaves and to hits, so never to the root.
use Rattle.std.proofs.Common.{◌≡◌, ◌⊎◌, ℕ, suc, ◌+◌, ◌<◌, ◌≤◌, ◌==◌, ◌&&◌, not, nat_lt, Bool, true, false, if◌then◌else◌, List, [], ◌∷◌, ◌++◌, length, Some, None, refl, sym, subst, arith, inl, inr}
use Rattle.std.specs.List.{AllByRecursion, list_any}
use Rattle.std.proofs.lemmas.Bool.{and_parts, eqb-true, or_cases}
use Rattle.syn_rows.specs.declared.Lit.{Lit}
use Rattle.syn_rows.specs.declared.Row.{Row}
use Rattle.syn_rows.specs.declared.Row.TheVariants.{Free, Source, And, Alias}
use Rattle.syn_rows.specs.Rows.{AllRefs, is_derived, node_of, refs_of, row_at}
use Rattle.syn_rows.specs.Nodes.{has_node}
use Rattle.syn_rows.proofs.JoinLaws.{same_lit}
use Rattle.syn_rows.proofs.Nodes.{has_left, has_one, here_or_there}
use Rattle.syn_core_laws.specs.declared.Seen.{Seen}
use Rattle.syn_core_laws.specs.declared.Seen.TheVariants as seen
use Rattle.syn_decide.specs.declared.decisions.NodeRow.{NodeRow}
use Rattle.syn_decide.specs.Tasks.{Task}
use Rattle.syn_decide.specs.Decided.{Busy, Reach}
use Rattle.syn_decide.specs.Functions.{used_leaves}
use Rattle.syn_decide.specs.Walk.{from_entered, nodes_of}
use Rattle.syn_decide.specs.Hints.{first_new, is_asked, is_new_gate, is_pair, may_hit, most_hits, placed_by_hits}
use Rattle.syn_decide.specs.Fold.{State, Stage, Walking, Keying, Hinting, Counting, Ended, Failed, after_reads, answered, at, begin, count_on, failed, key_loaded, placed_now, read_at, read_count, read_one, row_loaded, uncounted, walk_on, with_count, with_hit, with_inner}
use Rattle.syn_decide.proofs.Walking.{all_more, node_row, nodes_more}
use Rattle.syn_core_laws.specs.declared.View.{View}
use Rattle.syn_commit_laws.specs.Origins.{IsFanIn}
use Rattle.syn_commit_laws.proofs.Origins.{new_rows_refer_to_origins}
use Rattle.syn_commit_laws.proofs.Stored.{le_true}
use Rattle.syn_commit.specs.Walks.{IsOfReads}

-- the node is a used leaf or a hit
abbrev pub IsSource : Task → List NodeRow → ℕ → Type 0
IsSource t hits m = (has_node (used_leaves t) m ≡ true) ⊎ (has_node (nodes_of hits) m ≡ true)

-- each hit refers to such nodes alone
abbrev pub HitsLean : Task → List NodeRow → List NodeRow → Type 0
HitsLean t hits rows = AllByRecursion (λ h. AllRefs (IsSource t hits) h.row) rows

any_at : (p : Row → Bool) (rows : List Row) → list_any p rows ≡ true → (i : ℕ) × (i < length rows) × (p (row_at rows i) ≡ true)
any_at p [] h = absurd (cc)
any_at p (r ∷ rows) h = elim (or_cases (p r) (list_any p rows) h) [ inl here ↦ (0, omega arith, here) | inr more ↦ let a = any_at p rows more in (suc a.0, omega (arith, a.1), a.2) ]

-- ---- what is asked for refers to such nodes
module _ (t : Task) (hits : List NodeRow) where
  fan_in_from : (i : ℕ) (x : Lit) → is_new_gate x ≡ false → IsFanIn t (nodes_of hits) i x → IsSource t hits (node_of x)
  fan_in_from i x old f = by f.from
    where
      by : ((node_of x ≡ 0) ⊎ (has_node (used_leaves t) (node_of x) ≡ true)) ⊎ ((has_node (nodes_of hits) (node_of x) ≡ true) ⊎ ((first_new ≤ node_of x) × (node_of x < first_new + i))) → IsSource t hits (node_of x)
      by (inl (inl none)) = absurd (f.other none)
      by (inl (inr used)) = inl used
      by (inr (inl hit)) = inr hit
      by (inr (inr new)) = let yes : is_new_gate x ≡ true = le_true first_new (node_of x) new.0 in absurd (cc)

  asked_leans : (row : Row) → is_asked (placed_by_hits t hits).extra row ≡ true → AllRefs (IsSource t hits) row
  asked_leans Free h = absurd (cc)
  asked_leans Source h = absurd (cc)
  asked_leans (Alias a) h = absurd (cc)
  asked_leans (And a b) h =
      let parts = and_parts (not (is_new_gate a) && not (is_new_gate b)) (list_any (is_pair a b) (placed_by_hits t hits).extra) h in
      let olds = and_parts (not (is_new_gate a)) (not (is_new_gate b)) parts.0 in
      let there = any_at (is_pair a b) (placed_by_hits t hits).extra parts.1 in
      let new = (new_rows_refer_to_origins t hits).rows there.0 there.1 in
      let same : is_pair a b (And new.0 new.1) ≡ true = subst (λ (r : Row). is_pair a b r ≡ true) new.2 there.2 in
      let both = and_parts (a.0 == new.0.0) (b.0 == new.1.0) same in
      (of_same a new.0 (not_true (is_new_gate a) olds.0) (same_lit a new.0 (eqb-true a.0 new.0.0 both.0)) there.0 new.3, of_same b new.1 (not_true (is_new_gate b) olds.1) (same_lit b new.1 (eqb-true b.0 new.1.0 both.1)) there.0 new.4)
    where
      not_true : (b : Bool) → not b ≡ true → b ≡ false
      not_true true h = absurd (cc)
      not_true false h = refl

      of_same : (x y : Lit) → is_new_gate x ≡ false → x ≡ y → (i : ℕ) → IsFanIn t (nodes_of hits) i y → IsSource t hits (node_of x)
      of_same x y old e i f = fan_in_from i x old (subst (λ (z : Lit). IsFanIn t (nodes_of hits) i z) (sym e) f)

  -- with one hit more
  source_more : (r : NodeRow) (m : ℕ) → IsSource t hits m → IsSource t (hits ++ r ∷ []) m
  source_more r m (inl used) = inl used
  source_more r m (inr hit) = inr (subst (λ ns. has_node ns m ≡ true) (sym (nodes_more hits r)) (has_left (nodes_of hits) (r.node ∷ []) m hit))

  refs_more : (r : NodeRow) (row : Row) → AllRefs (IsSource t hits) row → AllRefs (IsSource t (hits ++ r ∷ [])) row
  refs_more r Free a = tt
  refs_more r Source a = tt
  refs_more r (And x y) a = (source_more r (node_of x) a.0, source_more r (node_of y) a.1)
  refs_more r (Alias x) a = source_more r (node_of x) a

  rows_more : (r : NodeRow) (rows : List NodeRow) → HitsLean t hits rows → HitsLean t (hits ++ r ∷ []) rows
  rows_more r [] h = tt
  rows_more r (q ∷ rows) h = (refs_more r q.row h.0, rows_more r rows h.1)

  hit_leans : (n : ℕ) (row : Row) → HitsLean t hits hits → is_asked (placed_by_hits t hits).extra row ≡ true → HitsLean t (hits ++ node_row n row ∷ []) (hits ++ node_row n row ∷ [])
  hit_leans n row h asked =
      all_more (λ q. AllRefs (IsSource t (hits ++ node_row n row ∷ [])) q.row) hits (node_row n row) (rows_more (node_row n row) hits h) (refs_more (node_row n row) row (asked_leans row asked))

-- ---- after any reads
module _ (t : Task) (s : State) (h : HitsLean t s.hits s.hits) where
  abbrev Lean : State → Type 0
  Lean z = HitsLean t z.hits z.hits

  either : (b : Bool) (x y : State) → Lean x → Lean y → Lean (if b then x else y)
  either true x y g k = g
  either false x y g k = k

  key_leans : (key : ℕ) (left : List ℕ) → Lean (key_loaded s key left)
  key_leans key [] = h
  key_leans key (m ∷ left) = h

  hint_leans : (p q c : Bool) (last : NodeRow) (key : ℕ) → is_asked (placed_now t s).extra last.row ≡ q → Lean (if p && q then (if c then at (with_hit s last.node last.row key) (Hinting None) else at s (Hinting None)) else failed s)
  hint_leans true true true last key e = hit_leans t s.hits last.node last.row h e
  hint_leans true true false last key e = h
  hint_leans true false c last key e = h
  hint_leans false q c last key e = h

  count_leans : (left : List NodeRow) (node count own : ℕ) → Lean (read_count t s left node count own)
  count_leans [] node count own = h
  count_leans (r ∷ left) node count own = either (node == r.node) (count_on t (with_count s count own) left) (failed s) (counted left) h
    where
      counted : (left : List NodeRow) → Lean (count_on t (with_count s count own) left)
      counted [] = h
      counted (q ∷ left) = h

  step_leans : (stage : Stage) (read : Seen) → Lean (read_at t s stage read)
  step_leans (Walking []) read = h
  step_leans (Walking (n ∷ waiting)) (seen.Row node r) =
      either (node == n) (row_loaded t s n r waiting) (failed s)
      (either (is_derived r) (at (with_inner s n r) (walk_on t (with_inner s n r).inner (from_entered t.proposal.leaves (with_inner s n r).inner (refs_of r ++ waiting)))) (answered s (Reach n)) h h) h
  step_leans (Walking (n ∷ waiting)) (seen.Miss node) = either (node == n) (answered s (Busy n)) (failed s) h h
  step_leans (Walking (n ∷ waiting)) (seen.Key node key) = h
  step_leans (Walking (n ∷ waiting)) (seen.Count node count own) = h
  step_leans (Keying []) read = h
  step_leans (Keying (n ∷ left)) (seen.Key node key) = either (node == n) (key_loaded s key left) (failed s) (key_leans key left) h
  step_leans (Keying (n ∷ left)) (seen.Row node r) = h
  step_leans (Keying (n ∷ left)) (seen.Miss node) = h
  step_leans (Keying (n ∷ left)) (seen.Count node count own) = h
  step_leans (Hinting last) (seen.Row node r) = h
  step_leans (Hinting None) (seen.Key node key) = h
  step_leans (Hinting (Some last)) (seen.Key node key) =
      hint_leans (node == last.node && nat_lt (length s.hits) most_hits) (is_asked (placed_now t s).extra last.row) (may_hit t.proposal.leaves s.high last.node key) last key refl
  step_leans (Hinting last) (seen.Miss node) = h
  step_leans (Hinting last) (seen.Count node count own) = count_leans (uncounted s) node count own
  step_leans Counting (seen.Count node count own) = count_leans (uncounted s) node count own
  step_leans Counting (seen.Row node r) = h
  step_leans Counting (seen.Key node key) = h
  step_leans Counting (seen.Miss node) = h
  step_leans (Ended answer) read = h
  step_leans Failed read = h

all_lean : (t : Task) (s : State) (reads : List Seen) → HitsLean t s.hits s.hits → HitsLean t (after_reads t s reads).hits (after_reads t s reads).hits
all_lean t s [] h = h
all_lean t s (read ∷ reads) h = all_lean t (read_one t s read) reads (step_leans t s h s.stage read)

pub hits_lean : (t : Task) (start v : View) (s : State) → IsOfReads t start v s → HitsLean t s.hits s.hits
hits_lean t start v s o = subst (λ (y : State). HitsLean t y.hits y.hits) (sym o.state) (all_lean t (begin t) o.met tt)

-- ---- a node to which a row refers
pub at_ref : (P : ℕ → Type 0) (row : Row) (m : ℕ) → AllRefs P row → has_node (refs_of row) m ≡ true → P m
at_ref P Free m a h = absurd (cc)
at_ref P Source m a h = absurd (cc)
at_ref P (And x y) m a h = elim (here_or_there (node_of x) m (node_of y ∷ []) h) [ inl same ↦ subst P (sym same) a.0 | inr there ↦ subst P (has_one (node_of y) m there) a.1 ]
at_ref P (Alias x) m a h = subst P (has_one (node_of x) m h) a

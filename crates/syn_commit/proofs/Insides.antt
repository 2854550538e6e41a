-- Inner rows are of nodes that are neither node 0 nor leaves.
use Rattle.std.proofs.Common.{◌≡◌, ℕ, ◌==◌, ◌&&◌, not, nat_lt, Bool, true, false, if◌then◌else◌, List, [], ◌∷◌, ◌++◌, length, Some, None, refl, sym, subst}
use Rattle.std.specs.List.{AllByRecursion}
use Rattle.std.proofs.lemmas.Bool.{and_parts, eq-eqb}
use Rattle.syn_rows.specs.declared.Row.{Row}
use Rattle.syn_rows.specs.Rows.{is_derived, refs_of}
use Rattle.syn_rows.specs.Nodes.{has_node}
use Rattle.syn_core_laws.specs.declared.View.{View}
use Rattle.syn_core_laws.specs.declared.Seen.{Seen}
use Rattle.syn_core_laws.specs.declared.Seen.TheVariants as seen
use Rattle.syn_decide.specs.declared.decisions.NodeRow.{NodeRow}
use Rattle.syn_decide.specs.Tasks.{Task}
use Rattle.syn_decide.specs.Decided.{Busy, Reach}
use Rattle.syn_decide.specs.Walk.{enters, from_entered, nodes_of}
use Rattle.syn_decide.specs.Walked.{IsWalked, NextEnters}
use Rattle.syn_decide.specs.Hints.{is_asked, may_hit, most_hits}
use Rattle.syn_decide.specs.Fitting.{IsInside}
use Rattle.syn_decide.specs.Fold.{State, Stage, Walking, Keying, Hinting, Counting, Ended, Failed, after_reads, answered, at, begin, count_on, failed, key_loaded, placed_now, read_at, read_count, read_one, row_loaded, uncounted, walk_on, with_count, with_hit, with_inner}
use Rattle.syn_decide.proofs.Walking.{all_more, always_walked, node_row}
use Rattle.syn_commit.specs.Walks.{IsOfReads}
use Rattle.syn_commit.proofs.Meshing.{after_append}

-- each inner row is of such a node
abbrev pub AreInside : Task → List NodeRow → Type 0
AreInside t inner = AllByRecursion (λ r. IsInside t r.node) inner

enters_inside : (t : Task) (inner : List NodeRow) (n : ℕ) → enters t.proposal.leaves inner n ≡ true → IsInside t n
enters_inside t inner n h =
    let parts = and_parts (not (n == 0)) (not (has_node t.proposal.leaves n) && not (has_node (nodes_of inner) n)) h in
    record {
      other = λ e. apart (n == 0) parts.0 (eq-eqb n 0 e);
      inside = not_true (has_node t.proposal.leaves n) (and_parts (not (has_node t.proposal.leaves n)) (not (has_node (nodes_of inner) n)) parts.1).0;
    }
  where
    apart : (b : Bool) → not b ≡ true → b ≡ true → ⊥
    apart true h e = absurd (cc)
    apart false h e = absurd (cc)

    not_true : (b : Bool) → not b ≡ true → b ≡ false
    not_true true h = absurd (cc)
    not_true false h = refl

-- ---- a read adds the row of the node that is entered, or none
module _ (t : Task) (s : State) (h : AreInside t s.inner) where
  either : (b : Bool) (x y : State) → AreInside t x.inner → AreInside t y.inner → AreInside t (if b then x else y).inner
  either true x y g k = g
  either false x y g k = k

  row_inside : (n : ℕ) (r : Row) (waiting : List ℕ) → IsInside t n → AreInside t (row_loaded t s n r waiting).inner
  row_inside n r waiting i =
      either (is_derived r) (at (with_inner s n r) (walk_on t (with_inner s n r).inner (from_entered t.proposal.leaves (with_inner s n r).inner (refs_of r ++ waiting)))) (answered s (Reach n))
      (all_more (λ q. IsInside t q.node) s.inner (node_row n r) h i) h

  key_inside : (key : ℕ) (left : List ℕ) → AreInside t (key_loaded s key left).inner
  key_inside key [] = h
  key_inside key (m ∷ left) = h

  hint_inside : (b c : Bool) (last : NodeRow) (key : ℕ) → AreInside t (if b then (if c then at (with_hit s last.node last.row key) (Hinting None) else at s (Hinting None)) else failed s).inner
  hint_inside true true last key = h
  hint_inside true false last key = h
  hint_inside false c last key = h

  count_inside : (left : List NodeRow) (node count own : ℕ) → AreInside t (read_count t s left node count own).inner
  count_inside [] node count own = h
  count_inside (r ∷ left) node count own = either (node == r.node) (count_on t (with_count s count own) left) (failed s) (counted left) h
    where
      counted : (left : List NodeRow) → AreInside t (count_on t (with_count s count own) left).inner
      counted [] = h
      counted (q ∷ left) = h

  step_inside : (stage : Stage) (read : Seen) → NextEnters t s.inner stage → AreInside t (read_at t s stage read).inner
  step_inside (Walking []) read e = h
  step_inside (Walking (n ∷ waiting)) (seen.Row node r) e = either (node == n) (row_loaded t s n r waiting) (failed s) (row_inside n r waiting (enters_inside t s.inner n e)) h
  step_inside (Walking (n ∷ waiting)) (seen.Miss node) e = either (node == n) (answered s (Busy n)) (failed s) h h
  step_inside (Walking (n ∷ waiting)) (seen.Key node key) e = h
  step_inside (Walking (n ∷ waiting)) (seen.Count node count own) e = h
  step_inside (Keying []) read e = h
  step_inside (Keying (n ∷ left)) (seen.Key node key) e = either (node == n) (key_loaded s key left) (failed s) (key_inside key left) h
  step_inside (Keying (n ∷ left)) (seen.Row node r) e = h
  step_inside (Keying (n ∷ left)) (seen.Miss node) e = h
  step_inside (Keying (n ∷ left)) (seen.Count node count own) e = h
  step_inside (Hinting last) (seen.Row node r) e = h
  step_inside (Hinting None) (seen.Key node key) e = h
  step_inside (Hinting (Some last)) (seen.Key node key) e = hint_inside ((node == last.node && nat_lt (length s.hits) most_hits) && is_asked (placed_now t s).extra last.row) (may_hit t.proposal.leaves s.high last.node key) last key
  step_inside (Hinting last) (seen.Miss node) e = h
  step_inside (Hinting last) (seen.Count node count own) e = count_inside (uncounted s) node count own
  step_inside Counting (seen.Count node count own) e = count_inside (uncounted s) node count own
  step_inside Counting (seen.Row node r) e = h
  step_inside Counting (seen.Key node key) e = h
  step_inside Counting (seen.Miss node) e = h
  step_inside (Ended answer) read e = h
  step_inside Failed read e = h

all_inside : (t : Task) → enters t.proposal.leaves [] t.proposal.root ≡ true → (met reads : List Seen) → AreInside t (after_reads t (begin t) met).inner → AreInside t (after_reads t (after_reads t (begin t) met) reads).inner
all_inside t root met [] h = h
all_inside t root met (x ∷ reads) h =
    let w : IsWalked t (after_reads t (begin t) met).inner (after_reads t (begin t) met).stage = always_walked t met root in
    let next : AreInside t (after_reads t (begin t) (met ++ x ∷ [])).inner =
    subst (λ (y : State). AreInside t y.inner) (sym_append t met x) (step_inside t (after_reads t (begin t) met) h (after_reads t (begin t) met).stage x w.next) in
    subst (λ (y : State). AreInside t (after_reads t y reads).inner) (after_append t (begin t) met (x ∷ [])) (all_inside t root (met ++ x ∷ []) reads next)
  where
    sym_append : (t : Task) (met : List Seen) (x : Seen) → read_one t (after_reads t (begin t) met) x ≡ after_reads t (begin t) (met ++ x ∷ [])
    sym_append t met x = sym (after_append t (begin t) met (x ∷ []))

-- after any reads
pub inner_inside : (t : Task) (start v : View) (s : State) → enters t.proposal.leaves [] t.proposal.root ≡ true → IsOfReads t start v s → AreInside t s.inner
inner_inside t start v s root o = subst (λ (y : State). AreInside t y.inner) (sym o.state) (all_inside t root [] o.met tt)

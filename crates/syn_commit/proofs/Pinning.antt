-- Behind the keys, what new rows refer to is pinned with keys that are low enough.
use Rattle.std.proofs.Common.{◌≡◌, ℕ, suc, ◌<◌, true, List, sym, subst, arith, inl, inr}
use Rattle.syn_rows.specs.declared.Lit.{Lit}
use Rattle.syn_rows.specs.Rows.{node_of}
use Rattle.syn_rows.specs.Nodes.{has_node}
use Rattle.syn_core_laws.specs.declared.View.{View}
use Rattle.syn_core_laws.proofs.Counting.{has_times, times_has}
use Rattle.syn_decide.specs.Tasks.{Task}
use Rattle.syn_decide.specs.Fitting.{HitsAreInside}
use Rattle.syn_decide.specs.Fold.{State, placed_now}
use Rattle.syn_decide.specs.Hints.{first_new, rows_needed}
use Rattle.syn_decide.specs.Walk.{nodes_of}
use Rattle.syn_decide.proofs.Fitting.{hits_always_inside}
use Rattle.syn_commit_laws.specs.Origins.{IsFanIn, IsFrom}
use Rattle.syn_commit_laws.specs.Redefining.{IsInOrder}
use Rattle.syn_commit_laws.proofs.Keeping.{leaf_below}
use Rattle.syn_commit_laws.proofs.Origins.{new_rows_refer_to_origins}
use Rattle.syn_commit_laws.proofs.Stored.{le_false, le_true}
use Rattle.syn_commit.specs.Keyed.{AreAllKeyed, IsKeyedSoFar}
use Rattle.syn_commit.specs.Stages.{IsTrying}
use Rattle.syn_commit.specs.Storing.{AreNewRows, IsPlaced, MayReferTo}
use Rattle.syn_commit.proofs.Joining.{hit_below}
use Rattle.syn_commit.proofs.Returning.{used_is_leaf}

module _ (t : Task) (start v : View) (pool pins : List ℕ) (s : State) (order : IsInOrder t) (h : IsTrying t start pool pins v s) (k : IsKeyedSoFar t pins v s) (a : AreAllKeyed t pins v s) where
  pinned_may : (n : ℕ) → has_node pins n ≡ true → MayReferTo v (suc s.low) n
  pinned_may n there =
      let own = h.pinned n in
      let some = times_has n pins there in
      let key = k.keys n there in
      record { pin = inr (has_times n v.pins (omega (arith, own, some))); below = (key.0, key.1, omega (arith, key.2)) }

  old : (i : ℕ) (l : Lit) → node_of l < first_new → has_node pins (node_of l) ≡ true → IsPlaced v s.low i l
  old i l lt there = inr (le_false first_new (node_of l) lt, pinned_may (node_of l) there)

  placed : (i : ℕ) (l : Lit) → IsFanIn t (nodes_of s.hits) i l → IsPlaced v s.low i l
  placed i l f = by f.from
    where
      inside : HitsAreInside t s.hits
      inside = subst (λ (y : State). HitsAreInside t y.hits) (sym h.reads.state) (hits_always_inside t h.reads.met)

      by : IsFrom t (nodes_of s.hits) i (node_of l) → IsPlaced v s.low i l
      by (inl (inl none)) = absurd (f.other none)
      by (inl (inr used)) =
          let lt = leaf_below t.proposal.root t.proposal.leaves (node_of l) order.below (used_is_leaf t 0 t.proposal.leaves (node_of l) used) in
          let there = order.there in
          old i l (omega (arith, lt, there)) (a.leaves (node_of l) used)
      by (inr (inl hit)) = old i l (hit_below t s.hits (node_of l) inside hit) (k.hits (node_of l) hit)
      by (inr (inr new)) = inl (le_true first_new (node_of l) new.0, new.1)

-- Behind the keys rows may be made for the new gates, as far as they refer to what was there before.
pub rows_are_ready : (t : Task) (start v : View) (pool pins : List ℕ) (s : State) → IsInOrder t → IsTrying t start pool pins v s → IsKeyedSoFar t pins v s → AreAllKeyed t pins v s
    → AreNewRows v s.low (rows_needed t (placed_now t s)) (placed_now t s).extra
rows_are_ready t start v pool pins s order h k a i lt =
    let new = (new_rows_refer_to_origins t s.hits).rows i (omega (arith, lt)) in
    (new.0, new.1, new.2, placed t start v pool pins s order h k a i new.0 new.3, placed t start v pool pins s order h k a i new.1 new.4)

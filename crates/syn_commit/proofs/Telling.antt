-- What a commit met and stored since its start, in words of its views alone.
use Rattle.std.proofs.Common.{◌≡◌, ℕ, ◌+◌, ◌<◌, ◌==◌, ◌&&◌, not, Bool, true, false, List, [], ◌++◌, length, drop, refl, sym, ap, ap₂, ◌∙◌, subst, arith, pos, ◌+ℤ◌}
use Rattle.std.proofs.Math.Seq.{drop-append_seam}
use Rattle.std.proofs.lemmas.Bool.{eqb-true}
use Rattle.syn_rows.specs.Nodes.{has_node}
use Rattle.syn_gain.specs.Leaves.{are_below}
use Rattle.syn_core_laws.specs.declared.View.{View}
use Rattle.syn_core_laws.specs.declared.Seen.{Seen}
use Rattle.syn_core_laws.specs.declared.Change.{Change}
use Rattle.syn_decide.specs.Tasks.{Task}
use Rattle.syn_decide.specs.Decided.{Answer, Answered, Busy}
use Rattle.syn_decide.specs.Fold.{State, after_reads, begin, wants}
use Rattle.syn_decide.specs.Walk.{enters, nodes_of}
use Rattle.syn_commit_laws.specs.Freeing.{late}
use Rattle.syn_commit_laws.proofs.Keeping.{leaf_below}
use Rattle.syn_commit.specs.Committed.{EndsInMiss, FellSince, IsBooked, changes_since, gain_of, met_since, state_since}
use Rattle.syn_commit.specs.Counts.{dying_by}
use Rattle.syn_commit.specs.Walks.{IsOfReads}
use Rattle.syn_commit.proofs.Sole.{busy_cause}

-- the walk enters a root above node 0 that all leaves are below
pub below_enters : (root : ℕ) (leaves : List ℕ) → 0 < root → are_below root leaves ≡ true → enters leaves [] root ≡ true
below_enters root leaves above below = go (root == 0) (has_node leaves root) refl refl
  where
    go : (b c : Bool) → (root == 0) ≡ b → has_node leaves root ≡ c → (not b && (not c && not (has_node (nodes_of []) root))) ≡ true
    go true c e f = let zero_is = eqb-true root 0 e in absurd (omega (arith, above, zero_is))
    go false true e f = let low = leaf_below root leaves root below f in absurd (omega (arith, low))
    go false false e f = refl

-- what was met, and the state after it
met_back : (start v : View) (met : List Seen) → v.reads ≡ start.reads ++ met → met_since start v ≡ met
met_back start v met e = ap (drop (length start.reads)) e ∙ drop-append_seam start.reads met

state_back : (t : Task) (start v : View) (s : State) → IsOfReads t start v s → state_since t start v ≡ s
state_back t start v s o = ap (after_reads t (begin t)) (met_back start v o.met o.reads) ∙ sym o.state

-- the cause of the answer that a node is another seat's
pub busy_caused : (t u : Task) (start old v : View) (s : State) (answer : Answer) (n : ℕ) → t ≡ u → start ≡ old → IsOfReads t start v s → Answered answer ≡ wants s → answer ≡ Busy n → EndsInMiss (met_since old v) n
busy_caused t u start old v s answer n task same o e busy =
    subst (λ (w : View). EndsInMiss (met_since w v) n) same (busy_cause t (met_since start v) n (ap wants (state_back t start v s o) ∙ (sym e ∙ ap Answered busy)))

-- what was stored, and by how much the difference fell
changes_back : (start v : View) (changes : List Change) → v.changes ≡ start.changes ++ changes → changes_since start v ≡ changes
changes_back start v changes e = ap (drop (length start.changes)) e ∙ drop-append_seam start.changes changes

pub fell_since : (t u : Task) (s : State) (answer : Answer) (start old : View) (pool : List ℕ) (v : View) (grown : List ℕ) → t ≡ u → start ≡ old → IsOfReads t start v s → IsBooked t s answer start pool v grown → FellSince u old answer v
fell_since t u s answer start old pool v grown task same o b =
    subst (λ (k : Task). FellSince k old answer v) task
    (subst (λ (w : View). FellSince t w answer v) same
    (ap₂ (λ (y : State) (cs : List Change). v.difference +ℤ pos (gain_of answer + late (dying_by y) cs)) (state_back t start v s o) (changes_back start v b.changes b.since) ∙ b.fell))

-- The fold of reads, one read at a time.
use Rattle.std.proofs.Common.{◌≡◌, ℕ, Bool, true, false, if◌then◌else◌, List, [], ◌∷◌, ◌++◌, Some, None, refl, ap, ap₂, ◌∙◌, eq-eqb, length, nat_lt, ◌&&◌, ◌==◌}
use Rattle.syn_rows.specs.declared.Row.{Row}
use Rattle.syn_core_laws.specs.declared.Seen.{Seen}
use Rattle.syn_core_laws.specs.declared.Seen.TheVariants as seen
use Rattle.syn_decide.specs.declared.decisions.NodeRow.{NodeRow}
use Rattle.syn_decide.specs.Tasks.{Task}
use Rattle.syn_decide.specs.Decided.{Answer, Answered, Unfit}
use Rattle.syn_decide.specs.Fold.{State, Stage, Walking, Keying, Hinting, Counting, Ended, Failed, after_reads, read_one, read_at, read_count, wanted_at, wanted_count, wants, at, failed, read_walking, row_loaded, with_hit, uncounted, placed_now}
use Rattle.syn_decide.specs.Hints.{is_asked, may_hit, most_hits}

-- one read more is one more step, from any state
pub after_snoc : (t : Task) (s : State) (reads : List Seen) (read : Seen) → after_reads t s (reads ++ read ∷ []) ≡ read_one t (after_reads t s reads) read
after_snoc t s [] read = refl
after_snoc t s (r ∷ reads) read = after_snoc t (read_one t s r) reads read

no_answer : (left : List NodeRow) (a : Answer) → wanted_count left ≡ Answered a → ⊥
no_answer [] a e = absurd (cc)
no_answer (r ∷ left) a e = absurd (cc)

answered_at : (t : Task) (s : State) (stage : Stage) (a : Answer) (read : Seen) → wanted_at s stage ≡ Answered a → wants (read_at t s stage read) ≡ Unfit
answered_at t s (Walking []) a read e = absurd (cc)
answered_at t s (Walking (n ∷ ns)) a read e = absurd (cc)
answered_at t s (Keying []) a read e = absurd (cc)
answered_at t s (Keying (n ∷ ns)) a read e = absurd (cc)
answered_at t s (Hinting last) a read e = absurd (no_answer _ a e)
answered_at t s Counting a read e = absurd (no_answer _ a e)
answered_at t s (Ended b) a read e = refl
answered_at t s Failed a read e = refl

-- Behind an answer nothing fits.
pub behind_answer : (t : Task) (s : State) (a : Answer) (read : Seen) → wants s ≡ Answered a → wants (read_one t s read) ≡ Unfit
behind_answer t s a read e = answered_at t s s.stage a read e

key_unfit : (c d : Bool) (s : State) (last : NodeRow) (key : ℕ) → wanted_count (uncounted s) ≡ Unfit → wants (if c then (if d then at (with_hit s last.node last.row key) (Hinting None) else at s (Hinting None)) else failed s) ≡ Unfit
key_unfit true true s last key e = e
key_unfit true false s last key e = e
key_unfit false d s last key e = refl

count_unfit : (t : Task) (s : State) (left : List NodeRow) (n count own : ℕ) → wanted_count left ≡ Unfit → wants (read_count t s left n count own) ≡ Unfit
count_unfit t s [] n count own e = refl
count_unfit t s (r ∷ left) n count own e = absurd (cc)

unfit_at : (t : Task) (s : State) (stage : Stage) (read : Seen) → wanted_at s stage ≡ Unfit → wants (read_at t s stage read) ≡ Unfit
unfit_at t s (Walking []) read e = refl
unfit_at t s (Walking (n ∷ ns)) read e = absurd (cc)
unfit_at t s (Keying []) read e = refl
unfit_at t s (Keying (n ∷ ns)) read e = absurd (cc)
unfit_at t s (Hinting last) (seen.Row n row) e = e
unfit_at t s (Hinting None) (seen.Key n key) e = refl
unfit_at t s (Hinting (Some last)) (seen.Key n key) e = key_unfit ((n == last.node && nat_lt (length s.hits) most_hits) && is_asked (placed_now t s).extra last.row) (may_hit t.proposal.leaves s.high last.node key) s last key e
unfit_at t s (Hinting last) (seen.Miss n) e = e
unfit_at t s (Hinting last) (seen.Count n count own) e = count_unfit t s _ n count own e
unfit_at t s Counting (seen.Row n row) e = refl
unfit_at t s Counting (seen.Key n key) e = refl
unfit_at t s Counting (seen.Miss n) e = refl
unfit_at t s Counting (seen.Count n count own) e = count_unfit t s _ n count own e
unfit_at t s (Ended b) read e = refl
unfit_at t s Failed read e = refl

-- Nor does anything behind reads that don't fit.
pub behind_unfit : (t : Task) (s : State) (read : Seen) → wants s ≡ Unfit → wants (read_one t s read) ≡ Unfit
behind_unfit t s read e = unfit_at t s s.stage read e

-- The walk reads the row of the node that it enters next.
pub walking_row : (t : Task) (s : State) (w : List ℕ) (read : Seen) (n : ℕ) (rest : List ℕ) (node : ℕ) (row : Row) → w ≡ n ∷ rest → read ≡ seen.Row node row → node ≡ n
    → read_walking t s w read ≡ row_loaded t s n row rest
walking_row t s w read n rest node row e h k =
    ap₂ (read_walking t s) e h ∙ ap (λ b. if b then row_loaded t s n row rest else failed s) (eq-eqb node n k)

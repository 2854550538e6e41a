-- Laws of decisions.
use Rattle.std.specs.Prelude.{◌≡◌, ℕ, true, List, [], ◌∷◌, ◌++◌}
use Rattle.syn_core_laws.specs.declared.Seen.{Seen}
use Rattle.syn_decide.specs.declared.decisions.Want.TheVariants as want
use Rattle.syn_decide.specs.Tasks.{Task}
use Rattle.syn_decide.specs.Decided.{Answer, Answered, Next, Unfit}
use Rattle.syn_rows.specs.Nodes.{has_node}
use Rattle.syn_decide.specs.declared.decisions.Counted.{Counted}
use Rattle.syn_decide.specs.Dying.{IsLeastDying, are_distinct, counted_nodes, dying_of}
use Rattle.syn_decide.specs.Fold.{after_reads, begin, decided, read_one, wants}

-- Before the first read the root's row comes next.
abbrev pub EmptyReads : Type 0
EmptyReads = (t : Task) → decided t [] ≡ Next (want.Row t.proposal.root)

-- One read more is one more step.
abbrev pub OneReadMore : Type 0
OneReadMore = (t : Task) (reads : List Seen) (read : Seen) → decided t (reads ++ read ∷ []) ≡ wants (read_one t (after_reads t (begin t) reads) read)

-- Behind an answer no read fits, nor does one behind reads that don't fit.
pub record NothingBehindAnAnswer : Type 0 where
  pub answer : (t : Task) (reads : List Seen) (answer : Answer) (read : Seen) → decided t reads ≡ Answered answer → decided t (reads ++ read ∷ []) ≡ Unfit
  pub unfit : (t : Task) (reads : List Seen) (read : Seen) → decided t reads ≡ Unfit → decided t (reads ++ read ∷ []) ≡ Unfit

-- Of rows of different nodes, those that die are the least set that has the root and that the rule closes: in whatever order the rule is applied, it comes to this set.
abbrev pub DyingAreLeast : Type 0
DyingAreLeast = (hits : List ℕ) (root : Counted) (rows : List Counted) → are_distinct (counted_nodes (root ∷ rows)) ≡ true
    → IsLeastDying hits (root ∷ rows) root.node (λ n. has_node (counted_nodes (dying_of hits (root ∷ rows))) n)

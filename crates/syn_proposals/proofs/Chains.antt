-- A graph in place of another, by a proposal that saves.
use Rattle.std.proofs.Common.{◌≡◌, ℕ, ℤ, pos, ◌+ℤ◌, ◌≤ℤ◌, ◌+◌, ◌≤◌, Bool, List, length, Result, Ok, Err, IfOk, arith}
use Rattle.std.proofs.lemmas.Int.{ints}
use Rattle.syn_graph.specs.declared.Graph.{Graph}
use Rattle.syn_gain.specs.Replacements.{Replacement, SavedBy}
use Rattle.syn_proposals.specs.Closing.{SavesSome}
use Rattle.syn_proposals.specs.Following.{Follows, SameFunction}

-- a graph after a proposal that saves
pub applied_follows : (was now : Graph) (r : Replacement) → SameFunction was now
    → ((s : ℤ) → SavedBy was.rows was.observed r s → (pos (length now.rows) +ℤ s) ≤ℤ pos (length was.rows))
    → SavesSome was.rows was.observed r → Follows was 1 now
unfolding SavesSome
applied_follows was now r same falls some = record {
  same = same;
  count = fewer (length now.rows) (length was.rows) some.0 (falls some.0 some.1) some.2;
}
  where
    fewer : (now was : ℕ) (s : ℤ) → (pos now +ℤ s) ≤ℤ pos was → pos 1 ≤ℤ s → now + 1 ≤ was
    fewer now was s falls some = omega (arith, ints)

-- the same of a result
pub applied_follows_all : {E : Type 0} (was : Graph) (r : Replacement) (next : Result Graph E) → IfOk next (SameFunction was)
    → IfOk next (λ g. (s : ℤ) → SavedBy was.rows was.observed r s → (pos (length g.rows) +ℤ s) ≤ℤ pos (length was.rows))
    → SavesSome was.rows was.observed r → IfOk next (Follows was 1)
applied_follows_all was r (Ok now) same falls some = applied_follows was now r same falls some
applied_follows_all was r (Err e) same falls some = same

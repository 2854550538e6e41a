-- Literals and new rows that name nodes which are there.
use Rattle.std.proofs.Common.{◌≡◌, ℕ, zero, suc, ◌+◌, ◌<◌, ◌≤◌, All, List, [], ◌∷◌, ◌++◌, length, get_or, sym, subst, arith, inl, inr}
use Rattle.std.proofs.lemmas.Bool.{cases_lt}
use Rattle.std.proofs.lemmas.List.{get_or_past}
use Rattle.std.proofs.lemmas.List.Elements.{All-cons, All-nil, All-push, All-same, All-weaker}
use Rattle.syn_rows.specs.declared.Lit.{Lit}
use Rattle.syn_rows.specs.declared.Row.{Row}
use Rattle.syn_rows.specs.declared.Row.TheVariants.{Free}
use Rattle.syn_rows.specs.declared.TheConstants.{NODE_LIMIT}
use Rattle.syn_rows.specs.Rows.{node_of, AllRefs}
use Rattle.syn_rows.specs.Joining.{constant, lit_of}
use Rattle.syn_plan.specs.declared.PLit.{PLit}
use Rattle.syn_gain.specs.Lookups.{ArePlaced}
use Rattle.syn_gain.specs.Placing.{leaf_literals, literal_for}
use Rattle.syn_gain.proofs.Bounds.{leaf_in, literal_in}

-- the constant and leaves that are there, before any gate
pub begun_placed : (first count : ℕ) (leaves : List ℕ) (begun : List Lit) → begun ≡ constant ∷ leaf_literals count leaves → 0 < first → first ≤ NODE_LIMIT → ((i : ℕ) → i < length leaves → get_or leaves i 0 < first) → ArePlaced first begun []
begun_placed first count leaves begun is some few all = record {
  some = some;
  few = few;
  literals_there = All-same P begun (constant ∷ leaf_literals count leaves) is (All-cons P constant (leaf_literals count leaves) (omega (arith, some)) (leaves_there count));
  rows_new = λ i. subst (AllRefs (λ m. m < first + i)) (sym (get_or_past [] i Free (omega arith))) tt;
}
  where
    P : Lit → Type 0
    P l = node_of l < first + length {A = Row} []

    leaves_there : (n : ℕ) → All P (leaf_literals n leaves)
    leaves_there zero = All-nil P
    leaves_there (suc n) = All-push P (leaf_literals n leaves) (lit_of (get_or leaves n 0)) (leaves_there n) (omega (arith, leaf_in first leaves some all n))

-- a plan's literal becomes one of such a node
pub literal_under : (bound : ℕ) (literals : List Lit) (l : PLit) → 0 < bound → All (λ x. node_of x < bound) literals → node_of (literal_for literals l) < bound
literal_under bound literals l some all = literal_in (λ m. m < bound) literals l at
  where
    at : (i : ℕ) → node_of (get_or literals i constant) < bound
    at i = elim (cases_lt i (length literals)) [
      | inl lt ↦ all i constant lt
      | inr ge ↦ subst (λ (x : Lit). node_of x < bound) (sym (get_or_past literals i constant ge)) (omega (arith, some))
    ]

-- one literal more, where the new rows have grown
pub literals_push : (first more : ℕ) (literals : List Lit) (extra : List Row) (l : Lit) → All (λ x. node_of x < first + length extra) literals → length extra ≤ more → node_of l < first + more → All (λ x. node_of x < first + more) (literals ++ l ∷ [])
literals_push first more literals extra l all grows there =
    All-push (λ x. node_of x < first + more) literals l (All-weaker (λ x. node_of x < first + length extra) (λ x. node_of x < first + more) (λ x h. omega (arith, h, grows)) literals all) there

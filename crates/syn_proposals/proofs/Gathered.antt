-- Leftovers, span after span; and what follows of them.
use Rattle.std.proofs.Common.{◌≡◌, ℕ, zero, suc, ◌+◌, ◌-◌, ◌<◌, ◌≤◌, true, All, List, [], ◌∷◌, ◌++◌, append-nil, append_assoc, length, map, Option, Some, None, refl, sym, ap, ◌∙◌, subst, arith, inl, inr}
use Rattle.std.specs.Prelude.{option_map, option_to_list, IfSome}
use Rattle.std.proofs.lemmas.Bool.{cases_eq}
use Rattle.std.proofs.lemmas.List.{get_or-map, get_or_append_left, get_or_push, length-map, length_push, map-append}
use Rattle.syn_rows.specs.declared.Lit.{Lit}
use Rattle.syn_rows.specs.declared.Row.{Row}
use Rattle.syn_rows.specs.Rows.{row_at}
use Rattle.syn_rows.specs.Reach.{is_and}
use Rattle.syn_graph.specs.declared.Graph.{Graph}
use Rattle.syn_gain.specs.declared.proposals.Proposal.{Proposal}
use Rattle.syn_gain.specs.Proposals.{replacement}
use Rattle.syn_gain.specs.Replacements.{Replacement}
use Rattle.syn_gain.proofs.Owning.{root_there}
use Rattle.syn_proposals.specs.Closing.{SavesNothing, IsFirst, IsFirstOf}
use Rattle.syn_proposals.specs.Leftovers.{AreFirst, AreLeftovers, IsAddedBy, listed}
use Rattle.syn_proposals.specs.Sound.{IsLeftover, IsSound}
use Rattle.syn_proposals.proofs.Maps.{none_found, with_found}

-- one node more
one_more : (rows : List Row) (observed : List Lit) (proposals : ℕ → List Replacement) (at : ℕ → ℕ) (from n : ℕ) (ps qs : List Proposal) (last : Option Proposal)
    → AreLeftovers rows observed proposals at from n (map replacement ps) → IsAddedBy rows observed proposals (at (from + n)) (option_map replacement last)
    → qs ≡ ps ++ option_to_list last → AreLeftovers rows observed proposals at from (suc n) (map replacement qs)
one_more rows observed proposals at from n ps qs last before added is = (
  map replacement ps,
  option_map replacement last,
  before,
  added,
  ap (map replacement) is ∙ map-append replacement ps (option_to_list last) ∙ ap (λ (rs : List Replacement). map replacement ps ++ rs) (of_option last),
)
  where
    of_option : (o : Option Proposal) → map replacement (option_to_list o) ≡ option_to_list (option_map replacement o)
    of_option None = refl
    of_option (Some p) = refl

-- the same, told by the node's place
pub one_node : (rows : List Row) (observed : List Lit) (proposals : ℕ → List Replacement) (at : ℕ → ℕ) (from place : ℕ) (ps qs : List Proposal) (last : Option Proposal) → from ≤ place
    → AreLeftovers rows observed proposals at from (place - from) (map replacement ps) → IsAddedBy rows observed proposals (at place) (option_map replacement last)
    → qs ≡ ps ++ option_to_list last → AreLeftovers rows observed proposals at from (place + 1 - from) (map replacement qs)
one_node rows observed proposals at from place ps qs last le before added is =
    let here : place ≡ from + (place - from) = omega arith in
    let next : suc (place - from) ≡ place + 1 - from = omega arith in
    subst (λ k. AreLeftovers rows observed proposals at from k (map replacement qs)) next
    (one_more rows observed proposals at from (place - from) ps qs last before (subst (λ k. IsAddedBy rows observed proposals (at k) (option_map replacement last)) here added) is)

-- the same nodes told in another way
pub at_same : (rows : List Row) (observed : List Lit) (proposals : ℕ → List Replacement) (at to : ℕ → ℕ) (from n : ℕ) (all : List Replacement)
    → ((k : ℕ) → k < from + n → at k ≡ to k) → AreLeftovers rows observed proposals at from n all → AreLeftovers rows observed proposals to from n all
at_same rows observed proposals at to from zero all same h = h
at_same rows observed proposals at to from (suc n) all same (before, last, h, added, is) = (
  before,
  last,
  at_same rows observed proposals at to from n before (λ k lt. same k (omega arith)) h,
  subst (λ k. IsAddedBy rows observed proposals k last) (same (from + n) (omega arith)) added,
  is,
)

-- the first nodes with the next one
pub first_with_next : (n : ℕ) (xs ys : List ℕ) → ys ≡ xs ++ n ∷ [] → AreFirst n xs → AreFirst (n + 1) ys
first_with_next n xs ys is (long, same) = (ap length is ∙ length_push xs n ∙ ap (λ k. k + 1) long, at)
  where
    at : (k : ℕ) → k < n + 1 → listed ys k ≡ k
    at k lt = ap (λ (zs : List ℕ). listed zs k) is ∙ elim (cases_eq k n) [
      | inl e ↦ get_or_push xs n 0 k (long ∙ sym e) ∙ sym e
      | inr ne ↦ get_or_append_left xs (n ∷ []) 0 k (omega (arith, long)) ∙ same k (omega arith)
    ]

-- a node behind the rows adds nothing
pub none_behind : (graph : Graph) (proposals : ℕ → List Replacement) (node : ℕ) → length graph.rows ≤ node → IsAddedBy graph.rows graph.observed proposals node None
none_behind graph proposals node behind gate = absurd (let there = root_there graph node gate in omega (arith, behind, there))

-- nodes behind others
joined : (rows : List Row) (observed : List Lit) (proposals : ℕ → List Replacement) (at : ℕ → ℕ) (from n m : ℕ) (xs ys : List Replacement)
    → AreLeftovers rows observed proposals at from n xs → AreLeftovers rows observed proposals at (from + n) m ys → AreLeftovers rows observed proposals at from (n + m) (xs ++ ys)
joined rows observed proposals at from n zero xs ys first is =
    let same : n ≡ n + zero = omega arith in
    subst (λ k. AreLeftovers rows observed proposals at from k (xs ++ ys)) same
    (subst (AreLeftovers rows observed proposals at from n) (sym (ap (λ (zs : List Replacement). xs ++ zs) is ∙ append-nil xs)) first)
joined rows observed proposals at from n (suc m) xs ys first (before, last, h, added, is) =
    let same : suc (n + m) ≡ n + suc m = omega arith in
    let here : from + n + m ≡ from + (n + m) = omega arith in
    subst (λ k. AreLeftovers rows observed proposals at from k (xs ++ ys)) same (
      xs ++ before,
      last,
      joined rows observed proposals at from n m xs before first h,
      subst (λ k. IsAddedBy rows observed proposals (at k) last) here added,
      ap (λ (zs : List Replacement). xs ++ zs) is ∙ sym (append_assoc xs before (option_to_list last)),
    )

-- a span of nodes behind the first ones
pub with_span : (rows : List Row) (observed : List Lit) (proposals : ℕ → List Replacement) (at : ℕ → ℕ) (mid to : ℕ) (ps qs all : List Proposal) → mid ≤ to
    → AreLeftovers rows observed proposals at 0 mid (map replacement ps) → AreLeftovers rows observed proposals at mid (to - mid) (map replacement qs)
    → all ≡ ps ++ qs → AreLeftovers rows observed proposals at 0 to (map replacement all)
with_span rows observed proposals at mid to ps qs all le first second is =
    let whole : mid + (to - mid) ≡ to = omega arith in
    let start : mid ≡ 0 + mid = omega arith in
    subst (λ k. AreLeftovers rows observed proposals at 0 k (map replacement all)) whole
    (subst (AreLeftovers rows observed proposals at 0 (mid + (to - mid))) (sym (ap (map replacement) is ∙ map-append replacement ps qs))
    (joined rows observed proposals at 0 mid (to - mid) (map replacement ps) (map replacement qs) first
    (subst (λ k. AreLeftovers rows observed proposals at k (to - mid) (map replacement qs)) start second)))

-- where there is none, no node has one
pub none_left : (rows : List Row) (observed : List Lit) (proposals : ℕ → List Replacement) (from n : ℕ) (all : List Replacement) → length all ≡ 0
    → AreLeftovers rows observed proposals (λ k. k) from n all → (m : ℕ) → from ≤ m → m < from + n → is_and (row_at rows m) ≡ true → All (SavesNothing rows observed) (proposals m)
none_left rows observed proposals from zero all empty h m low high gate = absurd (omega arith)
none_left rows observed proposals from (suc n) all empty (before, last, h, added, is) m low high gate =
    let both = none_found before all last is empty in
    elim (cases_eq m (from + n)) [
      | inr ne ↦ none_left rows observed proposals from n before both.0 h m low (omega arith) gate
      | inl e ↦ subst (λ k. All (SavesNothing rows observed) (proposals k)) (sym e)
          (subst (IsAddedBy rows observed proposals (from + n)) both.1 added (subst (λ k. is_and (row_at rows k) ≡ true) e gate))
    ]

-- what a node adds is the first of its root's
of_node : (rows : List Row) (observed : List Lit) (proposals : ℕ → List Replacement) (node : ℕ) (o : Option Replacement) → IsAddedBy rows observed proposals node o → IfSome o (IsFirstOf rows observed proposals)
of_node rows observed proposals node None h = tt
of_node rows observed proposals node (Some r) (gate, root, first) = record {
  gate = subst (λ k. is_and (row_at rows k) ≡ true) (sym root) gate;
  first = subst (λ k. IsFirst rows observed (proposals k) r) (sym root) first;
}

-- each of them is the first of its root's
firsts : (rows : List Row) (observed : List Lit) (proposals : ℕ → List Replacement) (at : ℕ → ℕ) (from n : ℕ) (all : List Replacement)
    → AreLeftovers rows observed proposals at from n all → All (IsFirstOf rows observed proposals) all
firsts rows observed proposals at from zero all is = subst (All (IsFirstOf rows observed proposals)) (sym is) (λ k d lt. absurd (omega arith))
firsts rows observed proposals at from (suc n) all (before, last, h, added, is) =
    with_found (IsFirstOf rows observed proposals) before all last is (firsts rows observed proposals at from n before h) (of_node rows observed proposals (at (from + n)) last added)

-- and so each is left over, where all are sound
pub each_left : (rows : List Row) (observed : List Lit) (proposals : ℕ → List Replacement) (at : ℕ → ℕ) (from n : ℕ) (ps : List Proposal)
    → AreLeftovers rows observed proposals at from n (map replacement ps) → All (IsSound rows) ps → All (IsLeftover rows observed proposals) ps
each_left rows observed proposals at from n ps all sound k d lt = record {
  first = subst (IsFirstOf rows observed proposals) (get_or-map replacement ps k d (replacement d) lt)
      (firsts rows observed proposals at from n (map replacement ps) all k (replacement d) (let long = length-map ps replacement in omega (arith, lt, long)));
  sound = sound k d lt;
}

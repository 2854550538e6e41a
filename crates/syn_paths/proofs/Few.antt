-- The leaves of a search that is done are no more than the paths.
use Rattle.std.proofs.Common.{◌≡◌, ◌≢◌, ℕ, suc, ◌≤◌, true, false, List, [], ◌∷◌, length, refl, sym, ap, ◌∙◌, subst, inl, inr, arith}
use Rattle.std.proofs.lemmas.Bool.{both_ways}
use Rattle.syn_rows.specs.declared.Row.{Row}
use Rattle.syn_paths.specs.declared.places.Next.{Next}
use Rattle.syn_paths.specs.declared.places.Next.TheVariants.{Off}
use Rattle.syn_paths.specs.declared.places.Place.TheVariants.{In, Out}
use Rattle.syn_rows.specs.Nodes.{has_node}
use Rattle.syn_cones.specs.Cones.{is_end}
use Rattle.syn_lists.specs.Numbers.{distinct_numbers}
use Rattle.syn_paths.specs.Augmenting.{IsFlow}
use Rattle.syn_paths.specs.Searching.{is_seen, next_at, State}
use Rattle.syn_paths.specs.Listing.{AreLists, GoesUp, IsListFrom}
use Rattle.syn_rows.proofs.Nodes.{has_left, has_right, here_or_there}
use Rattle.syn_paths.proofs.Listed.{on_lists}
use Rattle.syn_paths.proofs.Cutting.{IsDone}
use Rattle.syn_paths.proofs.Leaves.{off_entered, one_leaf}
use Rattle.syn_paths.proofs.Numbers.{flat, HaveOne, no_more}

abbrev pub IsLeaf : State → ℕ → ℕ → Type 0
IsLeaf s stamp v = (is_seen s.ins s.outs stamp (Out v) ≡ true) × (is_seen s.ins s.outs stamp (In v) ≡ false)

pub same_list : (next : List Next) (v : ℕ) (path other : List ℕ) → IsListFrom next v path → IsListFrom next v other → path ≡ other
same_list next v [] [] a b = refl
same_list next v [] (w ∷ other) a b = absurd (cc (a, b.0))
same_list next v (w ∷ path) [] a b = absurd (cc (a.0, b))
same_list next v (w ∷ path) (x ∷ other) a b =
    let e : x ≡ w = cc (a.0, b.0) in
    ap (λ (l : List ℕ). w ∷ l) (same_list next w path other a.1 (subst (λ k. IsListFrom next k other) e b.1)) ∙ ap (λ k. k ∷ other) (sym e)

in_flat : (next : List Next) (sources : List ℕ) (lists : List (List ℕ)) → AreLists next sources lists → (s : ℕ) (path : List ℕ) (v : ℕ) → has_node sources s ≡ true → IsListFrom next s path → has_node (s ∷ path) v ≡ true → has_node (flat lists) v ≡ true
in_flat next [] lists are s path v h from on = absurd (both_ways false refl h)
in_flat next (x ∷ sources) [] are s path v h from on = absurd are
in_flat next (x ∷ sources) (list ∷ lists) ((own, is, onto), more) s path v h from on = elim (here_or_there x s sources h) [
  | inl e ↦
      let onto2 : IsListFrom next s own = subst (λ k. IsListFrom next k own) (sym e) onto in
      let same : s ∷ path ≡ list = ap (λ (l : List ℕ). s ∷ l) (same_list next s path own from onto2) ∙ ap (λ k. k ∷ own) e ∙ sym is in
      has_left list (flat lists) v (subst (λ l. has_node l v ≡ true) same on)
  | inr t ↦ has_right list (flat lists) v (in_flat next sources lists more s path v t from on)
]

have_one : (rows : List Row) (next : List Next) (starts : List ℕ) (stamp : ℕ) (s : State) → IsDone rows next starts stamp s → (sources : List ℕ) (lists : List (List ℕ)) → AreLists next sources lists → HaveOne (IsLeaf s stamp) lists
have_one rows next starts stamp s w [] [] are = are
have_one rows next starts stamp s w [] (list ∷ lists) are = absurd are
have_one rows next starts stamp s w (v ∷ sources) [] are = absurd are
have_one rows next starts stamp s w (v ∷ sources) (list ∷ lists) ((path, is, from), more) = (
  λ x y lx ly hx hy. one_leaf rows next starts stamp s w v path from x y (subst (λ l. has_node l x ≡ true) is hx) (subst (λ l. has_node l y ≡ true) is hy) lx.0 lx.1 ly.0 ly.1,
  have_one rows next starts stamp s w sources lists more,
)

pub leaves_few : (rows : List Row) (InSet : ℕ → Type 0) (next : List Next) (starts : List ℕ) (stamp : ℕ) (s : State) (sources : List ℕ) (lists : List (List ℕ)) (leaves : List ℕ) → IsFlow rows InSet (next_at next) → GoesUp next
    → IsDone rows next starts stamp s → AreLists next sources lists → ((v : ℕ) → is_end rows v ≡ true → next_at next v ≢ Off → has_node sources v ≡ true) → distinct_numbers leaves ≡ true
    → ((v : ℕ) → has_node leaves v ≡ true → IsLeaf s stamp v) → length leaves ≤ length lists
leaves_few rows InSet next starts stamp s sources lists leaves flow up w are each once leaf =
    no_more (IsLeaf s stamp) leaves lists once (have_one rows next starts stamp s w sources lists are) leaf (λ v h.
    let l = leaf v h in
    let at = on_lists rows InSet next flow up sources lists are each (suc v) v (omega arith) (λ off. both_ways (is_seen s.ins s.outs stamp (In v)) l.1 (off_entered rows next starts stamp s w v l.0 off)) in
    in_flat next sources lists are at.0 at.1 v at.2 at.3 at.4)

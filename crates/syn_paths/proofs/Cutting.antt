-- Where a search finds no source, what it reached and didn't enter is a cut.
use Rattle.std.proofs.Common.{◌≡◌, ℕ, ◌<◌, true, false, List, [], ◌∷◌, map, refl, sym, subst, inl, inr, arith}
use Rattle.std.specs.List.{list_any}
use Rattle.std.proofs.lemmas.Bool.{both_ways, cases_Bool, cases_eq, or_left, or_right}
use Rattle.syn_rows.specs.declared.Row.{Row}
use Rattle.syn_paths.specs.declared.places.Next.{Next}
use Rattle.syn_paths.specs.declared.places.Place.{Place}
use Rattle.syn_paths.specs.declared.places.Place.TheVariants.{In, Out}
use Rattle.syn_rows.specs.Nodes.{has_node}
use Rattle.syn_rows.specs.Rows.{InOrder}
use Rattle.syn_cones.specs.Cones.{is_end, LeadsToSource, Refers, refs_at}
use Rattle.syn_paths.specs.Tops.{IsInTop}
use Rattle.syn_paths.specs.LeastCuts.{IsCutOutside}
use Rattle.syn_paths.specs.Augmenting.{has_place}
use Rattle.syn_paths.specs.Tops.{label_in}
use Rattle.syn_paths.specs.Tops.{FallsBelow}
use Rattle.syn_paths.specs.Searching.{before, is_seen, IsSearching, IsStart, next_at, node_at, own_out, State, state}
use Rattle.syn_paths.specs.Adding.{ArePaths, AreStarts}
use Rattle.syn_paths.proofs.Falling.{refers_below}
use Rattle.syn_paths.proofs.Checked.{cone_on, top_below, top_cone}
use Rattle.syn_paths.proofs.Searched.{out_here, place_right, trail_of}
use Rattle.syn_paths.proofs.Found.{low_at}
use Rattle.syn_paths.proofs.Added.{are_low, IsLow, low_out, Top}

-- the search is done: nothing waits
abbrev pub IsDone : List Row → List Next → List ℕ → ℕ → State → Type 0
IsDone rows next starts stamp s = IsSearching rows next (IsStart starts) stamp (state s.ins s.outs s.trail []) []

-- all that comes before a marked place is marked
pub done_closed : (rows : List Row) (next : List Next) (starts : List ℕ) (stamp : ℕ) (s : State) → IsDone rows next starts stamp s → (p q : Place) → is_seen s.ins s.outs stamp p ≡ true → has_place (before rows next p) q ≡ true
    → is_seen s.ins s.outs stamp q ≡ true
done_closed rows next starts stamp s w p q seen h =
    let at = w.stands p seen in
    elim (w.closed at.0 at.1) [
      | inl none ↦ absurd (both_ways false refl none)
      | inr f ↦ elim (f q (subst (λ k. has_place (before rows next k) q ≡ true) (sym at.2) h)) [ inl there ↦ there | inr none ↦ absurd (both_ways false refl none) ]
    ]

-- what an entered node refers to is reached
pub refs_reached : (rows : List Row) (next : List Next) (starts : List ℕ) (stamp : ℕ) (s : State) → IsDone rows next starts stamp s → (x m : ℕ) → is_seen s.ins s.outs stamp (In x) ≡ true → Refers rows x m → is_seen s.ins s.outs stamp (Out m) ≡ true
refs_reached rows next starts stamp s w x m seen r =
    done_closed rows next starts stamp s w (In x) (Out m) seen (place_right (own_out x (next_at next x)) (map Out (refs_at rows x)) (Out m) (out_here (refs_at rows x) m r))

-- and so is what the top refers to outside it
pub start_reached : (rows : List Row) (next : List Next) (starts : List ℕ) (stamp : ℕ) (s : State) → IsDone rows next starts stamp s → (v : ℕ) → IsStart starts v → is_seen s.ins s.outs stamp (Out v) ≡ true
start_reached rows next starts stamp s w v h = elim (w.begun v h) [ inl there ↦ there | inr none ↦ absurd (both_ways false refl none) ]

-- no source is entered
none_entered : (rows : List Row) (next : List Next) (starts : List ℕ) (stamp : ℕ) (s : State) → IsDone rows next starts stamp s → (v : ℕ) → is_end rows v ≡ true → is_seen s.ins s.outs stamp (In v) ≡ true → ⊥
none_entered rows next starts stamp s w v source seen = let at = w.stands (In v) seen in both_ways false refl (w.inner at.0 v at.1 at.2 source)

-- the leaves: reached, and not entered
pub record AreLeaves (s : State) (stamp : ℕ) (leaves : List ℕ) : Type 0 where
  pub all : (v : ℕ) → is_seen s.ins s.outs stamp (Out v) ≡ true → is_seen s.ins s.outs stamp (In v) ≡ false → has_node leaves v ≡ true
  pub reached : (v : ℕ) → has_node leaves v ≡ true → is_seen s.ins s.outs stamp (Out v) ≡ true

from_entered : (rows : List Row) (next : List Next) (starts : List ℕ) (stamp : ℕ) (s : State) (leaves : List ℕ) → IsDone rows next starts stamp s → AreLeaves s stamp leaves → (x : ℕ) (path : List ℕ) → is_seen s.ins s.outs stamp (In x) ≡ true
    → LeadsToSource rows x path → list_any (has_node leaves) path ≡ true
from_entered rows next starts stamp s leaves w l x [] seen source = absurd (none_entered rows next starts stamp s w x source seen)
from_entered rows next starts stamp s leaves w l x (m ∷ path) seen (r, down) = elim (cases_Bool (is_seen s.ins s.outs stamp (In m))) [
  | inl inner ↦ or_right (has_node leaves m) (list_any (has_node leaves) path) (from_entered rows next starts stamp s leaves w l m path inner down)
  | inr outer ↦ or_left (has_node leaves m) (list_any (has_node leaves) path) (l.all m (refs_reached rows next starts stamp s w x m seen r) outer)
]

from_top : (rows : List Row) (labels : List ℕ) (root level : ℕ) (next : List Next) (starts : List ℕ) (stamp : ℕ) (s : State) (leaves : List ℕ) → InOrder rows → AreStarts rows labels root level starts
    → ((t : ℕ) → IsInTop rows (label_in labels) root level t → is_end rows t ≡ false) → IsDone rows next starts stamp s → AreLeaves s stamp leaves
    → (x : ℕ) (path : List ℕ) → IsInTop rows (label_in labels) root level x → LeadsToSource rows x path → list_any (has_node leaves) path ≡ true
from_top rows labels root level next starts stamp s leaves order st away w l x [] top source = absurd (both_ways (is_end rows x) (away x top) source)
from_top rows labels root level next starts stamp s leaves order st away w l x (m ∷ path) top (r, down) = elim (cases_eq (label_in labels m) level) [
  | inl same ↦ or_right (has_node leaves m) (list_any (has_node leaves) path)
      (from_top rows labels root level next starts stamp s leaves order st away w l m path (inr (same, cone_on rows root x m (top_cone rows (label_in labels) root level x top) r)) down)
  | inr other ↦
      let less : m < root = omega (arith, refers_below rows x m order r, top_below rows (label_in labels) root level x order top) in
      let reached = start_reached rows next starts stamp s w m (st.all x m top r (outside less other)) in
      elim (cases_Bool (is_seen s.ins s.outs stamp (In m))) [
        | inl inner ↦ or_right (has_node leaves m) (list_any (has_node leaves) path) (from_entered rows next starts stamp s leaves w l m path inner down)
        | inr outer ↦ or_left (has_node leaves m) (list_any (has_node leaves) path) (l.all m reached outer)
      ]
]
  where
    outside : m < root → (label_in labels m ≡ level → ⊥) → IsInTop rows (label_in labels) root level m → ⊥
    outside less other (inl e) = omega (arith, less, e)
    outside less other (inr (at, cone)) = other at

-- The leaves are a cut outside the top.
pub leaves_cut : (rows : List Row) (labels : List ℕ) (root level : ℕ) (next : List Next) (starts : List ℕ) (stamp : ℕ) (s : State) (leaves : List ℕ) → InOrder rows → FallsBelow rows (label_in labels) root
    → AreStarts rows labels root level starts → ArePaths rows labels root level next → ((t : ℕ) → IsInTop rows (label_in labels) root level t → is_end rows t ≡ false) → IsDone rows next starts stamp s → AreLeaves s stamp leaves
    → IsCutOutside rows (label_in labels) root level leaves
leaves_cut rows labels root level next starts stamp s leaves order falls st p away w l = record {
  cut = λ path down. or_right (has_node leaves root) (list_any (has_node leaves) path) (from_top rows labels root level next starts stamp s leaves order st away w l root path (inl refl) down);
  outside = λ m h top.
      let at = w.stands (Out m) (l.reached m h) in
      let low = low_at rows next (Top rows labels root level) (IsStart starts) (IsLow labels root level) s.trail (are_low rows labels root level next starts order falls st p) (trail_of rows next (IsStart starts) stamp (state s.ins s.outs s.trail []) [] w) at.0 at.1 in
      let here : IsLow labels root level m = subst (λ k. IsLow labels root level (node_at k)) at.2 low in
      low_out rows labels root level m here.0 here.1 top;
}

-- At most one leaf of a search that is done stands on each path.
use Rattle.std.proofs.Common.{◌≡◌, ◌≢◌, ℕ, true, false, List, [], ◌∷◌, map, refl, sym, ◌∙◌, subst, inl, inr}
use Rattle.std.proofs.lemmas.Bool.{both_ways}
use Rattle.syn_rows.specs.declared.Row.{Row}
use Rattle.syn_paths.specs.declared.places.Next.{Next}
use Rattle.syn_paths.specs.declared.places.Next.TheVariants.{Off, Last, To}
use Rattle.syn_paths.specs.declared.places.Place.TheVariants.{In, Out}
use Rattle.syn_rows.specs.Nodes.{has_node}
use Rattle.syn_cones.specs.Cones.{refs_at}
use Rattle.syn_paths.specs.Augmenting.{has_place}
use Rattle.syn_paths.specs.Searching.{into_out, is_seen, next_at, own_out, State}
use Rattle.syn_paths.specs.Listing.{IsListFrom}
use Rattle.syn_rows.proofs.Nodes.{here_or_there}
use Rattle.syn_paths.proofs.Searched.{place_head, place_left}
use Rattle.syn_paths.proofs.Cutting.{done_closed, IsDone}

-- reached, and on no path: entered
pub off_entered : (rows : List Row) (next : List Next) (starts : List ℕ) (stamp : ℕ) (s : State) → IsDone rows next starts stamp s → (v : ℕ) → is_seen s.ins s.outs stamp (Out v) ≡ true → next_at next v ≡ Off → is_seen s.ins s.outs stamp (In v) ≡ true
off_entered rows next starts stamp s w v seen off =
    done_closed rows next starts stamp s w (Out v) (In v) seen (subst (λ k. has_place (into_out v k) (In v) ≡ true) (sym off) (place_head (In v) []))

-- what follows a reached node is entered
pub next_entered : (rows : List Row) (next : List Next) (starts : List ℕ) (stamp : ℕ) (s : State) → IsDone rows next starts stamp s → (v x : ℕ) → is_seen s.ins s.outs stamp (Out v) ≡ true → next_at next v ≡ To x → is_seen s.ins s.outs stamp (In x) ≡ true
next_entered rows next starts stamp s w v x seen to =
    done_closed rows next starts stamp s w (Out v) (In x) seen (subst (λ k. has_place (into_out v k) (In x) ≡ true) (sym to) (place_head (In x) []))

-- an entered node on a path is reached
own_has : (v : ℕ) (behind : Next) → behind ≢ Off → has_place (own_out v behind) (Out v) ≡ true
own_has v Off on = absurd (on refl)
own_has v Last on = place_head (Out v) []
own_has v (To w) on = place_head (Out v) []

pub own_reached : (rows : List Row) (next : List Next) (starts : List ℕ) (stamp : ℕ) (s : State) → IsDone rows next starts stamp s → (v : ℕ) → is_seen s.ins s.outs stamp (In v) ≡ true → next_at next v ≢ Off → is_seen s.ins s.outs stamp (Out v) ≡ true
own_reached rows next starts stamp s w v seen on =
    done_closed rows next starts stamp s w (In v) (Out v) seen (place_left (own_out v (next_at next v)) (map Out (refs_at rows v)) (Out v) (own_has v (next_at next v) on))

on_list : (next : List Next) (v : ℕ) (path : List ℕ) → IsListFrom next v path → next_at next v ≢ Off
on_list next v [] last e = cc (e, last)
on_list next v (w ∷ path) from e = cc (e, from.0)

-- behind a reached node of a path all are entered, so none is a leaf
pub rest_entered : (rows : List Row) (next : List Next) (starts : List ℕ) (stamp : ℕ) (s : State) → IsDone rows next starts stamp s → (v : ℕ) (path : List ℕ) → IsListFrom next v path → is_seen s.ins s.outs stamp (Out v) ≡ true
    → (x : ℕ) → has_node path x ≡ true → is_seen s.ins s.outs stamp (In x) ≡ true
rest_entered rows next starts stamp s w v [] last seen x h = absurd (both_ways false refl h)
rest_entered rows next starts stamp s w v (y ∷ path) (to, rest) seen x h =
    let entered = next_entered rows next starts stamp s w v y seen to in
    elim (here_or_there y x path h) [
      | inl e ↦ subst (λ k. is_seen s.ins s.outs stamp (In k) ≡ true) (sym e) entered
      | inr t ↦ rest_entered rows next starts stamp s w y path rest (own_reached rows next starts stamp s w y entered (on_list next y path rest)) x t
    ]

-- two leaves on one path are the same
pub one_leaf : (rows : List Row) (next : List Next) (starts : List ℕ) (stamp : ℕ) (s : State) → IsDone rows next starts stamp s → (v : ℕ) (path : List ℕ) → IsListFrom next v path
    → (x y : ℕ) → has_node (v ∷ path) x ≡ true → has_node (v ∷ path) y ≡ true → is_seen s.ins s.outs stamp (Out x) ≡ true → is_seen s.ins s.outs stamp (In x) ≡ false
    → is_seen s.ins s.outs stamp (Out y) ≡ true → is_seen s.ins s.outs stamp (In y) ≡ false → x ≡ y
one_leaf rows next starts stamp s w v [] last x y hx hy outx inx outy iny = elim (here_or_there v x [] hx) [
  | inl ex ↦ elim (here_or_there v y [] hy) [ inl ey ↦ ex ∙ sym ey | inr ty ↦ absurd (both_ways false refl ty) ]
  | inr tx ↦ absurd (both_ways false refl tx)
]
one_leaf rows next starts stamp s w v (z ∷ path) from x y hx hy outx inx outy iny = elim (here_or_there v x (z ∷ path) hx) [
  | inl ex ↦ elim (here_or_there v y (z ∷ path) hy) [
    | inl ey ↦ ex ∙ sym ey
    | inr ty ↦ absurd (both_ways (is_seen s.ins s.outs stamp (In y)) iny (rest_entered rows next starts stamp s w v (z ∷ path) from (subst (λ k. is_seen s.ins s.outs stamp (Out k) ≡ true) ex outx) y ty))
  ]
  | inr tx ↦ elim (here_or_there v y (z ∷ path) hy) [
    | inl ey ↦ absurd (both_ways (is_seen s.ins s.outs stamp (In x)) inx (rest_entered rows next starts stamp s w v (z ∷ path) from (subst (λ k. is_seen s.ins s.outs stamp (Out k) ≡ true) ey outy) x tx))
    | inr ty ↦ one_leaf rows next starts stamp s w z path from.1 x y tx ty outx inx outy iny
  ]
]

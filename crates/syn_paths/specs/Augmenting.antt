-- Disjoint paths as steps from node to node, and one path more (Ford and Fulkerson; nodes split in two, so that no node is used twice).
use Rattle.std.specs.Prelude.{◌≡◌, ◌≢◌, ◌⊎◌, ℕ, ◌==◌, ◌||◌, if◌then◌else◌, Bool, true, false, List, [], ◌∷◌, ⊤}
use Rattle.syn_rows.specs.declared.Row.{Row}
use Rattle.syn_paths.specs.declared.places.Next.{Next}
use Rattle.syn_paths.specs.declared.places.Next.TheVariants.{Off, Last, To}
use Rattle.syn_paths.specs.declared.places.Place.{Place}
use Rattle.syn_paths.specs.declared.places.Place.TheVariants.{In, Out}
use Rattle.syn_rows.specs.Rows.{InOrder}
use Rattle.syn_cones.specs.Cones.{is_end, Refers}

-- Steps that are disjoint paths from sources into a set: each goes to a node that refers to this one and goes on, none to a node twice; the last node is one that the set refers to; each node on a path is a source or follows another; none is in the set.
pub record IsFlow (rows : List Row) (InSet : ℕ → Type 0) (next : ℕ → Next) : Type 0 where
  pub outside : (v : ℕ) → next v ≢ Off → InSet v → ⊥
  pub refers : (v w : ℕ) → next v ≡ To w → Refers rows w v
  pub goes_on : (v w : ℕ) → next v ≡ To w → next w ≢ Off
  pub once : (v w x : ℕ) → next v ≡ To x → next w ≡ To x → v ≡ w
  pub last : (v : ℕ) → next v ≡ Last → (t : ℕ) × InSet t × Refers rows t v
  pub fed : (v : ℕ) → next v ≢ Off → (is_end rows v ≡ true) ⊎ ((u : ℕ) × (next u ≡ To v))

-- Where it may go from there: through a node that is on no path; into one that refers to this one; back along a step, whose node looks for another way; or back through a node, which is then on no path.
abbrev pub MayGo : List Row → (ℕ → Type 0) → (ℕ → Next) → Place → Place → Type 0
MayGo rows InSet next (In v) (In w) = ⊥
MayGo rows InSet next (In v) (Out w) = ((v ≡ w) × (next v ≡ Off)) ⊎ (next w ≡ To v)
MayGo rows InSet next (Out v) (In w) = (Refers rows w v × (InSet w → ⊥)) ⊎ ((v ≡ w) × (next v ≢ Off))
MayGo rows InSet next (Out v) (Out w) = ⊥

-- a way from a place to one that the set refers to
abbrev pub GoesInto : List Row → (ℕ → Type 0) → (ℕ → Next) → Place → List Place → Type 0
GoesInto rows InSet next (In v) [] = ⊥
GoesInto rows InSet next (Out v) [] = (t : ℕ) × InSet t × Refers rows t v
GoesInto rows InSet next place (other ∷ way) = MayGo rows InSet next place other × GoesInto rows InSet next other way

-- the places are the same one
abbrev pub same_place : Place → Place → Bool
same_place (In v) (In w) = v == w
same_place (In v) (Out w) = false
same_place (Out v) (In w) = false
same_place (Out v) (Out w) = v == w

abbrev pub has_place : List Place → Place → Bool
has_place [] place = false
has_place (other ∷ way) place = same_place other place || has_place way place

-- what then comes behind a node that the way leaves for a place
abbrev pub next_by : ℕ → Place → Next
next_by v (In w) = if v == w then Off else To w
next_by v (Out w) = Off

-- the steps along a way: those of the nodes that it leaves are set, all others stay
abbrev pub along : (ℕ → Next) → List Place → ℕ → Next
along next [] v = next v
along next (In w ∷ way) v = along next way v
along next (Out w ∷ []) v = if w == v then Last else next v
along next (Out w ∷ place ∷ way) v = if w == v then next_by w place else along next (place ∷ way) v

-- no place stands twice
abbrev pub AreOnce : List Place → Type 0
AreOnce [] = ⊤
AreOnce (place ∷ way) = (has_place way place ≡ false) × AreOnce way

-- Along a way from a source that is on no path, on which no place stands twice, disjoint paths become disjoint paths, one more: the source is on one.
abbrev pub OnePathMore : List Row → (ℕ → Next) → ℕ → List Place → (ℕ → Type 0) → Type 0
OnePathMore rows next s way InSet = InOrder rows → IsFlow rows InSet next → is_end rows s ≡ true → next s ≡ Off → (InSet s → ⊥) → AreOnce (In s ∷ way) → GoesInto rows InSet next (In s) way
    → IsFlow rows InSet (along next (In s ∷ way)) × (along next (In s ∷ way) s ≢ Off)

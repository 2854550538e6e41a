-- The search for one path more, from the top of a node down.
use Rattle.std.specs.Prelude.{◌≡◌, ◌≢◌, ◌⊎◌, ℕ, ◌+◌, ◌<◌, nat_lt, if◌then◌else◌, Bool, true, false, List, [], ◌∷◌, ◌++◌, length, map, slice_index_or, Option, None, Some}
use Rattle.std.specs.List.{sum_by}
use Rattle.std.proofs.Math.ListN.{set}
use Rattle.syn_rows.specs.declared.Row.{Row}
use Rattle.syn_paths.specs.declared.places.Next.{Next}
use Rattle.syn_paths.specs.declared.places.Next.TheVariants.{Off, Last, To}
use Rattle.syn_paths.specs.declared.places.Place.{Place}
use Rattle.syn_paths.specs.declared.places.Place.TheVariants.{In, Out}
use Rattle.syn_paths.specs.declared.places.Step.{Step}
use Rattle.syn_rows.specs.Nodes.{has_node}
use Rattle.syn_cones.specs.Cones.{is_end, Refers, refs_at}
use Rattle.syn_paths.specs.Augmenting.{AreOnce, GoesInto, has_place}
use Rattle.syn_paths.specs.Checking.{is_marked}
use Rattle.syn_paths.specs.Tops.{label_in}
use Rattle.syn_paths.specs.Walking.{unmarked}

-- what comes behind a node
abbrev pub next_at : List Next → ℕ → Next
next_at next n = slice_index_or next n Off

-- the node of a place
abbrev pub node_at : Place → ℕ
node_at (In v) = v
node_at (Out v) = v

abbrev pub no_step : Step
no_step = record { place = In 0; from = None }

abbrev pub step_at : List Step → ℕ → Step
step_at trail i = slice_index_or trail i no_step

abbrev pub place_at : List Step → ℕ → Place
place_at trail i = (step_at trail i).place

-- the place is marked
abbrev pub is_seen : List ℕ → List ℕ → ℕ → Place → Bool
is_seen ins outs stamp (In v) = is_marked ins stamp v
is_seen ins outs stamp (Out v) = is_marked outs stamp v

-- the marks with that of the place
abbrev pub see_in : List ℕ → ℕ → Place → List ℕ
see_in ins stamp (In v) = set ins v stamp
see_in ins stamp (Out v) = ins

abbrev pub see_out : List ℕ → ℕ → Place → List ℕ
see_out outs stamp (In v) = outs
see_out outs stamp (Out v) = set outs v stamp

-- the places from which a unit may go to a place out of a node, by what comes behind it
abbrev pub into_out : ℕ → Next → List Place
into_out w Off = In w ∷ []
into_out w Last = []
into_out w (To v) = In v ∷ []

-- and to one into a node
abbrev pub own_out : ℕ → Next → List Place
own_out w Off = []
own_out w Last = Out w ∷ []
own_out w (To v) = Out w ∷ []

abbrev pub before : List Row → List Next → Place → List Place
before rows next (In w) = own_out w (next_at next w) ++ map Out (refs_at rows w)
before rows next (Out w) = into_out w (next_at next w)

-- two nodes, the one with the smaller distance last
abbrev pub nearer_last : List ℕ → List ℕ → List ℕ
nearer_last near [] = []
nearer_last near (a ∷ []) = a ∷ []
nearer_last near (a ∷ b ∷ []) = if nat_lt (label_in near b) (label_in near a) then a ∷ b ∷ [] else b ∷ a ∷ []
nearer_last near (a ∷ b ∷ c ∷ nodes) = a ∷ b ∷ c ∷ nodes

-- the places before a place, in the order in which the search enters them
abbrev pub before_by : List ℕ → List Row → List Next → Place → List Place
before_by near rows next (In w) = own_out w (next_at next w) ++ map Out (nearer_last near (refs_at rows w))
before_by near rows next (Out w) = into_out w (next_at next w)

-- A place that is the last of its way: below the top.
abbrev pub IsBegun : (ℕ → Type 0) → Place → Type 0
IsBegun IsBelow (In v) = ⊥
IsBegun IsBelow (Out v) = IsBelow v

-- where a place came from: the top, or a place that was marked before, to which it may go
abbrev pub CameFrom : List Row → List Next → (ℕ → Type 0) → List Step → ℕ → Place → Option ℕ → Type 0
CameFrom rows next IsBelow trail i place None = IsBegun IsBelow place
CameFrom rows next IsBelow trail i place (Some j) = (j < i) × (has_place (before rows next (place_at trail j)) place ≡ true)

-- what a search keeps: the marks of both sides, the trail of what is marked, and what of it waits
pub record State : Type 0 where
  pub ins : List ℕ
  pub outs : List ℕ
  pub trail : List Step
  pub waiting : List ℕ

abbrev pub state : List ℕ → List ℕ → List Step → List ℕ → State
state ins outs trail waiting = record { ins = ins; outs = outs; trail = trail; waiting = waiting }

-- The search: each marked place stands in the trail, once, and what stands there is marked and came from somewhere; what doesn't wait has all from which a unit may go to it marked, or to be marked; and it is no source's.
pub record IsSearching (rows : List Row) (next : List Next) (IsBelow : ℕ → Type 0) (stamp : ℕ) (s : State) (todo : List Place) : Type 0 where
  pub came : (i : ℕ) → i < length s.trail → CameFrom rows next IsBelow s.trail i (place_at s.trail i) (step_at s.trail i).from
  pub once : (i j : ℕ) → i < j → j < length s.trail → place_at s.trail i ≢ place_at s.trail j
  pub seen : (i : ℕ) → i < length s.trail → is_seen s.ins s.outs stamp (place_at s.trail i) ≡ true
  pub stands : (p : Place) → is_seen s.ins s.outs stamp p ≡ true → (i : ℕ) × (i < length s.trail) × (place_at s.trail i ≡ p)
  pub within : (i : ℕ) → i < length s.trail → (node_at (place_at s.trail i) < length s.ins) × (node_at (place_at s.trail i) < length s.outs)
  pub waits : (i : ℕ) → has_node s.waiting i ≡ true → i < length s.trail
  pub closed : (i : ℕ) → i < length s.trail → (has_node s.waiting i ≡ true) ⊎ ((p : Place) → has_place (before rows next (place_at s.trail i)) p ≡ true → (is_seen s.ins s.outs stamp p ≡ true) ⊎ (has_place todo p ≡ true))
  pub begun : (v : ℕ) → IsBelow v → (is_seen s.ins s.outs stamp (Out v) ≡ true) ⊎ (has_place todo (Out v) ≡ true)
  pub inner : (i v : ℕ) → i < length s.trail → place_at s.trail i ≡ In v → is_end rows v ≡ true → has_node s.waiting i ≡ true

-- what is left of the search
abbrev pub search_left : ℕ → State → ℕ
search_left stamp s = length s.waiting + (sum_by (unmarked stamp) s.ins + sum_by (unmarked stamp) s.outs)

-- what waits and the trail once a place is marked
abbrev pub wait_new : Bool → List ℕ → ℕ → List ℕ
wait_new true waiting i = waiting
wait_new false waiting i = waiting ++ i ∷ []

abbrev pub trail_new : Bool → List Step → Place → Option ℕ → List Step
trail_new true trail place from = trail
trail_new false trail place from = trail ++ record { place = place; from = from } ∷ []

-- a place is marked, come from somewhere
abbrev pub entered : ℕ → State → Place → Option ℕ → State
entered stamp s place from = record {
  ins = see_in s.ins stamp place;
  outs = see_out s.outs stamp place;
  trail = trail_new (is_seen s.ins s.outs stamp place) s.trail place from;
  waiting = wait_new (is_seen s.ins s.outs stamp place) s.waiting (length s.trail);
}

abbrev pub enter_all : ℕ → State → List Place → Option ℕ → State
enter_all stamp s [] from = s
enter_all stamp s (place ∷ places) from = enter_all stamp (entered stamp s place from) places from

-- the place is into a source
abbrev pub is_found : List Row → Place → Bool
is_found rows (In v) = is_end rows v
is_found rows (Out v) = false

-- what comes behind a node stands in the rows
abbrev pub NextWithin : List Next → ℕ → Type 0
NextWithin next count = (w v : ℕ) → next_at next w ≡ To v → v < count

-- one of the nodes from which the search starts
abbrev pub IsStart : List ℕ → ℕ → Type 0
IsStart starts v = has_node starts v ≡ true

-- the trail alone: what stands in it came from somewhere, and stands once
pub record IsTrail (rows : List Row) (next : List Next) (IsBelow : ℕ → Type 0) (trail : List Step) : Type 0 where
  pub came : (i : ℕ) → i < length trail → CameFrom rows next IsBelow trail i (place_at trail i) (step_at trail i).from
  pub once : (i j : ℕ) → i < j → j < length trail → place_at trail i ≢ place_at trail j

-- the place of the trail is into a source
pub record IsFoundAt (rows : List Row) (trail : List Step) (i : ℕ) : Type 0 where
  pub there : i < length trail
  pub source : is_found rows (place_at trail i) ≡ true

-- Low nodes: none is in the set; each start is one, below the set; what a low node refers to is low, and so is what follows on a path.
pub record AreLow (rows : List Row) (next : List Next) (InSet IsBelow Low : ℕ → Type 0) : Type 0 where
  pub out : (v : ℕ) → Low v → InSet v → ⊥
  pub starts : (v : ℕ) → IsBelow v → Low v
  pub below : (v : ℕ) → IsBelow v → (t : ℕ) × InSet t × Refers rows t v
  pub refs : (w v : ℕ) → Low w → Refers rows w v → Low v
  pub steps : (w v : ℕ) → next_at next w ≡ To v → Low v

-- the way that the trail records from a place of it
abbrev pub IsWayAt : List Step → ℕ → List Place → Type 0
IsWayAt trail i [] = (step_at trail i).from ≡ None
IsWayAt trail i (p ∷ way) = (j : ℕ) × ((step_at trail i).from ≡ Some j) × (place_at trail j ≡ p) × IsWayAt trail j way

-- a way from a place of the trail into the set, on which no place stands twice
pub record HasWay (rows : List Row) (next : List Next) (InSet : ℕ → Type 0) (trail : List Step) (i : ℕ) : Type 0 where
  pub way : List Place
  pub recorded : IsWayAt trail i way
  pub goes : GoesInto rows InSet (next_at next) (place_at trail i) way
  pub once : AreOnce (place_at trail i ∷ way)
  pub behind : (q : Place) → has_place way q ≡ true → (j : ℕ) × (j < i) × (place_at trail j ≡ q)

-- steps of the trail lead to earlier ones
abbrev pub TrailFalls : List Step → Type 0
TrailFalls trail = (i j : ℕ) → i < length trail → (step_at trail i).from ≡ Some j → j < i

-- the nodes of the trail stand there
abbrev pub TrailWithin : List Step → ℕ → Type 0
TrailWithin trail count = (i : ℕ) → i < length trail → node_at (place_at trail i) < count

-- what comes behind each node, once a place is left
abbrev pub left : List Next → Place → Next → List Next
left next (In v) behind = next
left next (Out v) behind = set next v behind

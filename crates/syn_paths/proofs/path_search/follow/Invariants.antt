use Rattle.std.proofs.Common.{◌≡◌, ◌∷◌, ◌<◌, ℕ, List, length}
use Rattle.syn_paths.specs.declared.places.Place.{Place}
use Rattle.syn_paths.specs.Augmenting.{along, AreOnce}
use Rattle.syn_paths.specs.Searching.{IsWayAt, next_at, place_at}
use Rattle.syn_paths.specs.Rooms.{AreTouched}
use Rattle.syn_paths.proofs.path_search.follow.Given as goal

abbrev pub invariant-loop-i : goal.invariant-loop-i
invariant-loop-i l = record {
  there : l.i < length l.trail;
  touched : AreTouched l.next l.touched.items;
  followed : (whole : List Place) → IsWayAt l.trail l.from whole → AreOnce (place_at l.trail l.from ∷ whole)
      → (rest : List Place) × IsWayAt l.trail l.i rest × AreOnce (place_at l.trail l.i ∷ rest)
      × ((v : ℕ) → along (next_at l.initial.next) (place_at l.trail l.from ∷ whole) v ≡ along (next_at l.next) (place_at l.trail l.i ∷ rest) v);
}

abbrev pub decreases-loop-i : goal.decreases-loop-i
decreases-loop-i l = l.i

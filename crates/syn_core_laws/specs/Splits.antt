-- Seats that split, and seats that join.
use Rattle.std.specs.Prelude.{◌≡◌, ◌≢◌, ℕ, ◌<◌, [], ◌∷◌, ◌++◌, slice_set, ◌+ℤ◌}
use mathlib.Core.Option.{some}
use lib.ListN.{get_elem?}
use Rattle.syn_core_laws.specs.declared.View.{View}
use Rattle.syn_core_laws.specs.Cores.{Core}
use Rattle.syn_core_laws.specs.Openings.{empty_view}
use Rattle.syn_core_laws.specs.Sound.{IsSound}

-- a number that a seat can have, and that no seat has
abbrev pub IsNewNumber : Core → ℕ → Type 0
IsNewNumber c number = (number < 64) × ((id : ℕ) (v : View) → get_elem? c.seats id ≡ some v → v.number ≢ number)

-- the state with one more seat, which knows nothing yet
abbrev pub split_off : Core → ℕ → Core
split_off c number = record c { seats = c.seats ++ empty_view number ∷ [] }

-- the view of a seat that takes over the misses and the difference of another
abbrev pub view_after_join : View → View → View
view_after_join v w = record v { misses = v.misses ++ w.misses; difference = v.difference +ℤ w.difference }

-- the state after the seat `other` has joined the seat `id`: it is spent, and has no number any more
abbrev pub core_after_join : Core → ℕ → View → ℕ → View → Core
core_after_join c id v other w = record c { seats = slice_set (slice_set c.seats id (view_after_join v w)) other (empty_view 64) }

-- a split keeps the core sound
abbrev pub SplitsKeepSound : Type 0
SplitsKeepSound = (c : Core) (number : ℕ) → IsSound c → IsNewNumber c number → IsSound (split_off c number)

-- so does the joining of a seat that holds and pins nothing
abbrev pub JoinsKeepSound : Type 0
JoinsKeepSound = (c : Core) (id other : ℕ) (v w : View) → IsSound c → id ≢ other → get_elem? c.seats id ≡ some v → get_elem? c.seats other ≡ some w → w.held ≡ [] → w.pins ≡ []
    → IsSound (core_after_join c id v other w)

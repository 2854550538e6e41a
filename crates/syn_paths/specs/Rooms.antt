-- What the room of searches holds.
use Rattle.std.specs.Prelude.{◌≡◌, ◌≢◌, ℕ, true, List, [], length}
use Rattle.syn_rows.specs.declared.Row.{Row}
use Rattle.syn_rows.specs.Nodes.{has_node}
use Rattle.syn_lists.specs.Numbers.{distinct_numbers}
use Rattle.syn_cones.specs.Cones.{is_end}
use Rattle.syn_paths.specs.declared.places.Next.{Next}
use Rattle.syn_paths.specs.declared.places.Next.TheVariants.{Off}
use Rattle.syn_paths.specs.declared.room.Marks.{Marks}
use Rattle.syn_paths.specs.declared.room.Room.{Room}
use Rattle.syn_paths.specs.Checking.{AreUpTo}
use Rattle.syn_paths.specs.Searching.{IsSearching, IsStart, next_at, state}
use Rattle.syn_paths.specs.Adding.{ArePaths}
use Rattle.syn_paths.specs.Listing.{AreSources}

-- marks for so many nodes, none with a greater stamp than the last one
pub record AreMarks (count : ℕ) (marks : Marks) : Type 0 where
  pub below : length marks.below.items ≡ count
  pub ins : length marks.ins.items ≡ count
  pub outs : length marks.outs.items ≡ count
  pub below_stamps : AreUpTo marks.below.items marks.stamp
  pub ins_stamps : AreUpTo marks.ins.items marks.stamp
  pub outs_stamps : AreUpTo marks.outs.items marks.stamp

-- room for so many nodes
pub record IsRoom (count : ℕ) (room : Room) : Type 0 where
  pub marks : AreMarks count room.marks
  pub next : length room.next.items ≡ count

-- no node is on a path
abbrev pub AllOff : List Next → Type 0
AllOff next = (v : ℕ) → next_at next v ≡ Off

-- Room for so many nodes, in which no node is on a path.
pub record IsReady (count : ℕ) (room : Room) : Type 0 where
  pub fits : IsRoom count room
  pub off : AllOff room.next.items

-- each node on a path is one of these
abbrev pub AreTouched : List Next → List ℕ → Type 0
AreTouched next touched = (v : ℕ) → next_at next v ≢ Off → has_node touched v ≡ true

-- Disjoint paths into the top of a node that are held: their steps, each of their sources once, and all nodes that are on one.
pub record HoldsPaths (rows : List Row) (labels : List ℕ) (root level : ℕ) (next : List Next) (sources touched : List ℕ) : Type 0 where
  pub paths : ArePaths rows labels root level next
  pub sources_are : AreSources rows next sources
  pub once : distinct_numbers sources ≡ true
  pub each : (s : ℕ) → is_end rows s ≡ true → next_at next s ≢ Off → has_node sources s ≡ true
  pub touched_are : AreTouched next touched

-- The last search found no source: nothing waits, and all that comes before a marked place is marked.
abbrev pub IsExhausted : List Row → Room → Type 0
IsExhausted rows room = IsSearching rows room.next.items (IsStart room.starts.items) room.marks.stamp (state room.marks.ins.items room.marks.outs.items room.trail.items []) []

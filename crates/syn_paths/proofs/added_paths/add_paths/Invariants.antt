use Rattle.std.proofs.Common.{◌≡◌, ◌-◌, ◌≤◌, length}
use Rattle.syn_paths.specs.Adding.{AreStarts}
use Rattle.syn_paths.specs.Rooms.{HoldsPaths, IsRoom}
use Rattle.syn_paths.proofs.added_paths.add_paths.Given as goal

abbrev pub invariant-loop-room : goal.invariant-loop-room
invariant-loop-room l = record {
  fits : IsRoom (length l.rows) l.room;
  same : l.room.starts.items ≡ l.initial.room.starts.items;
  starts : AreStarts l.rows l.labels l.root l.level l.room.starts.items;
  paths : HoldsPaths l.rows l.labels l.root l.level l.room.next.items l.room.sources.items l.room.touched.items;
  few : length l.room.sources.items ≤ l.count;
}

abbrev pub decreases-loop-room : goal.decreases-loop-room
decreases-loop-room l = l.count - length l.room.sources.items

use Rattle.std.proofs.Common.{drop, map}
use Rattle.syn_paths.specs.declared.places.Place.TheVariants.{Out}
use Rattle.syn_paths.specs.Checking.{AreUpTo}
use Rattle.syn_paths.specs.Searching.{IsSearching, IsStart, search_left, state}
use Rattle.syn_paths.proofs.path_search.search_on.Given as goal

abbrev pub invariant-loop-i : goal.invariant-loop-i
invariant-loop-i l = record {
  searching : IsSearching l.ways.rows.now l.next (IsStart l.starts.all.now) l.stamp (state l.ins l.outs l.trail.items l.waiting.items) (map Out (drop l.starts.entered l.starts.all.now));
  ins : AreUpTo l.ins l.stamp;
  outs : AreUpTo l.outs l.stamp;
}

abbrev pub decreases-loop-i : goal.decreases-loop-i
decreases-loop-i l = search_left l.stamp (state l.ins l.outs l.trail.items l.waiting.items)

use Rattle.std.proofs.Common.{◌≡◌, [], drop, map}
use Rattle.syn_paths.specs.declared.places.Place.TheVariants.{Out}
use Rattle.syn_paths.specs.Checking.{AreUpTo}
use Rattle.syn_paths.specs.Searching.{IsSearching, IsStart, state}
use Rattle.syn_paths.proofs.path_search.search.Given as goal

abbrev pub invariant-loop-at : goal.invariant-loop-at
invariant-loop-at l = record {
  searching : IsSearching l.ways.rows.now l.next (IsStart l.starts) l.stamp (state l.ins l.outs l.trail.items []) (map Out (drop l.at l.starts));
  empty : l.waiting.items ≡ [];
  ins : AreUpTo l.ins l.stamp;
  outs : AreUpTo l.outs l.stamp;
}

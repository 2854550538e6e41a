use Rattle.std.proofs.Common.{take}
use Rattle.syn_paths.specs.Listing.{AreLists}
use Rattle.syn_paths.proofs.path_lists.lists_from.Given as goal

abbrev pub invariant-loop-source : goal.invariant-loop-source
invariant-loop-source l = AreLists l.next (take l.source-index l.sources) l.lists.items

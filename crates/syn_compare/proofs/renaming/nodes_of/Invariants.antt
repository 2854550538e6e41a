use Rattle.std.proofs.Common.{◌≡◌, ◌++◌, true, suc, drop, map}
use Rattle.syn_rows.specs.declared.TheConstants.{NODE_LIMIT}
use Rattle.syn_netlist.specs.Numbers.{all_below}
use Rattle.syn_compare.specs.Renaming.{nodes_of}
use Rattle.syn_compare.proofs.renaming.nodes_of.Given as goal

abbrev pub invariant-loop-place : goal.invariant-loop-place
invariant-loop-place l = record {
  nodes : l.nodes.items ++ map (λ place. suc place) (drop l.place-index l.places) ≡ nodes_of l.places;
  below : all_below NODE_LIMIT l.nodes.items ≡ true;
}

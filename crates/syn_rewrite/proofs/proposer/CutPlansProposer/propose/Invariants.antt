use Rattle.std.proofs.Common.{◌≡◌, All, flat_map, map, take}
use Rattle.syn_cuts.specs.Leaves.{leaves_of}
use Rattle.syn_gain.specs.Proposals.{replacement}
use Rattle.syn_proposals.specs.Sound.{IsSound}
use Rattle.syn_rewrite.specs.Rewriting.{cut_proposals}
use Rattle.syn_rewrite.proofs.proposer.CutPlansProposer.propose.Given as goal

abbrev pub invariant-loop-i : goal.invariant-loop-i
invariant-loop-i l = record {
  proposals : map replacement l.proposals.items ≡ flat_map (cut_proposals l.graph.rows l.node) (take l.i (leaves_of l.cuts));
  roots : All (λ p. p.root ≡ l.node) l.proposals.items;
  sound : All (IsSound l.graph.rows) l.proposals.items;
}

use Rattle.std.proofs.Common.{◌≡◌, ◌++◌, map, drop}
use Rattle.syn_seq.specs.Code.{moved}
use Rattle.syn_seq.proofs.kept_graph.moved_all.Given as goal

abbrev pub invariant-loop-lit : goal.invariant-loop-lit
invariant-loop-lit l = l.found.items ++ map (moved l.places) (drop l.lit-index l.lits) ≡ map (moved l.places) l.lits

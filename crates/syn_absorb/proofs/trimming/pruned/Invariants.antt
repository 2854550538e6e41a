use Rattle.std.proofs.Common.{length}
use Rattle.syn_lutnet.specs.Data.{luts_data}
use Rattle.syn_absorb.specs.Rebuilding.{IsRebuiltNet}
use Rattle.syn_absorb.proofs.trimming.pruned.Given as goal

abbrev pub invariant-loop-kept : goal.invariant-loop-kept
invariant-loop-kept l = IsRebuiltNet l.source_count (luts_data l.fn.parts.luts.items) l.fn.parts.lits.items (luts_data l.kept.luts.items) l.kept.lits.items

abbrev pub decreases-loop-kept : goal.decreases-loop-kept
decreases-loop-kept l = length l.kept.luts.items

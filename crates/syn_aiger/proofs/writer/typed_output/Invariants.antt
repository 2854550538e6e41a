use Rattle.std.proofs.Common.{◌≡◌, drop}
use Rattle.syn_aiger.specs.WrittenLists.{typed_output}
use Rattle.syn_aiger.proofs.writer.typed_output.Given as goal

abbrev pub invariant-loop-latch : goal.invariant-loop-latch
invariant-loop-latch l = typed_output (drop l.latch-index l.latches) ≡ typed_output l.latches

use Rattle.std.proofs.Common.{◌≡◌, length, drop}
use Rattle.syn_cuts.specs.Lists.{with_spans}
use Rattle.syn_cuts.proofs.lists.set_spans.Given as goal

abbrev pub invariant-loop-entry : goal.invariant-loop-entry
invariant-loop-entry l = record {
  rest : with_spans l.part l.spans (drop l.entry-index l.entries) ≡ with_spans l.part l.initial.spans l.entries;
  count : length l.spans ≡ length l.initial.spans;
}

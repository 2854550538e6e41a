use Rattle.std.proofs.Common.{◌≡◌, ◌++◌, true, map, drop, length}
use Rattle.std.specs.List.{list_all}
use Rattle.syn_hashed.specs.Hashed.{lit_at}
use Rattle.syn_lut_rows.specs.LutLiterals.{reads_below}
use Rattle.syn_lut_rows.proofs.input_literals.Given as goal

abbrev pub invariant-loop-input : goal.invariant-loop-input
invariant-loop-input l = record {
  left : l.literals.items ++ map (lit_at l.signals) (drop l.input-index l.inputs) ≡ map (lit_at l.signals) l.inputs;
  count : length l.literals.items ≡ l.input-index;
  below : list_all (reads_below (length l.signals)) (drop l.input-index l.inputs) ≡ true;
}

use Rattle.std.proofs.Common.{◌≡◌, ◌≤◌, map, drop}
use Rattle.std.specs.Int.Digits.{number_from_digits_after}
use Rattle.syn_models.specs.FlatFaults.{told, greatest}
use Rattle.syn_models.specs.ReadBack.{digit_in, front, number_in}
use Rattle.syn_models.proofs.slash_counts.number_in.Given as goal

abbrev pub invariant-loop-b : goal.invariant-loop-b
invariant-loop-b l = record {
  small : l.number ≤ greatest;
  left : told (number_from_digits_after 10 l.number (map digit_in (front (drop l.b-index l.word)))) ≡ told (number_in l.word);
}

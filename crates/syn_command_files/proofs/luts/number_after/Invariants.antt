use Rattle.std.proofs.Common.{◌≡◌, ◌≤◌, min, drop}
use Rattle.syn_words.specs.Numbers.{number_after}
use Rattle.syn_command_files.specs.Luts.{most_area}
use Rattle.syn_command_files.proofs.luts.number_after.Given as goal

abbrev pub invariant-loop-digit : goal.invariant-loop-digit
invariant-loop-digit l = record {
  left : min most_area (number_after l.after (drop l.digit-index l.digits)) ≡ min most_area (number_after l.number l.digits);
  few : l.after ≤ most_area;
}

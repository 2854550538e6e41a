use Rattle.std.proofs.Common.{◌≡◌}
use Rattle.syn_command_files.specs.Luts.{are_decimals}
use Rattle.syn_command_files.proofs.luts.are_decimals.Given as goal

abbrev pub invariant-loop-word : goal.invariant-loop-word
invariant-loop-word l = are_decimals l.word-iterator ≡ are_decimals l.fn.words

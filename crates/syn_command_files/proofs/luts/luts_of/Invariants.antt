use Rattle.std.proofs.Common.{◌≡◌, ◌+◌, ◌≤◌, length}
use Rattle.syn_lex.specs.Pieces.{pieces}
use Rattle.syn_command_files.specs.Luts.{sizes_after, sizes_in}
use Rattle.syn_command_files.proofs.luts.luts_of.Given as goal

abbrev pub invariant-loop-rest : goal.invariant-loop-rest
invariant-loop-rest l = record {
  rest : sizes_after l.line l.most l.areas (pieces 10 l.rest) ≡ sizes_in l.text;
  lines : l.line + length l.rest ≤ length l.text;
  few : l.most ≤ 8;
}

abbrev pub decreases-loop-rest : goal.decreases-loop-rest
decreases-loop-rest l = length l.rest

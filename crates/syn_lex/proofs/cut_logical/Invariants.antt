use Rattle.std.proofs.Common.{◌≡◌, ◌+◌, ◌<◌, ◌≤◌, length}
use Rattle.syn_lex.specs.Runs.{GoesOn}
use Rattle.syn_lex.proofs.cut_logical.Given as goal

abbrev pub invariant-lines : goal.invariant-lines
invariant-lines l = record {
  joined : GoesOn l.bytes l.joined l.count l.rest;
  some : 0 < length l.rest;
  sizes : l.joined + length l.rest ≡ length l.bytes;
  few : l.count ≤ l.joined;
}

abbrev pub decreases-lines : goal.decreases-lines
decreases-lines l = length l.rest

use Rattle.std.proofs.Common.{◌≡◌, ◌≤◌, vec_len}
use Rattle.syn_io.proofs.LineParts.{IsBegun}
use Rattle.syn_io.specs.RealLines.{known_left}
use Rattle.syn_io.proofs.real_lines.RealLines.take_line.Given as goal

abbrev pub invariant-loop : goal.invariant-loop
invariant-loop g l = record {
  within : vec_len l.line ≤ l.limit;
  faults : l.self.faults ≡ l.initial.self.faults;
  begun : IsBegun (known_left g.R.Read.remaining l.initial.self) (known_left g.R.Read.remaining l.self) l.line.items;
}

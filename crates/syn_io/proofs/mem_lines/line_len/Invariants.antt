use Rattle.std.proofs.Common.{◌≡◌, ◌+◌, drop}
use Rattle.std.specs.List.{position_or_len}
use Rattle.syn_io.specs.Outside.{is_line_feed}
use Rattle.syn_io.proofs.mem_lines.line_len.Given as goal

abbrev pub invariant-loop-i : goal.invariant-loop-i
invariant-loop-i l = l.i + position_or_len is_line_feed (drop l.i l.bytes) ≡ position_or_len is_line_feed l.bytes

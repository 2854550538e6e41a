use Rattle.std.proofs.Common.{◌≡◌, drop}
use Rattle.std.specs.List.{list_all}
use Rattle.syn_reader.specs.Alone.{is_plain}
use Rattle.syn_reader.proofs.alone.are_plain.Given as goal

abbrev pub invariant-loop-s : goal.invariant-loop-s
invariant-loop-s l = list_all is_plain (drop l.s-index l.statements) ≡ list_all is_plain l.statements

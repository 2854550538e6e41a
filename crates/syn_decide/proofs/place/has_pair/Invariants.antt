use Rattle.std.proofs.Common.{◌≡◌, drop}
use Rattle.std.specs.List.{list_any}
use Rattle.syn_decide.specs.Hints.{is_pair}
use Rattle.syn_decide.proofs.place.has_pair.Given as goal

abbrev pub invariant-loop-row : goal.invariant-loop-row
invariant-loop-row l = list_any (is_pair l.a l.b) (drop l.row-index l.rows) ≡ list_any (is_pair l.a l.b) l.rows

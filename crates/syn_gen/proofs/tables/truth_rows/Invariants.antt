use Rattle.std.proofs.Common.{◌≡◌, filter, map}
use Rattle.syn_gen.specs.Generated.{is_true_at, minterm_row, numbers_below}
use Rattle.syn_gen.proofs.tables.truth_rows.Given as goal

abbrev pub invariant-loop-minterm : goal.invariant-loop-minterm
invariant-loop-minterm l = l.rows.items ≡ map minterm_row (filter (is_true_at l.truth) (numbers_below l.minterm))

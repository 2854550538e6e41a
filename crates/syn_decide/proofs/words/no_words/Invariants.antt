use Rattle.std.proofs.Common.{◌≡◌, None, length}
use Rattle.std.specs.List.{All}
use Rattle.syn_decide.proofs.words.no_words.Given as goal

abbrev pub invariant-loop-row : goal.invariant-loop-row
invariant-loop-row l = record {
  count : length l.words.items ≡ l._row;
  none : All (λ w. w ≡ None) l.words.items;
}

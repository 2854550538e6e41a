use Rattle.std.proofs.Common.{◌≡◌, ◌<◌, Bool, List, length}
use Rattle.syn_truth.specs.Truth.{minterm_of}
use Rattle.syn_cec.specs.Compared.{SameAt}
use Rattle.syn_cec.proofs.by_values.compared_by_values.Given as goal

abbrev pub invariant-loop-number : goal.invariant-loop-number
invariant-loop-number l = (xs : List Bool) → length xs ≡ l.first.source_count → minterm_of xs < l.number → SameAt l.first l.second xs

use Rattle.std.proofs.Common.{◌≡◌, [], ◌∷◌, All, length}
use Rattle.test_values.proofs.parities.parities.Given as goal

abbrev pub invariant-loop : goal.invariant-loop
invariant-loop l = record {
  count : length l.luts.items ≡ l.counter;
  inputs : All (λ x. x.inputs.items ≡ 1 ∷ 2 ∷ 3 ∷ 4 ∷ 5 ∷ 6 ∷ []) l.luts.items;
}

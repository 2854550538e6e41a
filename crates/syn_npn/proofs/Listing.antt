-- The table has each permutation once, in lexicographic order.
use Rattle.std.proofs.Common.{ℕ, ◌<◌, ◌≡◌, false, ap, arith, inl, inr}
use Rattle.std.proofs.lemmas.Bool.{cases_order}
use Rattle.syn_npn.specs.EachPermutation.{HasEachPermutation}
use Rattle.syn_npn.specs.Permutations.{permutation_at}
use Rattle.syn_npn.specs.Transforms.{order_by}
use Rattle.syn_npn.proofs.Ordering.{code, code-rises, order-is, place_of_permutation}
use Rattle.syn_npn.proofs.Permuting.{permutation_at-permutes}

rising : (j k : ℕ) → j < k → k < 24 → order_by (permutation_at j) 0 false < order_by (permutation_at k) 0 false
rising j k h b =
    let more = code-rises k b j h in
    omega (arith, more, order-is (permutation_at j) 0 0 (omega arith), order-is (permutation_at k) 0 0 (omega arith))

distinct : (j k : ℕ) → j < 24 → k < 24 → permutation_at j ≡ permutation_at k → j ≡ k
distinct j k h b e =
    let same = ap code e in
    elim (cases_order j k) [
      | inl q ↦ q
      | inr q ↦ elim q [ inl r ↦ absurd (omega (arith, same, code-rises k b j r)) | inr r ↦ absurd (omega (arith, same, code-rises j h k r)) ]
    ]

pub each_permutation : HasEachPermutation
each_permutation = record {
  permutes = permutation_at-permutes;
  all = place_of_permutation;
  distinct = distinct;
  rising = rising;
}

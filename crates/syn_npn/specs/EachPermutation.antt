-- The table of permutations.
use Rattle.std.specs.Prelude.{◌≡◌, ℕ, ◌<◌, true, false, List}
use Rattle.syn_npn.specs.Images.{is_permutation}
use Rattle.syn_npn.specs.Permutations.{permutation_at}
use Rattle.syn_npn.specs.Transforms.{order_by}

-- the places below 24 have the permutations of four variables, each at one place, in lexicographic order
pub record HasEachPermutation : Type 0 where
  pub permutes : (place : ℕ) → place < 24 → is_permutation (permutation_at place) ≡ true
  pub all : (perm : List ℕ) → is_permutation perm ≡ true → (place : ℕ) × (place < 24) × (permutation_at place ≡ perm)
  pub distinct : (j k : ℕ) → j < 24 → k < 24 → permutation_at j ≡ permutation_at k → j ≡ k
  pub rising : (j k : ℕ) → j < k → k < 24 → order_by (permutation_at j) 0 false < order_by (permutation_at k) 0 false

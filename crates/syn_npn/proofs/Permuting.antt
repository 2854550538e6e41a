-- The table of permutations.
use Rattle.std.proofs.Common.{ℕ, ◌<◌, ◌≡◌, true, refl}
use Rattle.syn_npn.specs.Images.{is_permutation}
use Rattle.syn_npn.specs.Permutations.{permutation_at}
use Rattle.syn_npn.proofs.Computed.{every_at}

pub permutation_at-permutes : (k : ℕ) → k < 24 → is_permutation (permutation_at k) ≡ true
unfolding permutation_at
permutation_at-permutes = every_at 24 (λ k. is_permutation (permutation_at k)) refl

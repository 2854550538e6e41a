-- Literals of leaves under fitting.
use Rattle.std.proofs.Common.{ℕ, ◌-◌, ◌<◌, ◌≤◌, ◌≡◌, true, false, nat_lt, List, refl, get_or}
use Rattle.std.specs.Prelude.{nat_le}
use Rattle.std.proofs.lemmas.Bool.{and_left, and_right, and_from, le-leb, lt-leb, ltb-true, cond-true, cond-false}
use Rattle.syn_plan.specs.declared.PLit.{PLit}
use Rattle.syn_plan.specs.Gates.{index_of}
use Rattle.syn_npn.specs.Images.{inverse, is_permutation}
use Rattle.syn_npn.proofs.Computed.{every, every_at, permutation_at}
use Rattle.syn_library.specs.Fitting.{fitted_literal, leaf_literal, names_leaf}

-- the places of a permutation's variables are below 4
pub inverse-lt : (perm : List ℕ) → is_permutation perm ≡ true → (i : ℕ) → i < 4 → get_or (inverse perm) i 0 < 4
inverse-lt perm h i l = ltb-true _ 4 (every_at 4 (λ i. nat_lt (get_or (inverse perm) i 0) 4) (permutation_at (λ p. every 4 (λ i. nat_lt (get_or (inverse p) i 0) 4)) refl perm h) i l)

pub names_leaf-within : (l : PLit) → 1 ≤ index_of l → index_of l ≤ 4 → names_leaf l ≡ true
names_leaf-within l h k = and_from (nat_le 1 (index_of l)) (nat_le (index_of l) 4) (le-leb 1 (index_of l) h) (le-leb (index_of l) 4 k)

pub names_leaf-zero : (l : PLit) → index_of l < 1 → names_leaf l ≡ false
names_leaf-zero l h = and_left (nat_le 1 (index_of l)) (nat_le (index_of l) 4) (lt-leb 1 (index_of l) h)

pub names_leaf-above : (l : PLit) → 4 < index_of l → names_leaf l ≡ false
names_leaf-above l h = and_right (nat_le 1 (index_of l)) (nat_le (index_of l) 4) (lt-leb (index_of l) 4 h)

module _ (perm : List ℕ) (flips : ℕ) (l : PLit) where
  pub fitted_literal-leaf : 1 ≤ index_of l → index_of l ≤ 4 → fitted_literal perm flips l ≡ leaf_literal flips l (get_or (inverse perm) (index_of l - 1) 0)
  fitted_literal-leaf h k = cond-true (names_leaf l) (leaf_literal flips l (get_or (inverse perm) (index_of l - 1) 0)) l (names_leaf-within l h k)

  pub fitted_literal-zero : index_of l < 1 → fitted_literal perm flips l ≡ l
  fitted_literal-zero h = cond-false (names_leaf l) (leaf_literal flips l (get_or (inverse perm) (index_of l - 1) 0)) l (names_leaf-zero l h)

  pub fitted_literal-above : 4 < index_of l → fitted_literal perm flips l ≡ l
  fitted_literal-above h = cond-false (names_leaf l) (leaf_literal flips l (get_or (inverse perm) (index_of l - 1) 0)) l (names_leaf-above l h)

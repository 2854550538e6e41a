-- Levels lie below one more than their greatest.
use Rattle.std.proofs.Common.{ℕ, zero, suc, ◌+◌, ◌<◌, ◌≤◌, List, [], ◌∷◌, All, length, get_or, arith}
use Rattle.syn_report.specs.Levels.{greatest}

greatest_at : (xs : List ℕ) (k d : ℕ) → k < length xs → get_or xs k d ≤ greatest xs
greatest_at [] k d lt = absurd (omega arith)
greatest_at (x ∷ xs) zero d lt = omega arith
greatest_at (x ∷ xs) (suc k) d lt = omega (arith, greatest_at xs k d (omega arith))

pub all_below_greatest : (xs : List ℕ) → All (λ x. x < greatest xs + 1) xs
all_below_greatest xs k d lt = omega (arith, greatest_at xs k d lt)

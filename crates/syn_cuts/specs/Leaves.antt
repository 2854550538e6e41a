-- The lists that cuts in place hold.
use Rattle.std.specs.Prelude.{ℕ, List, map}
use Rattle.arrayvec.specs.ArrayVec.{ArrayVec}

-- the leaves of a cut
abbrev pub leaves : ArrayVec ℕ → List ℕ
leaves cut = cut.items

-- the leaves of each cut
abbrev pub leaves_of : List (ArrayVec ℕ) → List (List ℕ)
leaves_of cuts = map leaves cuts

-- What LUTs cost by how many inputs they have.
use Rattle.std.specs.Prelude.{ℕ, ◌≤◌, List, length, sum_by}
use Rattle.syn_lutnet.specs.LutData.{Lut}

-- The cost doesn't fall where there are more inputs.
abbrev pub NeverFalls : (ℕ → ℕ) → Type 0
NeverFalls cost = (m n : ℕ) → m ≤ n → cost m ≤ cost n

-- what LUTs cost together
abbrev pub cost_by : (ℕ → ℕ) → List Lut → ℕ
cost_by cost luts = sum_by (λ l. cost (length l.inputs)) luts

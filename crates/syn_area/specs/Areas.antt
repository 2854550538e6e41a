-- What LUTs cost by the areas of those of one input, of two, and so on.
use Rattle.std.specs.Prelude.{◌≡◌, ℕ, ◌-◌, ◌^◌, ◌≤◌, min, List, [], ◌∷◌, drop, length, sum_by}
use Rattle.syn_rows.specs.declared.Row.{Row}
use Rattle.syn_lutnet.specs.LutData.{Lut}
use Rattle.syn_map.specs.Labels.{chosen}

-- the least of areas, the greatest number of 32 bits where there is none
abbrev pub least_area : List ℕ → ℕ
least_area [] = 2 ^ 32 - 1
least_area (area ∷ areas) = min area (least_area areas)

-- What a LUT of so many inputs costs: the least area of those of as many inputs or more, each of which can stand for it.
abbrev pub cost_of : List ℕ → ℕ → ℕ
cost_of areas inputs = least_area (drop (inputs - 1) areas)

-- what LUTs cost together
abbrev pub luts_cost : List ℕ → List Lut → ℕ
luts_cost areas luts = sum_by (λ l. cost_of areas (length l.inputs)) luts

-- what LUTs of nodes over the chosen cuts cost together
abbrev pub nodes_cost : ℕ → List Row → List ℕ → List ℕ → ℕ
nodes_cost k rows areas nodes = sum_by (λ n. cost_of areas (length (chosen k rows n))) nodes

-- LUTs of two to k inputs all cost the same
abbrev pub CostAlike : ℕ → List ℕ → Type 0
CostAlike k areas = (n : ℕ) → 2 ≤ n → n ≤ k → cost_of areas n ≡ cost_of areas 2

-- A LUT of more inputs costs no less.
abbrev pub CostNeverFalls : Type 0
CostNeverFalls = (areas : List ℕ) (m n : ℕ) → m ≤ n → cost_of areas m ≤ cost_of areas n

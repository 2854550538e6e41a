-- A LUT of more inputs costs no less.
use Rattle.std.proofs.Common.{◌≡◌, ℕ, zero, suc, ◌+◌, ◌-◌, ◌^◌, ◌≤◌, List, [], ◌∷◌, drop, ap, arith}
use Rattle.std.proofs.lemmas.List.{drop-drop}
use Rattle.syn_area.specs.Areas.{CostNeverFalls, least_area}

pub low_area : (areas : List ℕ) → least_area areas ≤ 2 ^ 32 - 1
low_area [] = omega arith
low_area (area ∷ areas) = omega (arith, low_area areas)

fewer_areas : (k : ℕ) (areas : List ℕ) → least_area areas ≤ least_area (drop k areas)
fewer_areas zero areas = omega arith
fewer_areas (suc k) [] = omega arith
fewer_areas (suc k) (area ∷ areas) = omega (arith, fewer_areas k areas)

pub never_falls : CostNeverFalls
never_falls areas m n le =
    let k : ℕ = (n - 1) - (m - 1) in
    let at : (m - 1) + k ≡ n - 1 = omega (arith, le) in
    omega (arith, fewer_areas k (drop (m - 1) areas), ap least_area (drop-drop k (m - 1) areas), ap (λ i. least_area (drop i areas)) at)

-- Labels by the fewest nodes that cut a node's top off, and the cut that is chosen (Cong and Ding, "FlowMap", IEEE TCAD 1994).
use Rattle.std.specs.Prelude.{◌≡◌, ◌≢◌, ◌⊎◌, ℕ, zero, suc, ◌<◌, ◌≤◌, true, false, List, length}
use Rattle.syn_rows.specs.declared.Row.{Row}
use Rattle.syn_rows.specs.Rows.{row_at, refs_of}
use Rattle.syn_rows.specs.Reach.{is_and}
use Rattle.syn_hashed.specs.Hashed.{IsHashed}
use Rattle.syn_paths.specs.Tops.{fan_in_label}
use Rattle.syn_paths.specs.LeastCuts.{IsCutOutside, IsLeastCut}

-- at most k nodes outside the top of a node cut it off
abbrev pub HasCutOutside : ℕ → List Row → (ℕ → ℕ) → ℕ → ℕ → Type 0
HasCutOutside k rows label n level = (leaves : List ℕ) × IsCutOutside rows label n level leaves × (length leaves ≤ k)

-- The label of an AND, by the greatest label of a fan-in: 1 where that is 0; else the same where at most k nodes cut the top off, and one more where more are needed.
abbrev pub IsFlowLabel : ℕ → List Row → (ℕ → ℕ) → ℕ → ℕ → Type 0
IsFlowLabel k rows label n zero = label n ≡ 1
IsFlowLabel k rows label n (suc p) =
    ((label n ≡ suc p) × HasCutOutside k rows label n (suc p)) ⊎ ((label n ≡ suc (suc p)) × ((leaves : List ℕ) → IsCutOutside rows label n (suc p) leaves → k < length leaves))

-- The labels by flow: those of ANDs are such, all others are 0.
pub record AreFlowLabels (k : ℕ) (rows : List Row) (label : ℕ → ℕ) : Type 0 where
  pub others : (n : ℕ) → is_and (row_at rows n) ≡ false → label n ≡ 0
  pub ands : (n : ℕ) → is_and (row_at rows n) ≡ true → IsFlowLabel k rows label n (fan_in_label rows label n)

-- The cut that is chosen for an AND: the least one where its label is that of a fan-in, else its two fan-ins.
pub record IsChosenCut (rows : List Row) (label : ℕ → ℕ) (n : ℕ) (leaves : List ℕ) : Type 0 where
  pub kept : label n ≡ fan_in_label rows label n → IsLeastCut rows label n (label n) leaves
  pub rose : label n ≢ fan_in_label rows label n → leaves ≡ refs_of (row_at rows n)

-- Hashed rows have at most one such labelling.
abbrev pub OneFlowLabels : Type 0
OneFlowLabels = (k count : ℕ) (rows : List Row) (label other : ℕ → ℕ) → IsHashed count rows → AreFlowLabels k rows label → AreFlowLabels k rows other → (n : ℕ) → label n ≡ other n

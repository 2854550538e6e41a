-- What is marked while the nodes that need LUTs are looked for, from the last node down.
use Rattle.std.specs.Prelude.{◌≡◌, ℕ, ◌<◌, ◌≤◌, if◌then◌else◌, Bool, true, All, List, [], ◌∷◌, length, suc}
use Rattle.syn_rows.specs.declared.Lit.{Lit}
use Rattle.syn_rows.specs.declared.Row.{Row}
use Rattle.syn_rows.specs.Rows.{row_at}
use Rattle.syn_rows.specs.Reach.{is_and}
use Rattle.syn_rows.specs.Values.{value_in}
use Rattle.syn_covering.specs.Mappings.{HasObservedAnds, IsNeeded}

-- Each marked node needs a LUT; the observed ANDs are marked, and of each marked node from `from` up the ANDs among the leaves of its cut. With `from` 0 the marked nodes are those that need LUTs.
pub record IsSwept (cut : ℕ → List ℕ) (rows : List Row) (lits : List Lit) (marks : List Bool) (from : ℕ) : Type 0 where
  pub count : length marks ≡ length rows
  pub needed : (n : ℕ) → value_in marks n ≡ true → IsNeeded cut rows lits n
  pub seen : HasObservedAnds rows lits (value_in marks)
  pub done : (n : ℕ) → from ≤ n → value_in marks n ≡ true → All (λ m. is_and (row_at rows m) ≡ true → value_in marks m ≡ true) (cut n)

-- the numbers of the marked, from a first number on
abbrev pub marked_from : ℕ → List Bool → List ℕ
marked_from n [] = []
marked_from n (mark ∷ marks) = if mark then n ∷ marked_from (suc n) marks else marked_from (suc n) marks

-- the node is an AND that is there
abbrev pub IsGate : List Row → ℕ → Type 0
IsGate rows n = (n < length rows) × (is_and (row_at rows n) ≡ true)

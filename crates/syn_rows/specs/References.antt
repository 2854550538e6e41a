-- References of rows to nodes, and sums over nodes.
use Rattle.std.specs.Prelude.{ℕ, zero, suc, ◌+◌, ◌==◌, if◌then◌else◌, List, [], ◌∷◌, length}
use Rattle.syn_rows.specs.declared.Lit.{Lit}
use Rattle.syn_rows.specs.declared.Row.{Row}
use Rattle.syn_rows.specs.Rows.{node_of, refs_of, row_at}
use Rattle.syn_rows.specs.Reach.{is_and}

-- 1 where the two are one node
abbrev pub hits : ℕ → ℕ → ℕ
hits m n = if m == n then 1 else 0

-- how often the node m stands in a list
abbrev pub times : ℕ → List ℕ → ℕ
times m [] = 0
times m (x ∷ xs) = hits m x + times m xs

-- the references of a row to the node m
abbrev pub refs : ℕ → Row → ℕ
refs m row = times m (refs_of row)

-- f 0 + .. + f (n - 1)
abbrev pub sum_below : ℕ → (ℕ → ℕ) → ℕ
sum_below zero f = 0
sum_below (suc n) f = sum_below n f + f n

-- the references of all rows to the node m
abbrev pub refs_by_rows : ℕ → List Row → ℕ
refs_by_rows m rows = sum_below (length rows) (λ n. refs m (row_at rows n))

-- how many of the literals name the node m
abbrev pub refs_by_literals : ℕ → List Lit → ℕ
refs_by_literals m [] = 0
refs_by_literals m (l ∷ ls) = hits m (node_of l) + refs_by_literals m ls

-- 1 for an AND, else 0
abbrev pub and_count : Row → ℕ
and_count row = if is_and row then 1 else 0

-- the number of AND rows, reached or not
abbrev pub all_ands : List Row → ℕ
all_ands rows = sum_below (length rows) (λ n. and_count (row_at rows n))

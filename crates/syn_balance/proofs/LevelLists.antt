-- The list of the levels of rows that grow.
use Rattle.std.proofs.Common.{◌≡◌, ℕ, zero, suc, ◌+◌, ◌<◌, ◌≤◌, All, List, [], ◌∷◌, ◌++◌, length, get_or, sym, ap, ap₂, ◌∙◌, subst, arith, inl, inr, append-nil, length-append}
use Rattle.std.proofs.lemmas.Bool.{cases_lt}
use Rattle.std.proofs.lemmas.List.{get_or_past, get_or_push, get_or_default}
use Rattle.syn_rows.specs.declared.Lit.{Lit}
use Rattle.syn_rows.specs.declared.Row.{Row}
use Rattle.syn_rows.specs.Rows.{node_of, row_at}
use Rattle.syn_rows.specs.Levels.{row_level, level_in, levels_of}
use Rattle.syn_hashed.specs.Hashed.{IsHashed}
use Rattle.syn_hashed.specs.Growing.{Extends, level_by}
use Rattle.syn_hashed.proofs.Dropped.{gate_is_and}
use Rattle.syn_hashed.proofs.LevelLaws.{length-levels, levels-push, source_level, gate_level}

-- no node lies higher than its number
low_below : (count : ℕ) (rows : List Row) → IsHashed count rows → (k n : ℕ) → n < k → level_in (levels_of rows) n ≤ n
low_below count rows h zero n lt = absurd (omega arith)
low_below count rows h (suc k) n lt = elim (cases_lt n (count + 1)) [
  | inl front ↦ let e = source_level count rows h n front in omega (arith, e)
  | inr above ↦ elim (cases_lt n (length rows)) [
    | inl inside ↦
        let (a, b, is, gate) = gate_is_and n (row_at rows n) (h.gates n (omega arith) inside) in
        let small : node_of a < n = omega (arith, gate.rising, gate.below) in
        let first : level_by rows a ≤ node_of a = low_below count rows h k (node_of a) (omega arith) in
        let second : level_by rows b ≤ node_of b = low_below count rows h k (node_of b) (omega (arith, gate.below)) in
        let e = gate_level count rows h n a b is in
        omega (arith, e, first, second, small, gate.below)
    | inr past ↦ let e : level_in (levels_of rows) n ≡ 0 = get_or_past (levels_of rows) n 0 (omega (arith, length-levels rows)) in omega (arith, e)
  ]
]

pub low : (count : ℕ) (rows : List Row) → IsHashed count rows → (n : ℕ) → level_in (levels_of rows) n ≤ n
low count rows h n = low_below count rows h (suc n) n (omega arith)

pub low_in : (count : ℕ) (rows : List Row) (levels : List ℕ) → IsHashed count rows → levels ≡ levels_of rows → (n : ℕ) → level_in levels n ≤ n
low_in count rows levels h e n = subst (λ l. level_in l n ≤ n) (sym e) (low count rows h n)

-- so none lies higher than there are rows
pub few_in : (count : ℕ) (rows : List Row) (levels : List ℕ) → IsHashed count rows → levels ≡ levels_of rows → All (λ level. level ≤ length levels) levels
few_in count rows levels h e k d lt = (let at = get_or_default levels k d 0 lt in let small : get_or levels k 0 ≤ k = low_in count rows levels h e k in omega (arith, at, small))

-- rows that grew by no row, or by one
pub same_levels : (old new : List Row) (levels : List ℕ) → Extends old new → length new ≤ length levels → levels ≡ levels_of old → levels ≡ levels_of new
same_levels old new levels e few is = go e.more e.is
  where
    go : (more : List Row) → new ≡ old ++ more → levels ≡ levels_of new
    go [] w = is ∙ ap levels_of (sym (w ∙ append-nil old))
    go (row ∷ more) w = absurd (let a = ap length w in let b = length-append old (row ∷ more) in let c = ap length is in let d = length-levels old in omega (arith, a, b, c, d, few))

pub more_levels : (old new : List Row) (levels : List ℕ) (n level : ℕ) (row : Row) → Extends old new → length new ≤ length old + 1 → levels ≡ levels_of old → n ≡ length levels → n < length new
    → row ≡ get_or new n row → level ≡ row_level (level_in levels) n row → levels ++ level ∷ [] ≡ levels_of new
more_levels old new levels n level row e few is at lt found step = go e.more e.is
  where
    size : length levels ≡ length old
    size = ap length is ∙ length-levels old

    go : (more : List Row) → new ≡ old ++ more → levels ++ level ∷ [] ≡ levels_of new
    go [] w = absurd (let a = ap length (w ∙ append-nil old) in omega (arith, a, size))
    go (r ∷ s ∷ more) w = absurd (let a = ap length w in let b = length-append old (r ∷ s ∷ more) in omega (arith, a, b, few))
    go (r ∷ []) w =
        let here : row ≡ r = found ∙ (ap (λ (rows : List Row). get_or rows n row) w ∙ get_or_push old r row n (let z : length old ≡ n = omega (arith, size) in z)) in
        let value : level ≡ row_level (level_in (levels_of old)) (length (levels_of old)) r = step ∙ ap (λ (k : ℕ). row_level (level_in levels) k row) (at ∙ ap length is) ∙ ap₂ (λ (l : List ℕ) (x : Row). row_level (level_in l) (length (levels_of old)) x) is here in
        ap₂ (λ (l : List ℕ) (x : ℕ). l ++ x ∷ []) is value ∙ (sym (levels-push old r) ∙ ap levels_of (sym w))

-- a level that was read from the list
pub level_found : (rows : List Row) (levels : List ℕ) (l : Lit) (n x : ℕ) → levels ≡ levels_of rows → n ≡ node_of l → node_of l < length rows → x ≡ get_or levels n x → x ≡ level_by rows l
level_found rows levels l n x is at there e =
    e ∙ (get_or_default levels n x 0 (let a = ap length is in let b = length-levels rows in omega (arith, a, b, at, there)) ∙ ap₂ (λ (k : List ℕ) (m : ℕ). level_in k m) is at)

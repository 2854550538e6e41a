-- Where kept nodes move to, and the rows that are kept.
use Rattle.std.proofs.Common.{◌≡◌, ℕ, zero, suc, ◌+◌, ◌-◌, ◌*◌, ◌%◌, ◌<◌, ◌≤◌, nat_lt, if◌then◌else◌, Bool, true, false, List, [], ◌∷◌, ◌++◌, length, get_or, refl, sym, ap, ◌∙◌, arith, inl, inr}
use Rattle.std.proofs.lemmas.List.{append_assoc, length-append}
use Rattle.std.proofs.lemmas.Bool.{cases_Bool, cases_eq, cases_lt, cond-true, cond-false, lt-ltb, or_left}
use Rattle.syn_rows.specs.declared.Lit.{Lit}
use Rattle.syn_rows.specs.declared.Row.{Row}
use Rattle.syn_rows.specs.declared.Row.TheVariants.{Free}
use Rattle.syn_rows.specs.Rows.{node_of, row_at}
use Rattle.syn_hashed.specs.Compacting.{is_kept, kept_below, moved_lit, moved_row, kept_from, kept_rows}

pub below_kept : (keep : ℕ → Bool) (n : ℕ) → keep n ≡ true → kept_below keep (suc n) ≡ kept_below keep n + 1
below_kept keep n k = ap (λ x. kept_below keep n + x) (cond-true (keep n) 1 0 k)

pub below_dropped : (keep : ℕ → Bool) (n : ℕ) → keep n ≡ false → kept_below keep (suc n) ≡ kept_below keep n
below_dropped keep n k = let s : kept_below keep (suc n) ≡ kept_below keep n + 0 = ap (λ x. kept_below keep n + x) (cond-false (keep n) 1 0 k) in omega (arith, s)

below_step : (keep : ℕ → Bool) (n : ℕ) → kept_below keep n ≤ kept_below keep (suc n)
below_step keep n = elim (cases_Bool (keep n)) [ inl k ↦ omega (arith, below_kept keep n k) | inr k ↦ omega (arith, below_dropped keep n k) ]

pub below_rises : (keep : ℕ → Bool) (m n : ℕ) → m ≤ n → kept_below keep m ≤ kept_below keep n
below_rises keep m zero h = let e : m ≡ 0 = omega arith in omega (arith, ap (kept_below keep) e)
below_rises keep m (suc n) h = elim (cases_eq m (suc n)) [
  | inl e ↦ omega (arith, ap (kept_below keep) e)
  | inr ne ↦ omega (arith, below_rises keep m n (omega arith), below_step keep n)
]

pub below_kept_rises : (keep : ℕ → Bool) (m n : ℕ) → keep m ≡ true → m < n → kept_below keep m < kept_below keep n
below_kept_rises keep m n k lt = omega (arith, below_kept keep m k, below_rises keep (suc m) n (omega arith))

-- kept nodes move to different places
pub kept_apart : (keep : ℕ → Bool) (m n : ℕ) → keep m ≡ true → keep n ≡ true → kept_below keep m ≡ kept_below keep n → m ≡ n
kept_apart keep m n km kn e = elim (cases_lt m n) [
  | inl lt ↦ absurd (omega (arith, below_kept_rises keep m n km lt))
  | inr ge ↦ elim (cases_lt n m) [
    | inl lt ↦ absurd (omega (arith, below_kept_rises keep n m kn lt))
    | inr le ↦ omega arith
  ]
]

-- each place below that of n is some kept node's
pub kept_onto : (keep : ℕ → Bool) (n j : ℕ) → j < kept_below keep n → (m : ℕ) × (m < n) × (keep m ≡ true) × (kept_below keep m ≡ j)
kept_onto keep zero j lt = absurd (omega arith)
kept_onto keep (suc n) j lt = elim (cases_lt j (kept_below keep n)) [
  | inl l ↦ let (m, below, k, e) = kept_onto keep n j l in (m, omega arith, k, e)
  | inr ge ↦ elim (cases_Bool (keep n)) [
    | inl k ↦ (n, omega arith, k, omega (arith, below_kept keep n k))
    | inr k ↦ absurd (omega (arith, below_dropped keep n k))
  ]
]

pub front_kept : (count : ℕ) (set : ℕ → Bool) (n : ℕ) → n < count + 1 → is_kept count set n ≡ true
front_kept count set n lt = or_left (nat_lt n (count + 1)) (set n) (lt-ltb n (count + 1) lt)

-- node 0 and the sources stay where they are
pub front_stays : (count : ℕ) (set : ℕ → Bool) (n : ℕ) → n ≤ count + 1 → kept_below (is_kept count set) n ≡ n
front_stays count set zero h = refl
front_stays count set (suc n) h = omega (arith, below_kept (is_kept count set) n (front_kept count set n (omega arith)), front_stays count set n (omega arith))

-- rows

length-one : (b : Bool) (row : Row) → length (if b then row ∷ [] else []) ≡ (if b then 1 else 0)
length-one true row = refl
length-one false row = refl

below_more : (keep : ℕ → Bool) (n : ℕ) → kept_below keep (n + 1) ≡ kept_below keep n + (if keep n then 1 else 0)
below_more keep n = ap (kept_below keep) (let s : n + 1 ≡ suc n = omega arith in s)

pub length-kept_from : (keep : ℕ → Bool) (n : ℕ) (rows : List Row) → length (kept_from keep n rows) + kept_below keep n ≡ kept_below keep (n + length rows)
length-kept_from keep n [] = let same : kept_below keep n ≡ kept_below keep (n + 0) = ap (kept_below keep) (let s : n ≡ n + 0 = omega arith in s) in omega (arith, same)
length-kept_from keep n (row ∷ rows) =
    let moved = moved_row (kept_below keep) row in
    let one : length (if keep n then moved ∷ [] else []) ≡ (if keep n then 1 else 0) = length-one (keep n) moved in
    let same : kept_below keep (n + 1 + length rows) ≡ kept_below keep (n + suc (length rows)) = ap (kept_below keep) (let s : n + 1 + length rows ≡ n + suc (length rows) = omega arith in s) in
    omega (arith, one, same, below_more keep n, length-kept_from keep (n + 1) rows, length-append (if keep n then moved ∷ [] else []) (kept_from keep (n + 1) rows))

pub length-kept : (keep : ℕ → Bool) (rows : List Row) → length (kept_rows keep rows) ≡ kept_below keep (length rows)
length-kept keep rows = let same : kept_below keep (0 + length rows) ≡ kept_below keep (length rows) = ap (kept_below keep) (let s : 0 + length rows ≡ length rows = omega arith in s) in omega (arith, same, length-kept_from keep 0 rows)

-- a kept row stands, moved, where its node moves to
kept_at_from : (keep : ℕ → Bool) (n : ℕ) (rows : List Row) (m k j : ℕ) → m < length rows → k ≡ n + m → keep k ≡ true → j + kept_below keep n ≡ kept_below keep k
    → get_or (kept_from keep n rows) j Free ≡ moved_row (kept_below keep) (get_or rows m Free)
kept_at_from keep n [] m k j lt e h p = absurd (omega arith)
kept_at_from keep n (row ∷ rows) zero k j lt e h p =
    let same : k ≡ n = omega arith in
    let at : j ≡ 0 = omega (arith, ap (kept_below keep) same) in
    let moved = moved_row (kept_below keep) row in
    ap (λ (l : List Row). get_or (l ++ kept_from keep (n + 1) rows) j Free) (cond-true (keep n) (moved ∷ []) [] (ap keep (sym same) ∙ h))
    ∙ ap (λ i. get_or (moved ∷ kept_from keep (n + 1) rows) i Free) at
kept_at_from keep n (row ∷ rows) (suc m) k j lt e h p =
    let moved = moved_row (kept_below keep) row in
    let rest = kept_from keep (n + 1) rows in
    elim (cases_Bool (keep n)) [
      | inl kn ↦
          let one : kept_below keep (n + 1) ≡ kept_below keep n + 1 = ap (kept_below keep) (let s : n + 1 ≡ suc n = omega arith in s) ∙ below_kept keep n kn in
          let up = below_rises keep (n + 1) k (omega arith) in
          let at : j ≡ suc (j - 1) = omega arith in
          ap (λ (l : List Row). get_or (l ++ rest) j Free) (cond-true (keep n) (moved ∷ []) [] kn)
          ∙ ap (λ i. get_or (moved ∷ rest) i Free) at
          ∙ kept_at_from keep (n + 1) rows m k (j - 1) (omega arith) (omega arith) h (omega arith)
      | inr kn ↦
          let one : kept_below keep (n + 1) ≡ kept_below keep n = ap (kept_below keep) (let s : n + 1 ≡ suc n = omega arith in s) ∙ below_dropped keep n kn in
          ap (λ (l : List Row). get_or (l ++ rest) j Free) (cond-false (keep n) (moved ∷ []) [] kn)
          ∙ kept_at_from keep (n + 1) rows m k j (omega arith) (omega arith) h (omega arith)
    ]

pub kept_at : (keep : ℕ → Bool) (rows : List Row) (m : ℕ) → m < length rows → keep m ≡ true → row_at (kept_rows keep rows) (kept_below keep m) ≡ moved_row (kept_below keep) (row_at rows m)
kept_at keep rows m lt h = kept_at_from keep 0 rows m m (kept_below keep m) lt (omega arith) h (omega arith)

pub kept_there : (keep : ℕ → Bool) (rows : List Row) (m : ℕ) → m < length rows → keep m ≡ true → kept_below keep m < length (kept_rows keep rows)
kept_there keep rows m lt h = omega (arith, length-kept keep rows, below_kept_rises keep m (length rows) h lt)

pub below_le : (keep : ℕ → Bool) (n : ℕ) → kept_below keep n ≤ n
below_le keep zero = omega arith
below_le keep (suc n) = elim (cases_Bool (keep n)) [ inl k ↦ omega (arith, below_kept keep n k, below_le keep n) | inr k ↦ omega (arith, below_dropped keep n k, below_le keep n) ]

-- literals

pub moved_node : (place : ℕ → ℕ) (l : Lit) → node_of (moved_lit place l) ≡ place (node_of l)
moved_node place l = omega arith

-- one more row
pub kept_step : (keep : ℕ → Bool) (b : Bool) (n : ℕ) (row : Row) (rest left done new whole : List Row) → left ≡ row ∷ rest → b ≡ keep n
    → new ≡ done ++ (if b then moved_row (kept_below keep) row ∷ [] else []) → done ++ kept_from keep n left ≡ whole → new ++ kept_from keep (n + 1) rest ≡ whole
kept_step keep b n row rest left done new whole l k e h =
    ap (λ (x : List Row). x ++ kept_from keep (n + 1) rest) (e ∙ ap (λ (t : Bool). done ++ (if t then moved_row (kept_below keep) row ∷ [] else [])) k)
    ∙ append_assoc done (if keep n then moved_row (kept_below keep) row ∷ [] else []) (kept_from keep (n + 1) rest)
    ∙ ap (λ (x : List Row). done ++ kept_from keep n x) (sym l) ∙ h

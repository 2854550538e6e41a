-- Keys by number rise along references.
use Rattle.std.proofs.Common.{◌≡◌, ℕ, ◌+◌, ◌*◌, ◌<◌, ◌^◌, true, List, [], ◌∷◌, ◌++◌, length, get_or, refl, ap, sym, ◌∙◌, subst, arith, inl, inr}
use Rattle.std.proofs.lemmas.Bool.{cases_lt}
use Rattle.std.proofs.lemmas.List.{get_or_append_left, get_or_past, get_or_push}
use Rattle.syn_rows.specs.declared.Lit.{Lit}
use Rattle.syn_rows.specs.declared.Row.{Row}
use Rattle.syn_rows.specs.declared.Row.TheVariants.{Free, Source, And, Alias}
use Rattle.syn_rows.specs.Rows.{node_of, row_at, AllRefs, Rises}
use Rattle.syn_hashed.specs.Hashed.{is_gate, IsHashed}
use Rattle.syn_hashed.proofs.Orders.{hashed_in_order}
use Rattle.syn_pool.specs.Keys.{HasKeys, key_of_row}

-- the keys of the rows before one, and that of the row behind them
pub pushed : (rows : List Row) (keys : List ℕ) (n : ℕ) → length keys ≡ n → ((i : ℕ) → i < n → get_or keys i 0 ≡ key_of_row i (row_at rows i)) → (i : ℕ) → i < n + 1 → get_or (keys ++ key_of_row n (row_at rows n) ∷ []) i 0 ≡ key_of_row i (row_at rows i)
pushed rows keys n long all i lt = elim (cases_lt i n) [
  | inl low ↦ get_or_append_left keys (key_of_row n (row_at rows n) ∷ []) 0 i (omega (arith, low, long)) ∙ all i low
  | inr high ↦ let same : n ≡ i = omega arith in get_or_push keys (key_of_row n (row_at rows n)) 0 i (long ∙ same) ∙ ap (λ j. key_of_row j (row_at rows j)) same
]

-- also past the rows
pub at_each : (rows : List Row) (keys : List ℕ) → HasKeys rows keys → (n : ℕ) → get_or keys n 0 ≡ key_of_row n (row_at rows n)
at_each rows keys h n = elim (cases_lt n (length rows)) [
  | inl inside ↦ h.each n inside
  | inr past ↦ get_or_past keys n 0 (omega (arith, h.count, past)) ∙ sym (ap (key_of_row n) (get_or_past rows n Free past))
]

pub source_keys : (rows : List Row) (keys : List ℕ) → HasKeys rows keys → (n : ℕ) → row_at rows n ≡ Source → get_or keys n 0 ≡ 0
source_keys rows keys h n e = at_each rows keys h n ∙ ap (key_of_row n) e

-- a key is at most that of an AND with the number
at_most : (m : ℕ) (row : Row) → key_of_row m row < m * 2 ^ 32 + 1
at_most m Free = omega arith
at_most m Source = omega arith
at_most m (And a b) = omega arith
at_most m (Alias a) = omega arith

-- an alias is none of a graph's rows
no_alias : (count : ℕ) (rows : List Row) (n : ℕ) (a : Lit) → IsHashed count rows → row_at rows n ≡ Alias a → ⊥
no_alias count rows n a h e = elim (cases_lt n (count + 1)) [
  | inl front ↦ (let f = h.front n front in absurd (cc))
  | inr above ↦ elim (cases_lt n (length rows)) [
    | inl inside ↦ (let g : is_gate n (Alias a) ≡ true = subst (λ r. is_gate n r ≡ true) e (h.gates n (omega arith) inside) in absurd (cc))
    | inr past ↦ (let f : row_at rows n ≡ Free = get_or_past rows n Free past in absurd (cc))
  ]
]

-- an AND's key is above those of smaller nodes
above : (rows : List Row) (keys : List ℕ) → HasKeys rows keys → (m n : ℕ) (a b : Lit) → row_at rows n ≡ And a b → m < n → get_or keys m 0 < get_or keys n 0
above rows keys h m n a b e lt =
    let low = at_most m (row_at rows m) in
    let own : get_or keys n 0 ≡ n * 2 ^ 32 = at_each rows keys h n ∙ ap (key_of_row n) e in
    omega (arith, low, own, lt, at_each rows keys h m)

pub keys_rise : (count : ℕ) (rows : List Row) (keys : List ℕ) → IsHashed count rows → HasKeys rows keys → Rises rows (λ n. get_or keys n 0)
keys_rise count rows keys hashed h n = go (row_at rows n) refl
  where
    go : (row : Row) → row_at rows n ≡ row → AllRefs (λ m. get_or keys m 0 < get_or keys n 0) row
    go Free e = tt
    go Source e = tt
    go (And a b) e =
        let below = subst (AllRefs (λ m. m < n)) e (hashed_in_order count rows hashed n) in
        (above rows keys h (node_of a) n a b e below.0, above rows keys h (node_of b) n a b e below.1)
    go (Alias a) e = absurd (no_alias count rows n a hashed e)

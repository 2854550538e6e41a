-- Keys by level: 0 at the sources, rising along references.
use Rattle.std.proofs.Common.{◌≡◌, ℕ, zero, suc, ◌+◌, ◌<◌, max, true, List, [], ◌∷◌, length, map, get_or, refl, ap, ◌∙◌, subst, arith, inl, inr}
use Rattle.std.proofs.lemmas.Bool.{cases_lt}
use Rattle.std.proofs.lemmas.List.{get_or_past, length-map}
use Rattle.syn_rows.specs.declared.Lit.{Lit}
use Rattle.syn_rows.specs.declared.Row.{Row}
use Rattle.syn_rows.specs.declared.Row.TheVariants.{Free, Source, And, Alias}
use Rattle.syn_rows.specs.Rows.{node_of, row_at, AllRefs, Rises}
use Rattle.syn_rows.specs.Levels.{row_level, level_in, levels_of}
use Rattle.syn_hashed.specs.Hashed.{is_gate, IsHashed}
use Rattle.syn_hashed.proofs.LevelLaws.{length-levels, level_step}
use Rattle.syn_table.specs.Keys.{key_of_level, spread_of}

mapped_at : (levels : List ℕ) (n : ℕ) → get_or (map key_of_level levels) n 0 ≡ key_of_level (level_in levels n)
mapped_at [] n = refl
mapped_at (l ∷ ls) zero = refl
mapped_at (l ∷ ls) (suc n) = mapped_at ls n

key_at : (rows : List Row) (n : ℕ) → get_or (spread_of rows) n 0 ≡ key_of_level (level_in (levels_of rows) n)
key_at rows n = mapped_at (levels_of rows) n

spaced : (a b : ℕ) → a < b → key_of_level a < key_of_level b
spaced a b lt = omega arith

-- an alias is none of a graph's rows
no_alias : (count : ℕ) (rows : List Row) (n : ℕ) (a : Lit) → IsHashed count rows → row_at rows n ≡ Alias a → ⊥
no_alias count rows n a h e = elim (cases_lt n (count + 1)) [
  | inl front ↦ (let f = h.front n front in absurd (cc))
  | inr above ↦ elim (cases_lt n (length rows)) [
    | inl inside ↦ (let g : is_gate n (Alias a) ≡ true = subst (λ r. is_gate n r ≡ true) e (h.gates n (omega arith) inside) in absurd (cc))
    | inr past ↦ (let f : row_at rows n ≡ Free = get_or_past rows n Free past in absurd (cc))
  ]
]

pub source_keys : (count : ℕ) (rows : List Row) → IsHashed count rows → (n : ℕ) → row_at rows n ≡ Source → get_or (spread_of rows) n 0 ≡ 0
source_keys count rows h n e = key_at rows n ∙ ap key_of_level (level_step count rows h n ∙ ap (row_level (level_in (levels_of rows)) n) e)

pub keys_rise : (count : ℕ) (rows : List Row) → IsHashed count rows → Rises rows (λ n. get_or (spread_of rows) n 0)
keys_rise count rows h n = go (row_at rows n) refl
  where
    level : ℕ → ℕ
    level = level_in (levels_of rows)

    higher : (m : ℕ) → level m < level n → get_or (spread_of rows) m 0 < get_or (spread_of rows) n 0
    higher m lt = let gap = spaced (level m) (level n) lt in omega (arith, key_at rows m, key_at rows n, gap)

    go : (row : Row) → row_at rows n ≡ row → AllRefs (λ m. get_or (spread_of rows) m 0 < get_or (spread_of rows) n 0) row
    go Free e = tt
    go Source e = tt
    go (And a b) e =
        let step : level n ≡ max (level (node_of a)) (level (node_of b)) + 1 = level_step count rows h n ∙ ap (row_level level n) e in
        (higher (node_of a) (omega arith), higher (node_of b) (omega arith))
    go (Alias a) e = absurd (no_alias count rows n a h e)

pub spread_length : (rows : List Row) → length (spread_of rows) ≡ length rows
spread_length rows = omega (arith, length-map (levels_of rows) key_of_level, length-levels rows)

-- For each choice of source values a valuation fits the rows of a sound core: values by keys.
use Rattle.std.proofs.Common.{◌≡◌, ℕ, zero, suc, ◌%◌, ◌<◌, ◌&&◌, not, Bool, nat_eq, if◌then◌else◌, List, get_or, refl, ap, ap₂, ◌∙◌, arith}
use Rattle.syn_rows.specs.declared.Row.{Row}
use Rattle.syn_rows.specs.declared.Row.TheVariants.{Free, Source, And, Alias}
use Rattle.syn_rows.specs.declared.Lit.{Lit}
use Rattle.syn_rows.specs.Rows.{row_at, node_of}
use Rattle.syn_rows.specs.Values.{lit_value, row_value, RowFits}
use Rattle.syn_core_laws.specs.Sound.{RowRests}
use Rattle.syn_core_laws.specs.Runs.{SomeValuation}

lit_same : (v w : ℕ → Bool) (l : Lit) → v (node_of l) ≡ w (node_of l) → lit_value v l ≡ lit_value w l
lit_same v w l e = ap (λ z. if nat_eq (l.0 % 2) 0 then z else not z) e

module _ (rows : List Row) (keys : List ℕ) (given : ℕ → Bool) (rests : (n : ℕ) → RowRests rows keys n (row_at rows n)) where
  -- the value by this many rows
  value_down : ℕ → ℕ → Bool
  value_down zero n = given n
  value_down (suc k) n = row_value given (value_down k) n (row_at rows n)

  -- more rows than the key don't matter
  enough : (k j n : ℕ) → get_or keys n 0 < k → get_or keys n 0 < j → value_down k n ≡ value_down j n
  unfolding value_down
  enough zero j n lt lt' = absurd (omega arith)
  enough (suc k) zero n lt lt' = absurd (omega arith)
  enough (suc k) (suc j) n lt lt' = go (row_at rows n) (rests n) (enough k j)
    where
      go : (r : Row) → RowRests rows keys n r → ((m : ℕ) → get_or keys m 0 < k → get_or keys m 0 < j → value_down k m ≡ value_down j m) → row_value given (value_down k) n r ≡ row_value given (value_down j) n r
      go Free rest ih = refl
      go Source rest ih = refl
      go (And a b) rest ih =
          ap₂ (λ x y. x && y) (lit_same (value_down k) (value_down j) a (ih (node_of a) (omega (arith, rest.0.1)) (omega (arith, rest.0.1))))
          (lit_same (value_down k) (value_down j) b (ih (node_of b) (omega (arith, rest.1.1)) (omega (arith, rest.1.1))))
      go (Alias a) rest ih = lit_same (value_down k) (value_down j) a (ih (node_of a) (omega (arith, rest.1)) (omega (arith, rest.1)))

  value_at : ℕ → Bool
  value_at n = value_down (suc (get_or keys n 0)) n

  value_there : (n : ℕ) → value_at n ≡ row_value given (value_down (get_or keys n 0)) n (row_at rows n)
  unfolding value_at value_down
  value_there n = refl

  below_is : (n m : ℕ) → get_or keys m 0 < get_or keys n 0 → value_down (get_or keys n 0) m ≡ value_at m
  unfolding value_at
  below_is n m lt = enough (get_or keys n 0) (suc (get_or keys m 0)) m lt (omega arith)

  each_fits : (n : ℕ) → RowFits value_at n (row_at rows n)
  each_fits n = go (row_at rows n) refl (rests n)
    where
      go : (r : Row) → row_at rows n ≡ r → RowRests rows keys n r → RowFits value_at n r
      go Free e rest = tt
      go Source e rest = tt
      go (And a b) e rest =
          value_there n ∙ (ap (row_value given (value_down (get_or keys n 0)) n) e ∙ ap₂ (λ x y. x && y) (lit_same (value_down (get_or keys n 0)) value_at a (below_is n (node_of a) rest.0.1)) (lit_same (value_down (get_or keys n 0)) value_at b (below_is n (node_of b) rest.1.1)))
      go (Alias a) e rest = value_there n ∙ (ap (row_value given (value_down (get_or keys n 0)) n) e ∙ lit_same (value_down (get_or keys n 0)) value_at a (below_is n (node_of a) rest.1))

  source_is : (n : ℕ) → row_at rows n ≡ Source → value_at n ≡ given n
  source_is n e = value_there n ∙ ap (row_value given (value_down (get_or keys n 0)) n) e

pub some_valuation : SomeValuation
some_valuation c given s zero_is = (
  value_at c.rows c.keys given s.rests,
  record { constant = source_is c.rows c.keys given s.rests 0 s.constant ∙ zero_is; each = each_fits c.rows c.keys given s.rests },
  source_is c.rows c.keys given s.rests,
)

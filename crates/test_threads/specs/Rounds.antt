-- What a seat knows while it makes a row in a spare node and frees it again.
use Rattle.std.specs.Prelude.{◌≡◌, ℕ, List, [], ◌∷◌}
use Rattle.syn_rows.specs.declared.Row.{Row}
use Rattle.syn_rows.specs.declared.Row.TheVariants.{Free}
use Rattle.syn_core_laws.specs.declared.View.{View}
use Rattle.test_threads.specs.Rewriting.{and}

-- the seat holds the node alone, and has these known rows, pins and zero list
pub record HoldsOne (n : ℕ) (rows : List (ℕ × Row)) (pins idle : List ℕ) (v : View) : Type 0 where
  pub held : v.held ≡ n ∷ []
  pub told : v.rows ≡ rows
  pub own : v.pins ≡ pins
  pub zeros : v.idle ≡ idle

-- it holds nothing, knows no row and has no pin
pub record HoldsNone (v : View) : Type 0 where
  pub held : v.held ≡ []
  pub told : v.rows ≡ []
  pub own : v.pins ≡ []
  pub zeros : v.idle ≡ []

-- the node's row was loaded as free; then an AND was made there; then it was freed
abbrev pub loaded : ℕ → List (ℕ × Row)
loaded n = (n, Free) ∷ []

abbrev pub remade : ℕ → List (ℕ × Row)
remade n = (n, and 0 1) ∷ loaded n

abbrev pub freed_again : ℕ → List (ℕ × Row)
freed_again n = (n, Free) ∷ remade n

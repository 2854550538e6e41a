-- Seats between their turns and commits.
use Rattle.std.specs.Prelude.{◌≡◌, ℕ, List, [], ◌∷◌}
use Rattle.syn_core_laws.specs.declared.View.{View}
use Rattle.syn_table.specs.declared.Known.{Known}

-- the seat has these numbers, and holds and pins nothing
pub record IsResting (numbers : List ℕ) (k : Known) : Type 0 where
  pub has : k.numbers ≡ numbers
  pub held : k.core.held ≡ []
  pub pins : k.core.pins ≡ []
  pub idle : k.core.idle ≡ []

-- the seat holds nothing and has one pin, of this node, and nothing is on its zero list
pub record HasPinned (n : ℕ) (v : View) : Type 0 where
  pub held : v.held ≡ []
  pub pins : v.pins ≡ n ∷ []
  pub idle : v.idle ≡ []

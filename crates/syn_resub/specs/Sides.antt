-- Divisors that may stand in the AND of two.
use Rattle.std.specs.Prelude.{◌≡◌, ℕ, ◌||◌, not, Bool, List, length}
use Rattle.syn_rows.specs.declared.Lit.{Lit}
use Rattle.syn_rows.specs.declared.Row.{Row}
use Rattle.syn_rows.specs.Joining.{complement, lit_of}
use Rattle.syn_rows.specs.Rows.{node_of}
use Rattle.syn_cones.specs.Values.{value_over}
use Rattle.syn_resub.specs.declared.sides.Sides.{Sides}
use Rattle.syn_resub.specs.Divided.{IsSide, implies, lit_over}

-- a node, or its complement, implies the literal
abbrev pub may_stand_by : List Row → List ℕ → ℕ → Lit → Bool
may_stand_by rows leaves node l =
    implies (length leaves) (value_over rows leaves node) (lit_over rows leaves l) || implies (length leaves) (λ xs. not (value_over rows leaves node xs)) (lit_over rows leaves l)

-- it implies a literal of the divisor
abbrev pub may_stand : List Row → List ℕ → ℕ → ℕ → Bool
may_stand rows leaves node d = may_stand_by rows leaves node (lit_of d) || may_stand_by rows leaves node (complement (lit_of d))

-- the divisor whose literals they are
abbrev pub divisor_of : Sides → ℕ
divisor_of s = node_of s.plain.lit

-- Both literals of a divisor.
pub record AreSides (rows : List Row) (leaves : List ℕ) (node : ℕ) (s : Sides) : Type 0 where
  pub plain : IsSide rows leaves node s.plain
  pub complemented : IsSide rows leaves node s.complemented
  pub plain_lit : s.plain.lit ≡ lit_of (divisor_of s)
  pub complemented_lit : s.complemented.lit ≡ complement (lit_of (divisor_of s))

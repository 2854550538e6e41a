-- A plan placed in rows: each of its gates becomes the AND of the literals of its two.
use Rattle.std.specs.Prelude.{◌≡◌, true, List, [], ◌∷◌, ◌++◌}
use Rattle.syn_rows.specs.declared.Lit.{Lit}
use Rattle.syn_rows.specs.declared.Row.{Row}
use Rattle.syn_rows.specs.declared.Row.TheVariants.{And}
use Rattle.syn_rows.specs.Joining.{constant}
use Rattle.syn_rows.specs.Reach.{is_and}
use Rattle.syn_hashed.specs.Joined.{joined_lit, joined_rows}
use Rattle.syn_plan.specs.declared.PLit.{PLit}
use Rattle.syn_gain.specs.Placing.{literal_for}

-- rows, and the literals that a plan's indexes became in them
pub record PlacedGates : Type 0 where
  pub rows : List Row
  pub literals : List Lit

-- one gate more
abbrev pub with_gate : PlacedGates → PLit × PLit → PlacedGates
with_gate s gate = record {
  rows = joined_rows s.rows (literal_for s.literals gate.0) (literal_for s.literals gate.1);
  literals = s.literals ++ joined_lit s.rows (literal_for s.literals gate.0) (literal_for s.literals gate.1) ∷ [];
}

-- the gates of a plan in order
abbrev pub with_gates : PlacedGates → List (PLit × PLit) → PlacedGates
with_gates s [] = s
with_gates s (gate ∷ gates) = with_gates (with_gate s gate) gates

-- the rows after a plan with these gates over these literals of its leaves, and what its indexes became
abbrev pub placed_gates : List Row → List Lit → List (PLit × PLit) → PlacedGates
placed_gates rows leaves gates = with_gates (record { rows = rows; literals = constant ∷ leaves }) gates

-- The row is an AND that the rows before it lack: to join its two literals to them adds it.
pub record IsLacking (before : List Row) (row : Row) : Type 0 where
  pub an_and : is_and row ≡ true
  pub added : (a b : Lit) → row ≡ And a b → joined_rows before a b ≡ before ++ row ∷ []

-- New rows of which each is an AND that those before it lack.
abbrev pub AreLacking : List Row → List Row → Type 0
AreLacking rows [] = Unit {0}
AreLacking rows (row ∷ extra) = IsLacking rows row × AreLacking (rows ++ row ∷ []) extra

-- Literals of signals while the LUTs of a net are made rows.
use Rattle.std.specs.Prelude.{◌≡◌, ℕ, ◌+◌, ◌<◌, nat_lt, All, Bool, true, List, length, map}
use Rattle.std.specs.List.{list_all}
use Rattle.syn_rows.specs.declared.Lit.{Lit}
use Rattle.syn_rows.specs.declared.Row.{Row}
use Rattle.syn_rows.specs.Joining.{lit_of}
use Rattle.syn_rows.specs.Rows.{node_of}
use Rattle.syn_lists.specs.Numbers.{numbers_from}
use Rattle.syn_lutnet.specs.LutData.{Lut, lut_at}

-- each of the literals is of a row that is there
abbrev pub AllThere : List Row → List Lit → Type 0
AllThere rows lits = All (λ l. node_of l < length rows) lits

-- the signal is one of the first so many
abbrev pub reads_below : ℕ → ℕ → Bool
reads_below count i = nat_lt i count

-- each LUT reads only signals before it, of which there are so many before the first
abbrev pub ReadEarlier : ℕ → List Lut → Type 0
ReadEarlier count luts = (j : ℕ) → j < length luts → list_all (reads_below (count + j)) (lut_at luts j).inputs ≡ true

-- the plain literals of the first so many nodes
abbrev pub plain_literals : ℕ → List Lit
plain_literals count = map lit_of (numbers_from 0 count)

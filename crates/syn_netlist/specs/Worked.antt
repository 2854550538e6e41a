-- Worked netlists with what the definitions give on them.
use Rattle.std.specs.Prelude.{◌≡◌, ℕ, Bool, true, false, List, [], ◌∷◌, codes, Option, Some, None}
use Rattle.syn_netlist.specs.declared.LatchKind.{LatchKind}
use Rattle.syn_netlist.specs.declared.LatchKind.TheVariants as types
use Rattle.syn_netlist.specs.Costs.{cost_of}
use Rattle.syn_netlist.specs.Covers.{cover_value}
use Rattle.syn_netlist.specs.Faults.{first_undriven}
use Rattle.syn_netlist.specs.Lists.{Latch, Table, Frame, Netlist, sources, observed}
use Rattle.syn_netlist.specs.Order.{function_of}

abbrev latch : List ℕ → List ℕ → Option (LatchKind × Option (List ℕ)) → ℕ → Latch
latch feed output kind init = record { feed = feed; output = output; kind = kind; init = init }

abbrev table : List (List ℕ) → List ℕ → List (List ℕ) → Bool → Table
table inputs output rows on = record { inputs = inputs; output = output; rows = rows; on = on }

abbrev frame : List (List ℕ) → List (List ℕ) → List (List ℕ) → List Latch → Frame
frame inputs clocks outputs latches = record { model = codes "m"; inputs = inputs; clocks = clocks; outputs = outputs; latches = latches }

-- latches in all shapes: input d, clock c, output q
abbrev latched : Netlist
latched = record {
  frame = frame (codes "d" ∷ []) (codes "c" ∷ []) (codes "q" ∷ [])
      (latch (codes "d") (codes "q") None 3 ∷ latch (codes "d") (codes "r") None 0 ∷ latch (codes "d") (codes "s") (Some (types.Re, Some (codes "c"))) 3 ∷ latch (codes "d") (codes "t") (Some (types.Ah, None)) 1 ∷ []);
  tables = [];
}

-- an output that stands twice and feeds a latch; the clock a is the input a
abbrev twice : Netlist
twice = record { frame = frame (codes "a" ∷ []) (codes "a" ∷ codes "k" ∷ []) (codes "a" ∷ codes "a" ∷ []) (latch (codes "a") (codes "q") None 0 ∷ []); tables = [] }

-- y is a and b; b is read and never defined
abbrev undriven : Netlist
undriven = record { frame = frame (codes "a" ∷ []) [] (codes "y" ∷ []) []; tables = table (codes "a" ∷ codes "b" ∷ []) (codes "y") (codes "11" ∷ []) true ∷ [] }

-- p is x; x and y are each other
abbrev circling : Netlist
circling = record { frame = frame [] [] (codes "p" ∷ []) []; tables = table (codes "x" ∷ []) (codes "p") (codes "1" ∷ []) true ∷ table (codes "y" ∷ []) (codes "x") (codes "1" ∷ []) true ∷ table (codes "x" ∷ []) (codes "y") (codes "1" ∷ []) true ∷ [] }

-- y is the NAND of a and b, by the row of its off-set; z is a or b by two rows
abbrev gates : Netlist
gates = record {
  frame = frame (codes "a" ∷ codes "b" ∷ []) [] (codes "y" ∷ codes "z" ∷ []) [];
  tables = table (codes "a" ∷ codes "b" ∷ []) (codes "y") (codes "11" ∷ []) false ∷ table (codes "a" ∷ codes "b" ∷ []) (codes "z") (codes "1-" ∷ codes "-1" ∷ []) true ∷ [];
}

pub record Worked : Type 0 where
  pub latched_sources : sources latched.frame ≡ codes "d" ∷ codes "c" ∷ codes "q" ∷ codes "r" ∷ codes "s" ∷ codes "t" ∷ []
  pub latched_observed : observed latched.frame ≡ codes "q" ∷ codes "d" ∷ codes "c" ∷ []
  pub latched_driven : first_undriven latched ≡ None
  pub twice_sources : sources twice.frame ≡ codes "a" ∷ codes "k" ∷ codes "q" ∷ []
  pub twice_observed : observed twice.frame ≡ codes "a" ∷ []
  pub undriven_first : first_undriven undriven ≡ Some (codes "b")
  pub circling_driven : first_undriven circling ≡ None
  pub gates_cost : cost_of gates ≡ 7
  pub gates_low : function_of gates (false ∷ false ∷ []) ≡ true ∷ false ∷ []
  pub gates_mixed : function_of gates (true ∷ false ∷ []) ≡ true ∷ true ∷ []
  pub gates_high : function_of gates (true ∷ true ∷ []) ≡ false ∷ true ∷ []
  pub no_rows : cover_value [] true [] ≡ false
  pub no_rows_off : cover_value ([] ∷ []) false [] ≡ false
  pub one_row : cover_value ([] ∷ []) true [] ≡ true

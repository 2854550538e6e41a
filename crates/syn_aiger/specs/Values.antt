-- What a file means: valuations of its variables, which of them it lacks, and ANDs that read each other in a circle.
use Rattle.std.specs.Prelude.{◌≡◌, ℕ, ◌&&◌, not, All, Bool, true, false, List, [], ◌∷◌, ◌++◌, map, flat_map, find, Option, decimal}
use Rattle.syn_rows.specs.declared.Lit.{Lit}
use Rattle.syn_rows.specs.Values.{lit_value}
use Rattle.syn_netlist.specs.Lists.{Table}
use Rattle.syn_lists.specs.Numbers.{has_number}
use Rattle.syn_netlist.specs.Faults.{ReachesCircle}
use Rattle.syn_network.specs.Spelling.{sign_of}
use Rattle.syn_aiger_files.specs.declared.files.Aig.{Aig}
use Rattle.syn_aiger_files.specs.declared.files.AigAnd.{AigAnd}
use Rattle.syn_aiger_files.specs.Files.{latch_literal, next_of, variable_of}

-- a literal of a file is numbered as one of rows, a variable as a node
abbrev pub lit : ℕ → Lit
lit l = record { 0 = l }

-- the value of a literal: its variable's, or the opposite where it is complemented
abbrev pub value_of : (ℕ → Bool) → ℕ → Bool
value_of v l = lit_value v (lit l)

-- the AND's variable has the value of its right sides' AND
abbrev pub IsAndOf : (ℕ → Bool) → AigAnd → Type 0
IsAndOf v a = v (variable_of a.literal) ≡ (value_of v a.first && value_of v a.second)

-- A valuation of the variables fits: variable 0 is false, and each AND's variable has the AND of its two literals. There is no order of evaluation in this.
pub record FitsAig (g : Aig) (v : ℕ → Bool) : Type 0 where
  pub constant : v 0 ≡ false
  pub ands : All (IsAndOf v) g.ands

-- the literals of the sources: inputs, then latches
abbrev pub source_literals : Aig → List ℕ
source_literals g = g.inputs ++ map latch_literal g.latches

-- their variables
abbrev pub source_variables : Aig → List ℕ
source_variables g = map variable_of (source_literals g)

-- the variable that an AND defines
abbrev pub and_variable : AigAnd → ℕ
and_variable a = variable_of a.literal

-- the defined variables: the constant, the sources and the ANDs
abbrev pub defined_variables : Aig → List ℕ
defined_variables g = 0 ∷ (source_variables g ++ map and_variable g.ands)

-- the right sides of an AND
abbrev pub right_sides : AigAnd → List ℕ
right_sides a = a.first ∷ a.second ∷ []

-- every literal that is read, in file order: what latches load, the outputs, the right sides of ANDs
abbrev pub read_literals : Aig → List ℕ
read_literals g = map next_of g.latches ++ (g.outputs ++ flat_map right_sides g.ands)

-- the first variable that is read and not defined
abbrev pub first_undefined : Aig → Option ℕ
first_undefined g = find (λ v. not (has_number (defined_variables g) v)) (map variable_of (read_literals g))

-- a variable as a name
abbrev pub variable_word : ℕ → List ℕ
variable_word v = decimal v

-- an AND as a table of two inputs, over the variables as names
abbrev pub and_table : AigAnd → Table
and_table a = record {
  inputs = variable_word (variable_of a.first) ∷ variable_word (variable_of a.second) ∷ [];
  output = variable_word (and_variable a);
  rows = (sign_of (lit a.first) ∷ sign_of (lit a.second) ∷ []) ∷ [];
  on = true;
}

abbrev pub and_tables : Aig → List Table
and_tables g = map and_table g.ands

-- No AND is in a circle of ANDs, or reads into one.
abbrev pub NoCircle : Aig → Type 0
NoCircle g = (name : List ℕ) → ReachesCircle (and_tables g) name → ⊥

-- each AND reads only variables that are known or of ANDs above it
abbrev pub reads_above : List ℕ → List AigAnd → Bool
reads_above known [] = true
reads_above known (a ∷ ands) = has_number known (variable_of a.first) && (has_number known (variable_of a.second) && reads_above (known ++ and_variable a ∷ []) ands)

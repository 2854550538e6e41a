-- The faults of lines in a file of models.
use Rattle.std.specs.Prelude.{ℕ, ◌&&◌, Bool, true, false, if◌then◌else◌, List, [], ◌∷◌, ◌++◌, option_map, Option, Some, None}
use Rattle.std.specs.Option.{option_or}
use Rattle.syn_lex.specs.Lines.{bad_byte}
use Rattle.syn_models.specs.Models.{Subcircuit}
use Rattle.syn_netlist.specs.Words.{has_word}
use Rattle.syn_reader.specs.Faults.{Fault, BadByte, ModelTwice, SubcktShape, PortTwice}
use Rattle.syn_reader.specs.LineFaults.{Check, checks, where_holds, where_named, first_fault_of_lines}
use Rattle.syn_reader.specs.Shapes.{last_word}
use Rattle.syn_reader.specs.Statements.{Statement, statements, is_model, is_subckt}
use Rattle.syn_reader.specs.Parted.{by_model, name_in}
use Rattle.syn_reader.specs.Subcircuits.{subcircuit_of, bound_twice}

-- `.model` of a name that a model above has.
abbrev pub model_twice : List (List ℕ) → List Statement → Statement → Bool
model_twice names above s = is_model s.kind && has_word names (last_word s.words)

abbrev pub is_none : Option Subcircuit → Bool
is_none None = true
is_none (Some c) = false

-- `.subckt` whose words spell no subcircuit: without a model, or a word without `=`, with an empty side or with the actual `NIL`.
abbrev pub subckt_shape : List Statement → Statement → Bool
subckt_shape above s = is_subckt s.kind && is_none (subcircuit_of s.words)

-- The first formal that is bound before on its line.
abbrev pub port_twice : List Statement → Statement → Option (List ℕ)
port_twice above s = if is_subckt s.kind then bound_twice (subcircuit_of s.words) else None

-- The faults of a line of a model, in their order on one line, where models of these names stand above. What they ask of the statements above, they ask of those of the same model.
abbrev pub model_checks : List (List ℕ) → List Check
model_checks names =
    checks
    ++ (where_holds (model_twice names) ModelTwice
    ∷ where_holds subckt_shape SubcktShape
    ∷ where_named port_twice PortTwice
    ∷ [])

-- The fault of the first line, from the top, that has one, below models of these names.
abbrev pub first_fault_of_models : List (List ℕ) → List (List Statement) → Option Fault
first_fault_of_models names [] = None
first_fault_of_models names (m ∷ ms) = option_or (first_fault_of_lines (model_checks names) [] m) (first_fault_of_models (names ++ name_in m ∷ []) ms)

-- The first disallowed byte, or else the first fault of a line.
abbrev pub first_line_fault : List ℕ → Option Fault
first_line_fault bytes = option_or (option_map BadByte (bad_byte bytes)) (first_fault_of_models [] (by_model (statements bytes)))

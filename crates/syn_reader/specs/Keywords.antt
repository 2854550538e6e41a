-- The first fault of a line below one that has none, by its keyword.
use Rattle.std.specs.Prelude.{ℕ, nat_lt, ◌&&◌, not, Bool, if◌then◌else◌, List, length, option_map, Option, Some, None}
use Rattle.std.specs.Option.{option_or}
use Rattle.syn_lex.specs.Lines.{is_nil}
use Rattle.syn_reader.specs.declared.Kind.{Kind}
use Rattle.syn_reader.specs.declared.Kind.TheVariants as kinds
use Rattle.syn_reader.specs.Faults.{Fault, NoName, LatchShape, LatchType, LatchInit, DefinedTwice}
use Rattle.syn_reader.specs.LineFaults.{has_bad_type, has_bad_init}
use Rattle.syn_reader.specs.Definitions.{names_defined}
use Rattle.syn_reader.specs.Marking.{first_twice}

-- The fault that test finds.
abbrev pub fault_where : Bool → Fault → Option Fault
fault_where test fault = if test then Some fault else None

-- The fault of a `.latch` line with these words.
abbrev pub latch_fault : ℕ → List (List ℕ) → Option Fault
latch_fault line words =
    option_or (fault_where (not (nat_lt 1 (length words) && nat_lt (length words) 6)) (LatchShape line))
    (option_or (fault_where (has_bad_type words) (LatchType line)) (fault_where (has_bad_init words) (LatchInit line)))

-- The fault of the words of a line, whatever stands above it.
abbrev pub words_fault : Kind → ℕ → List (List ℕ) → Option Fault
words_fault kinds.Names line words = fault_where (is_nil words) (NoName line)
words_fault kinds.Latch line words = latch_fault line words
words_fault kind line words = None

-- The fault of a line: of its words, or else the first name that is defined twice, where the test says what is forbidden above.
abbrev pub line_fault : (Kind → List ℕ → Bool) → Kind → ℕ → List (List ℕ) → Option Fault
line_fault test kind line words = option_or (words_fault kind line words) (option_map (DefinedTwice line) (first_twice test kind (names_defined kind words)))

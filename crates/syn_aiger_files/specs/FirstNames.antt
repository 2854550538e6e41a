-- What is first called by a symbol, and bad states and constraints as outputs.
use Rattle.std.specs.Prelude.{ℕ, zero, suc, ◌+◌, if◌then◌else◌, List, [], ◌∷◌, ◌++◌, find, decimal, Option, Some, None}
use Rattle.syn_netlist.specs.Words.{is_word}
use Rattle.syn_aiger_files.specs.Files.{Header, OfBad, OfConstraint, OfOutput, Place, Symbol}
use Rattle.syn_aiger_files.specs.Symbols.{is_at, letter_of}

-- the symbol at a place of the list, from 0
abbrev pub nth_symbol : List Symbol → ℕ → Option Symbol
nth_symbol [] k = None
nth_symbol (s ∷ ss) zero = Some s
nth_symbol (s ∷ ss) (suc k) = nth_symbol ss k

-- the symbol that a number stands for: 0 for none, else its place from 1
abbrev pub symbol_by : List Symbol → ℕ → Option Symbol
symbol_by symbols zero = None
symbol_by symbols (suc k) = nth_symbol symbols k

-- a symbol's name where it is a word, else the other
abbrev pub word_or : List ℕ → Option Symbol → List ℕ
word_or other None = other
word_or other (Some symbol) = if is_word symbol.name then symbol.name else other

-- what stands at a place is first called: its symbol where that is a word, else its letter and its number
abbrev pub first_name : List Symbol → Place → ℕ → List ℕ
first_name symbols place index = word_or (letter_of place ∷ decimal index) (find (is_at place index) symbols)

-- symbols of outputs, from an index on, for so many of a place, from an index on: each by its first name
abbrev pub as_outputs : List Symbol → Place → ℕ → ℕ → ℕ → List Symbol
as_outputs symbols place index output zero = []
as_outputs symbols place index output (suc count) = record { place = OfOutput; index = output; name = first_name symbols place index } ∷ as_outputs symbols place (suc index) (output + 1) count

-- The symbols of a file, in front of which each bad state and each constraint has one as an output behind the file's own: by its own symbol, else `b` or `c` and its number.
abbrev pub with_properties : Header → List Symbol → List Symbol
with_properties h symbols = as_outputs symbols OfBad 0 h.outputs h.further.bad ++ (as_outputs symbols OfConstraint 0 (h.outputs + h.further.bad) h.further.constraints ++ symbols)

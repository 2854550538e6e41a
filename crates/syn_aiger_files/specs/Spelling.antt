-- What the bytes of a file say.
use Rattle.std.specs.Prelude.{ℕ, ◌+◌, ◌-◌, ◌*◌, ◌==◌, ◌&&◌, nat_le, Bool, true, false, if◌then◌else◌, List, [], ◌∷◌, length, codes, bytes_eq, option_map, Option, Some, None, Result, Ok, Err}
use Rattle.std.specs.List.{list_all}
use Rattle.syn_aiger_files.specs.declared.fault.AigFault.{AigFault}
use Rattle.syn_aiger_files.specs.declared.fault.AigFault.TheVariants as faults
use Rattle.syn_aiger_files.specs.Texts.{behind, first_line, lines_at, numbers_of, or_none, words_of}
use Rattle.syn_aiger_files.specs.Files.{Aig, Further, Header, Symbol, all_outputs}
use Rattle.syn_aiger_files.specs.Literals.{literals_from}
use Rattle.syn_aiger_files.specs.Parts.{Part, ands_in, and_then, inputs_in, latches_in, outputs_in, parts_of, wanted_by}
use Rattle.syn_aiger_files.specs.FirstNames.{with_properties}
use Rattle.syn_aiger_files.specs.Symbols.{symbols_of}

-- the greatest number of a first line
abbrev pub most_variables : ℕ
most_variables = 268435455

-- the word of a format: `aag` is ASCII, `aig` binary
abbrev pub format_of : List ℕ → Option Bool
format_of word = if bytes_eq word (codes "aag") then Some true else if bytes_eq word (codes "aig") then Some false else None

-- The variables are enough for what is defined; in a binary file they are exactly as many.
abbrev pub are_enough : Bool → ℕ → ℕ → Bool
are_enough true variables defined = nat_le defined variables
are_enough false variables defined = defined == variables

-- The counts that may follow the five of a first line: of bad states, constraints, justice properties and fairness constraints (AIGER 1.9). One that is absent is 0.
abbrev pub further_by : List ℕ → Option Further
further_by [] = Some (record { bad = 0; constraints = 0; justice = 0; fairness = 0 })
further_by (b ∷ []) = Some (record { bad = b; constraints = 0; justice = 0; fairness = 0 })
further_by (b ∷ c ∷ []) = Some (record { bad = b; constraints = c; justice = 0; fairness = 0 })
further_by (b ∷ c ∷ j ∷ []) = Some (record { bad = b; constraints = c; justice = j; fairness = 0 })
further_by (b ∷ c ∷ j ∷ f ∷ []) = Some (record { bad = b; constraints = c; justice = j; fairness = f })
further_by ns = None

-- the counts on the first line of a format
abbrev pub header_by : Option Bool → List ℕ → Option Header
header_by (Some ascii) (m ∷ i ∷ l ∷ o ∷ a ∷ ns) = option_map (λ further. record { ascii = ascii; variables = m; inputs = i; latches = l; outputs = o; ands = a; further = further }) (further_by ns)
header_by format numbers = None

-- the counts on the first line in words
abbrev pub header_in : List (List ℕ) → Option Header
header_in [] = None
header_in (word ∷ words) = header_by (format_of word) (or_none (numbers_of words))

-- no count is too great, and the variables are enough for what is defined
abbrev pub fits_numbers : Header → Bool
fits_numbers h =
    list_all (λ n. nat_le n most_variables) (h.variables ∷ h.inputs ∷ h.latches ∷ all_outputs h ∷ h.ands ∷ [])
    && are_enough h.ascii h.variables (h.inputs + h.latches + h.ands)

-- each count that may follow is 0
abbrev pub are_none : Further → Bool
are_none f = f.bad == 0 && (f.constraints == 0 && (f.justice == 0 && f.fairness == 0))

-- The counts that may follow, judged: where bad states and constraints are no outputs, each has to be 0; else justice properties and fairness constraints are a fault of their own.
abbrev pub taken_by : Bool → Header → Result Header AigFault
taken_by false h = if are_none h.further then Ok h else Err faults.Header
taken_by true h = if h.further.justice == 0 && h.further.fairness == 0 then Ok h else Err faults.Justice

-- a first line with its counts, or its fault
abbrev pub judged : Bool → Option Header → Result Header AigFault
judged properties None = Err faults.Header
judged properties (Some h) = if fits_numbers h then taken_by properties h else Err faults.Header

-- the first line of a file
abbrev pub header_of : Bool → List ℕ → Result Header AigFault
header_of properties bytes = judged properties (header_in (words_of (first_line bytes)))

-- the literals of the inputs: an ASCII file lists them, in a binary one they are the first
abbrev pub inputs_by : Header → List Part → List ℕ
inputs_by h parts = if h.ascii then inputs_in parts else literals_from 1 h.inputs

-- what the parts of a body and symbols say together
abbrev pub aig_by : Header → List Part → List Symbol → Aig
aig_by h parts symbols = record {
  variables = h.variables;
  inputs = inputs_by h parts;
  latches = latches_in parts;
  outputs = outputs_in parts;
  ands = ands_in parts;
  symbols = with_properties h symbols;
}

-- the same behind a first line, or the first fault of a file of so many bytes
abbrev pub spelled_by : ℕ → List ℕ → Header → Result Aig AigFault
spelled_by total bytes h =
    and_then (parts_of total (2 * h.variables + 1) [] (wanted_by h.ascii h) bytes)
    (λ got. and_then (symbols_of h [] (lines_at (total - length got.1) got.1)) (λ symbols. Ok (aig_by h got.0 symbols)))

-- What a file says, where by the mark bad states and constraints are outputs, or its first fault of a line, a pair or a symbol: its first line, its body by the format, symbols, comments.
abbrev pub spelled : Bool → List ℕ → Result Aig AigFault
spelled properties bytes = and_then (header_of properties bytes) (spelled_by (length bytes) (behind 10 bytes))

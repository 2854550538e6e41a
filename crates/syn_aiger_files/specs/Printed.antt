-- The bytes of a written file, in both formats (AIGER 1.9).
use Rattle.std.specs.Prelude.{ℕ, zero, suc, ◌+◌, ◌-◌, ◌/◌, ◌%◌, ◌==◌, nat_lt, Bool, true, false, if◌then◌else◌, List, [], ◌∷◌, ◌++◌, length, flat_map, codes, decimal}
use Rattle.syn_netlist.specs.TextLines.{line}
use Rattle.syn_aiger_files.specs.Files.{Aig, AigAnd, AigLatch, Symbol}
use Rattle.syn_aiger_files.specs.Symbols.{letter_of}

-- numbers as words
abbrev pub decimals : List ℕ → List (List ℕ)
decimals [] = []
decimals (n ∷ ns) = decimal n ∷ decimals ns

-- a line of numbers
abbrev pub number_line : ℕ → List ℕ → List ℕ
number_line n ns = line (decimal n) (decimals ns)

-- a line of one number
abbrev pub single : ℕ → List ℕ
single n = number_line n []

-- the reset of a latch, left out where it is 0
abbrev pub reset_of : AigLatch → List ℕ
reset_of latch = if latch.reset == 0 then [] else latch.reset ∷ []

-- a number in groups of seven bits, the least first, the high bit set where more follow, so many at most
abbrev pub grouped : ℕ → ℕ → List ℕ
grouped zero n = []
grouped (suc groups) n = if nat_lt n 128 then n ∷ [] else (128 + n % 128) ∷ grouped groups (n / 128)

-- the lines of inputs, latches and ANDs in an ASCII file
abbrev pub ascii_latch : AigLatch → List ℕ
ascii_latch latch = number_line latch.literal (latch.next ∷ reset_of latch)

abbrev pub ascii_and : AigAnd → List ℕ
ascii_and a = number_line a.literal (a.first ∷ a.second ∷ [])

-- the line of a latch and the pair of an AND in a binary file
abbrev pub binary_latch : AigLatch → List ℕ
binary_latch latch = number_line latch.next (reset_of latch)

abbrev pub binary_and : AigAnd → List ℕ
binary_and a = grouped 5 (a.literal - a.first) ++ grouped 5 (a.first - a.second)

-- the word of a format
abbrev pub format_word : Bool → List ℕ
format_word true = codes "aag"
format_word false = codes "aig"

-- the first line
abbrev pub first_line_of : Bool → Aig → List ℕ
first_line_of ascii g = line (format_word ascii) (decimals (g.variables ∷ length g.inputs ∷ length g.latches ∷ length g.outputs ∷ length g.ands ∷ []))

-- the body by the format
abbrev pub body_of : Bool → Aig → List ℕ
body_of true g = flat_map single g.inputs ++ (flat_map ascii_latch g.latches ++ (flat_map single g.outputs ++ flat_map ascii_and g.ands))
body_of false g = flat_map binary_latch g.latches ++ (flat_map single g.outputs ++ flat_map binary_and g.ands)

-- the line of a symbol: its letter and index, a blank, the name
abbrev pub symbol_line : Symbol → List ℕ
symbol_line s = line (letter_of s.place ∷ decimal s.index) (s.name ∷ [])

-- the bytes of a file: the first line, the body, the symbols, and no comments
abbrev pub printed : Bool → Aig → List ℕ
printed ascii g = first_line_of ascii g ++ (body_of ascii g ++ flat_map symbol_line g.symbols)

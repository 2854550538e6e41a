-- The bytes of a written netlist.
use Rattle.std.specs.Prelude.{ℕ, ◌+◌, Bool, if◌then◌else◌, List, [], ◌∷◌, ◌++◌, flat_map, Option, Some, None, codes}
use Rattle.syn_netlist.specs.declared.LatchKind.{LatchKind}
use Rattle.syn_netlist.specs.declared.LatchKind.TheVariants.{Fe, Re, Ah, Al, As}
use Rattle.syn_netlist.specs.Lists.{Frame, Latch, Table, Netlist}
use Rattle.syn_netlist.specs.TextLines.{line}

-- the word of a latch's kind
abbrev pub kind_word : LatchKind → List ℕ
kind_word Fe = codes "fe"
kind_word Re = codes "re"
kind_word Ah = codes "ah"
kind_word Al = codes "al"
kind_word As = codes "as"

-- the word of a latch's control, `NIL` where it is no signal
abbrev pub control_word : Option (List ℕ) → List ℕ
control_word None = codes "NIL"
control_word (Some name) = name

-- kind and control, where a kind is given
abbrev pub kind_words : Option (LatchKind × Option (List ℕ)) → List (List ℕ)
kind_words None = []
kind_words (Some (kind, control)) = kind_word kind ∷ control_word control ∷ []

-- the digit of a number below ten
abbrev pub digit : ℕ → List ℕ
digit n = (48 + n) ∷ []

-- a latch: what it loads, its output, its kind and control where given, its initial value's digit
abbrev pub latch_line : Latch → List ℕ
latch_line latch = line (codes ".latch") (latch.feed ∷ latch.output ∷ (kind_words latch.kind ++ digit latch.init ∷ []))

-- the output character of a table's rows
abbrev pub output_word : Bool → List ℕ
output_word on = if on then codes "1" else codes "0"

-- a row: its characters where the table has inputs, and the output character
abbrev pub row_line : Bool → List ℕ → List ℕ
row_line on [] = line (output_word on) []
row_line on (c ∷ cs) = line (c ∷ cs) (output_word on ∷ [])

-- a table: its inputs and its output, then its rows
abbrev pub table_lines : Table → List ℕ
table_lines t = line (codes ".names") (t.inputs ++ t.output ∷ []) ++ flat_map (row_line t.on) t.rows

-- the clocks, where there are any
abbrev pub clock_line : List (List ℕ) → List ℕ
clock_line [] = []
clock_line (c ∷ cs) = line (codes ".clock") (c ∷ cs)

-- the lines of a frame: model, inputs, outputs, clocks, latches
abbrev pub frame_lines : Frame → List ℕ
frame_lines f = line (codes ".model") (f.model ∷ []) ++ (line (codes ".inputs") f.inputs ++ (line (codes ".outputs") f.outputs ++ (clock_line f.clocks ++ flat_map latch_line f.latches)))

-- the bytes of a netlist: the lines of its frame, its tables in order, the end
abbrev pub printed : Netlist → List ℕ
printed n = frame_lines n.frame ++ (flat_map table_lines n.tables ++ line (codes ".end") [])

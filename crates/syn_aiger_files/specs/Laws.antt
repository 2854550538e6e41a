-- Laws of files.
use Rattle.std.specs.Prelude.{ℕ, ◌≡◌, ◌+◌, ◌*◌, ◌≤◌, ◌&&◌, not, nat_lt, nat_le, Bool, true, false, List, [], ◌∷◌, length, map, Ok}
use Rattle.std.specs.List.{list_all, list_any}
use Rattle.syn_netlist.specs.Words.{is_word}
use Rattle.syn_aiger_files.specs.Files.{Aig, AigAnd, AigLatch, OfInput, OfLatch, OfOutput, OfBad, OfConstraint, Place, Symbol, and_literal, latch_literal}
use Rattle.syn_aiger_files.specs.Literals.{literals_from}
use Rattle.syn_aiger_files.specs.Parts.{is_reset, may_read}
use Rattle.syn_aiger_files.specs.Printed.{printed}
use Rattle.syn_aiger_files.specs.Spelling.{most_variables, spelled}
use Rattle.syn_aiger_files.specs.Symbols.{is_at}

-- A latch and an AND that can be written.
abbrev pub latch_is_normal : ℕ → AigLatch → Bool
latch_is_normal most latch = may_read most latch.next && is_reset latch.literal latch.reset

abbrev pub and_is_normal : AigAnd → Bool
and_is_normal a = nat_lt a.first a.literal && nat_le a.second a.first

-- how many there are of a place
abbrev pub count_in : Aig → Place → ℕ
count_in g OfInput = length g.inputs
count_in g OfLatch = length g.latches
count_in g OfOutput = length g.outputs
count_in g OfBad = 0
count_in g OfConstraint = 0

-- Symbols that can be written behind these: each is of an input, a latch or an output that has none yet, and its name is a word.
abbrev pub are_symbols : Aig → List Symbol → List Symbol → Bool
are_symbols g given [] = true
are_symbols g given (s ∷ ss) = nat_lt s.index (count_in g s.place) && (not (list_any (is_at s.place s.index) given) && (is_word s.name && are_symbols g (s ∷ given) ss))

-- A file in the order in which it can be written in both formats: inputs, latches and ANDs are numbered one behind the other, right sides lie below their AND, the greater one first.
pub record IsNormal (g : Aig) : Type 0 where
  pub inputs : g.inputs ≡ literals_from 1 (length g.inputs)
  pub latches : map latch_literal g.latches ≡ literals_from (length g.inputs + 1) (length g.latches)
  pub ands : map and_literal g.ands ≡ literals_from (length g.inputs + length g.latches + 1) (length g.ands)
  pub variables : g.variables ≡ length g.inputs + length g.latches + length g.ands
  pub few : g.variables ≤ most_variables
  pub few_outputs : length g.outputs ≤ most_variables
  pub normal_latches : list_all (latch_is_normal (2 * g.variables + 1)) g.latches ≡ true
  pub read_outputs : list_all (may_read (2 * g.variables + 1)) g.outputs ≡ true
  pub normal_ands : list_all and_is_normal g.ands ≡ true
  pub symbols : are_symbols g [] g.symbols ≡ true

-- What is printed of such a file says it, in both formats, also where bad states and constraints may be outputs.
abbrev pub PrintedSays : Type 0
PrintedSays = (properties : Bool) (g : Aig) → IsNormal g → (ascii : Bool) → spelled properties (printed ascii g) ≡ Ok g

-- What a file says where bad states and constraints are refused, it says where they are outputs.
abbrev pub SaysWithMark : Type 0
SaysWithMark = (bytes : List ℕ) (g : Aig) → spelled false bytes ≡ Ok g → spelled true bytes ≡ Ok g

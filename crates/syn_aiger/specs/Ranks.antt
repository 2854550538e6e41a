-- Ranks of variables, by which no ANDs read each other in a circle; and the netlist of the ANDs' tables alone.
use Rattle.std.specs.Prelude.{ℕ, ◌<◌, [], ◌∷◌, map, codes}
use Rattle.std.specs.List.{AllByRecursion}
use Rattle.syn_netlist.specs.Lists.{Netlist}
use Rattle.syn_aiger_files.specs.declared.files.Aig.{Aig}
use Rattle.syn_aiger_files.specs.declared.files.AigAnd.{AigAnd}
use Rattle.syn_aiger_files.specs.Files.{variable_of}
use Rattle.syn_aiger.specs.Values.{and_tables, and_variable, source_variables, variable_word}

-- both variables that an AND reads rank below its own
abbrev pub ReadsBelow : (ℕ → ℕ) → AigAnd → Type 0
ReadsBelow rank a = (rank (variable_of a.first) < rank (and_variable a)) × (rank (variable_of a.second) < rank (and_variable a))

-- some rank rises along what ANDs read
abbrev pub HasRank : Aig → Type 0
HasRank g = (rank : ℕ → ℕ) × AllByRecursion (ReadsBelow rank) g.ands

-- The netlist of the ANDs' tables, whose inputs are the constant and the sources.
abbrev pub table_netlist : Aig → Netlist
table_netlist g = record {
  frame = record { model = codes "top"; inputs = map variable_word (0 ∷ source_variables g); clocks = []; outputs = []; latches = [] };
  tables = and_tables g;
}

use Rattle.std.proofs.Common.{◌≡◌, ℕ, List, map, take}
use Rattle.syn_netlist.specs.Marks.{AreMarks}
use Rattle.syn_lists.specs.Numbers.{without_numbers}
use Rattle.syn_netlist.specs.Walk.{table_output}
use Rattle.syn_gen.proofs.tables.unmarked_outputs.Given as goal

abbrev pub invariant-loop-table : goal.invariant-loop-table
invariant-loop-table l = (numbers : List ℕ) → AreMarks numbers l.marks → l.outputs.items ≡ without_numbers numbers (map table_output (take l.table-index l.tables))

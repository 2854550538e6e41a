-- Netlists that can be written, and the law that what is written reads as the netlist.
use Rattle.std.specs.Prelude.{◌≡◌, ℕ, ◌&&◌, not, nat_lt, Bool, true, length, bytes_eq}
use Rattle.std.specs.List.{list_all}
use Rattle.syn_netlist.specs.Words.{is_word}
use Rattle.syn_netlist.specs.Lists.{Latch, Table, Netlist, latch_reads, control_of}
use Rattle.syn_netlist.specs.Kept.{nil_word, rows_fit, polarity_fits}
use Rattle.syn_netlist.specs.Order.{DefinedOnce, Ordered}
use Rattle.syn_netlist.specs.Faults.{IsChecked}
use Rattle.syn_network.specs.GraphShape.{GraphShape}
use Rattle.syn_network.specs.LutShape.{LutShape}
use Rattle.syn_text.specs.Printed.{printed}
use Rattle.syn_reader.specs.Reading.{Reads}

-- A latch that can be written: its names are words, its control, where it is a signal, is not named `NIL`, and its initial value is 0, 1, 2 or 3 (BLIF manual, section .latch).
abbrev pub latch_fits : Latch → Bool
latch_fits latch =
    is_word latch.output && list_all is_word (latch_reads latch)
    && list_all (λ control. not (bytes_eq nil_word control)) (control_of latch.kind)
    && nat_lt latch.init 4

-- A table that can be written: its names are words, each row has one character for each input, and a table without rows is the constant 0 by its on-set (BLIF manual, section .names).
abbrev pub table_fits : Table → Bool
table_fits table =
    is_word table.output && list_all is_word table.inputs
    && rows_fit (length table.inputs) table.rows
    && polarity_fits table.rows table.on

-- A netlist that can be written: all names are words of the format, each latch and each table can be written, and no name is defined twice, apart from one that is an input and a clock.
pub record IsWellFormed (n : Netlist) : Type 0 where
  pub model : is_word n.frame.model ≡ true
  pub inputs : list_all is_word n.frame.inputs ≡ true
  pub clocks : list_all is_word n.frame.clocks ≡ true
  pub outputs : list_all is_word n.frame.outputs ≡ true
  pub latches : list_all latch_fits n.frame.latches ≡ true
  pub tables : list_all table_fits n.tables ≡ true
  pub once : DefinedOnce n

-- What a netlist that can be written and has no fault is written as, reads as that netlist.
abbrev pub PrintedReads : Type 0
PrintedReads = (n : Netlist) → IsWellFormed n → IsChecked n → Reads (printed n) n

-- An ordered netlist of graph shape has no fault.
abbrev pub ShapedIsChecked : Type 0
ShapedIsChecked = (n : Netlist) → GraphShape n → Ordered n → IsChecked n

-- An ordered netlist of LUT shape has no fault.
abbrev pub LutsAreChecked : Type 0
LutsAreChecked = (n : Netlist) (k : ℕ) → LutShape n k → Ordered n → IsChecked n

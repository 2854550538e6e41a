-- The names of a graph's nodes: nodes 1, 2, .. have the names of a list, the constant has none.
use Rattle.std.specs.Prelude.{◌≡◌, ℕ, ◌-◌, ◌&&◌, nat_le, Bool, true, false, List, ◌++◌, length, slice_index_or}
use Rattle.std.specs.List.{list_all}
use Rattle.syn_rows.specs.declared.Lit.{Lit}
use Rattle.syn_rows.specs.declared.Row.{Row}
use Rattle.syn_rows.specs.declared.Row.TheVariants.{Free, Source, And, Alias}
use Rattle.syn_rows.specs.Rows.{node_of}
use Rattle.syn_lutnet.specs.LutData.{Lut}
use Rattle.syn_netlist.specs.Lists.{Frame, sources, observed}
use Rattle.syn_netlist.specs.Numbers.{words_at, all_below, Grows}
use Rattle.syn_network.specs.Spelling.{inner_names}

-- the literal is one of so many named nodes
abbrev pub is_named : ℕ → Lit → Bool
is_named count l = nat_le 1 (node_of l) && nat_le (node_of l) count

-- the literal is constant or of a named node
abbrev pub is_within : ℕ → Lit → Bool
is_within count l = nat_le (node_of l) count

-- the row is an AND of named nodes
abbrev pub is_named_gate : ℕ → Row → Bool
is_named_gate count Free = false
is_named_gate count Source = false
is_named_gate count (And a b) = is_named count a && is_named count b
is_named_gate count (Alias a) = false

-- the number of the name of a literal's node, from the numbers of the names of nodes 1, 2, ..
abbrev pub number_of : List ℕ → Lit → ℕ
number_of nodes l = slice_index_or nodes (node_of l - 1) 0

-- the number of the name of signal i, from the numbers of the names of signals 1, 2, ..
abbrev pub signal_number : List ℕ → ℕ → ℕ
signal_number nodes i = slice_index_or nodes (i - 1) 0

-- the signal is one of so many named ones
abbrev pub is_signal : ℕ → ℕ → Bool
is_signal count i = nat_le 1 i && nat_le i count

-- all that the LUT reads are named signals
abbrev pub reads_named : ℕ → Lut → Bool
reads_named count l = list_all (is_signal count) l.inputs

-- What is numbered of a graph or of a LUT net: sources and observed signals among the names of its frame, then so many inner names among these and more.
pub record IsNumbered (frame : Frame) (count : ℕ) (names more : List (List ℕ)) (source_numbers signals inner : List ℕ) : Type 0 where
  pub source_words : words_at names source_numbers ≡ sources frame
  pub source_below : all_below (length names) source_numbers ≡ true
  pub signal_words : words_at names signals ≡ observed frame
  pub signal_below : all_below (length names) signals ≡ true
  pub grows : Grows names more
  pub inner_words : words_at more inner ≡ inner_names (sources frame ++ observed frame) count
  pub inner_below : all_below (length more) inner ≡ true

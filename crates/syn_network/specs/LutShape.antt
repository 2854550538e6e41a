-- Netlists that have the shape of a LUT net, and the LUTs that their tables spell.
use Rattle.std.specs.Prelude.{◌≡◌, ℕ, ◌+◌, ◌<◌, ◌==◌, ◌&&◌, not, nat_le, if◌then◌else◌, Bool, true, All, List, ◌++◌, length, map, filter, find, bytes_eq}
use Rattle.std.specs.List.{list_all}
use Rattle.syn_rows.specs.declared.Lit.{Lit}
use Rattle.syn_netlist.specs.Words.{has_word, distinct, without}
use Rattle.syn_netlist.specs.Costs.{is_sign}
use Rattle.syn_netlist.specs.Lists.{Table, Netlist, output_of, sources, observed}
use Rattle.syn_netlist.specs.Values.{HasFunction}
use Rattle.syn_netlist.specs.Order.{Ordered}
use Rattle.syn_truth.specs.Truth.{minterm_of}
use Rattle.syn_network.specs.GraphShape.{place, shown, lit_of_table, is_end_table}
use Rattle.syn_lutnet.specs.LutData.{Lut, rising, luts_function, net_depth, net_gates, Reached}

-- the table has two or more inputs
abbrev pub has_more : Table → Bool
has_more t = nat_le 2 (length t.inputs)

-- the tables with two or more inputs, which stand for LUTs
abbrev pub lut_tables : Netlist → List Table
lut_tables n = filter has_more n.tables

-- the other tables, which give the observed signals
abbrev pub end_tables : Netlist → List Table
end_tables n = filter (λ t. not (has_more t)) n.tables

-- the names of signals 1, 2, ..: the sources, then the outputs of the LUTs' tables
abbrev pub signal_names : Netlist → List (List ℕ)
signal_names n = sources n.frame ++ map output_of (lut_tables n)

-- a character as a value: true at `1`
abbrev pub is_one : ℕ → Bool
is_one c = c == 49

-- the minterm that a row of characters `0` and `1` lists: character j shows bit j
abbrev pub row_minterm : List ℕ → ℕ
row_minterm row = minterm_of (map is_one row)

-- the signal of a name
abbrev pub signal_of : List (List ℕ) → List ℕ → ℕ
signal_of names word = place word names + 1

-- the LUT that a table spells, among the names of signals
abbrev pub lut_of : List (List ℕ) → Table → Lut
lut_of names t = record { inputs = map (signal_of names) t.inputs; ones = map row_minterm t.rows }

-- the LUTs that a netlist spells, in order
abbrev pub luts_of : Netlist → List Lut
luts_of n = map (lut_of (signal_names n)) (lut_tables n)

-- the literal of an observed signal: a source's own, else what its table gives
abbrev pub lit_of : Netlist → List ℕ → Lit
lit_of n word = if has_word (sources n.frame) word then shown (signal_names n) word 49 else lit_of_table (signal_names n) (find (λ t. bytes_eq t.output word) (end_tables n))

-- the observed literals that a netlist spells
abbrev pub observed_of : Netlist → List Lit
observed_of n = map (lit_of n) (observed n.frame)

-- the number of LUTs, the depth of the LUTs, and the gates of factoring them
abbrev pub count_of : Netlist → ℕ
count_of n = length (luts_of n)

abbrev pub depth_of : Netlist → ℕ
depth_of n = net_depth (length (sources n.frame)) (luts_of n)

abbrev pub gates_of : Netlist → ℕ
gates_of n = net_gates (luts_of n)

-- a row lists one minterm of so many inputs: as many characters, each `0` or `1`
abbrev pub is_minterm_row : ℕ → List ℕ → Bool
is_minterm_row inputs row = (length row == inputs) && list_all is_sign row

-- a table of 2 to k different inputs, whose rows list minterms in rising order, with the output character `1`
abbrev pub is_lut_table : ℕ → Table → Bool
is_lut_table k t = nat_le 2 (length t.inputs) && (nat_le (length t.inputs) k && (distinct t.inputs && (list_all (is_minterm_row (length t.inputs)) t.rows && (rising (map row_minterm t.rows) && t.on))))

-- The tables of a LUT net: first those of LUTs of at most k inputs, all reached from the observed signals; then one table for each observed signal that is no source, in their order.
pub record LutShape (n : Netlist) (k : ℕ) : Type 0 where
  pub split : n.tables ≡ lut_tables n ++ end_tables n
  pub luts : All (λ t. is_lut_table k t ≡ true) (lut_tables n)
  pub reached : (j : ℕ) → j < length (lut_tables n) → Reached (length (sources n.frame) + 1) (luts_of n) (observed_of n) (length (sources n.frame) + 1 + j)
  pub ends : All (λ t. is_end_table (signal_names n) t ≡ true) (end_tables n)
  pub each : map output_of (end_tables n) ≡ without (sources n.frame) (observed n.frame)

-- A netlist of LUT shape that is ordered has the function of the LUTs that its tables spell.
abbrev pub LutsHaveFunction : Type 0
LutsHaveFunction = (n : Netlist) (k : ℕ) → LutShape n k → Ordered n → HasFunction n (luts_function (luts_of n) (observed_of n))

-- The netlist that a graph is written as: a table for each AND, then one for each observed signal that is no source.
use Rattle.std.specs.Prelude.{◌≡◌, ℕ, ◌+◌, ◌-◌, ◌%◌, ◌==◌, not, if◌then◌else◌, true, List, [], ◌∷◌, ◌++◌, length, map, filter, take, drop}
use Rattle.std.specs.Int.Digits.{digits_of}
use Rattle.syn_rows.specs.declared.Lit.{Lit}
use Rattle.syn_rows.specs.declared.Row.{Row}
use Rattle.syn_rows.specs.declared.Row.TheVariants.{Free, Source, And, Alias}
use Rattle.syn_rows.specs.Rows.{node_of}
use Rattle.syn_lists.specs.Numbers.{numbers_from}
use Rattle.syn_netlist.specs.Words.{has_word, distinct}
use Rattle.syn_netlist.specs.Lists.{Frame, Table, Netlist, sources, observed}
use Rattle.syn_netlist.specs.Numbers.{word_at}
use Rattle.syn_netlist.specs.Order.{Ordered}
use Rattle.syn_network.specs.GraphShape.{GraphShape, rows_of, observed_of, and_tables}
use Rattle.syn_network.specs.NamedGraphs.{IsNamedGraph}

-- the character of a digit
abbrev pub digit_char : ℕ → ℕ
digit_char d = 48 + d

-- the word of an inner node: `n` and a number in decimal digits, of any length
abbrev pub inner_word : ℕ → List ℕ
inner_word k = 110 ∷ map digit_char (digits_of 10 k)

-- those of the first so many of n1, n2, .. that are not taken
abbrev pub free_names : List (List ℕ) → ℕ → List (List ℕ)
free_names taken count = filter (λ w. not (has_word taken w)) (map inner_word (numbers_from 1 count))

-- the first so many of n1, n2, .. that are not taken
abbrev pub inner_names : List (List ℕ) → ℕ → List (List ℕ)
inner_names taken count = take count (free_names taken (count + length taken))

-- the rows behind node 0 and the sources
abbrev pub gates_of : Frame → List Row → List Row
gates_of frame rows = drop (length (sources frame) + 1) rows

-- the names of the ANDs: names of sources and of observed signals are taken
abbrev pub gate_names : Frame → List Row → List (List ℕ)
gate_names frame rows = inner_names (sources frame ++ observed frame) (length (gates_of frame rows))

-- the name of a literal's node, among the names of nodes 1, 2, ..
abbrev pub lit_name : List (List ℕ) → Lit → List ℕ
lit_name names l = word_at names (node_of l - 1)

-- the character of a literal: `1` where it is plain, `0` where it is complemented
abbrev pub sign_of : Lit → ℕ
sign_of l = if l.0 % 2 == 0 then 49 else 48

-- the table of an AND: its two inputs, its name, and the one row of their signs; other rows have none
abbrev pub gate_table : List (List ℕ) → Row → List ℕ → List Table
gate_table names Free word = []
gate_table names Source word = []
gate_table names (And a b) word = record { inputs = lit_name names a ∷ lit_name names b ∷ []; output = word; rows = (sign_of a ∷ sign_of b ∷ []) ∷ []; on = true } ∷ []
gate_table names (Alias a) word = []

-- the tables of rows, with these names in order
abbrev pub gate_tables : List (List ℕ) → List Row → List (List ℕ) → List Table
gate_tables names [] words = []
gate_tables names (row ∷ rows) [] = []
gate_tables names (row ∷ rows) (word ∷ words) = gate_table names row word ++ gate_tables names rows words

-- the table of an observed signal: constant 0 without rows, constant 1 with one row, else its node with the one row of the sign
abbrev pub output_table : List (List ℕ) → List ℕ → Lit → Table
output_table names word l = if node_of l == 0
    then record { inputs = []; output = word; rows = if l.0 == 0 then [] else ([] ∷ []); on = true }
    else record { inputs = lit_name names l ∷ []; output = word; rows = (sign_of l ∷ []) ∷ []; on = true }

-- the tables of the observed signals that are not known, from the signals and their literals
abbrev pub ends_from : List (List ℕ) → List (List ℕ) → List (List ℕ) → List Lit → List Table
ends_from known names [] lits = []
ends_from known names (word ∷ words) [] = []
ends_from known names (word ∷ words) (l ∷ lits) = if has_word known word then ends_from known names words lits else output_table names word l ∷ ends_from known names words lits

-- the netlist of a graph
abbrev pub network : Frame → List Row → List Lit → Netlist
network frame rows lits =
    let inner = gate_names frame rows in
    let names = sources frame ++ inner in
    record { frame = frame; tables = gate_tables names (gates_of frame rows) inner ++ ends_from (sources frame) names (observed frame) lits }

-- The netlist of a graph is ordered and of graph shape, spells the graph's rows and literals, and has a two-input table for each AND.
pub record NetworkSpells (frame : Frame) (rows : List Row) (lits : List Lit) : Type 0 where
  pub ordered : Ordered (network frame rows lits)
  pub shape : GraphShape (network frame rows lits)
  pub same_rows : rows_of (network frame rows lits) ≡ rows
  pub same_lits : observed_of (network frame rows lits) ≡ lits
  pub ands : length (and_tables (network frame rows lits)) ≡ length (gates_of frame rows)

-- This holds of every graph of a frame whose clocks are distinct and whose sources are.
abbrev pub NetworkOfGraph : Type 0
NetworkOfGraph = (frame : Frame) (rows : List Row) (lits : List Lit) → distinct frame.clocks ≡ true → distinct (sources frame) ≡ true → IsNamedGraph frame rows lits → NetworkSpells frame rows lits

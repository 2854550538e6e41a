-- The generated netlist: so many tables of three inputs, over sixteen inputs.
use Rattle.std.specs.Prelude.{ℕ, zero, suc, ◌+◌, ◌-◌, ◌==◌, nat_lt, if◌then◌else◌, Bool, true, List, [], ◌∷◌, ◌++◌, map, flat_map, filter, codes, decimal}
use Rattle.std.specs.Int.{bit_at}
use Rattle.syn_netlist.specs.Faults.{inputs_of}
use Rattle.syn_netlist.specs.Lists.{Netlist, Table, output_of}
use Rattle.syn_netlist.specs.Words.{without}
use Rattle.syn_gen.specs.declared.draws.Drawn.{Drawn}
use Rattle.syn_gen.specs.Draws.{after_draws, drawn}

-- the name of a signal: x0 to x15 are the inputs, then come the tables' outputs t0, t1, ..
unfoldable pub signal : ℕ → List ℕ
signal i = if nat_lt i 16 then codes "x" ++ decimal i else codes "t" ++ decimal (i - 16)

-- the names of the first so many signals
abbrev pub signals : ℕ → List (List ℕ)
signals zero = []
signals (suc n) = signals n ++ signal n ∷ []

-- the character of a bit
abbrev pub bit_character : ℕ → ℕ
bit_character bit = 48 + bit

-- the row of a minterm: input i shows bit i
abbrev pub minterm_row : ℕ → List ℕ
minterm_row m = bit_character (bit_at m 0) ∷ bit_character (bit_at m 1) ∷ bit_character (bit_at m 2) ∷ []

-- the first so many numbers
abbrev pub numbers_below : ℕ → List ℕ
numbers_below zero = []
numbers_below (suc n) = numbers_below n ++ n ∷ []

-- the value of a truth at a minterm
abbrev pub is_true_at : ℕ → ℕ → Bool
is_true_at truth m = bit_at truth m == 1

-- the rows of a truth of three variables: its minterms of value 1, rising
abbrev pub truth_rows : ℕ → List (List ℕ)
truth_rows truth = map minterm_row (filter (is_true_at truth) (numbers_below 8))

-- the table of a signal, as it was drawn
abbrev pub table_of : ℕ → Drawn → Table
table_of output d = record {
  inputs = signal d.first ∷ signal d.second ∷ signal d.third ∷ [];
  output = signal output;
  rows = truth_rows d.truth;
  on = true;
}

-- so many tables, each of the next signal behind so many, drawn from a state
abbrev pub tables_from : ℕ → ℕ → ℕ → List Table
tables_from zero before state = []
tables_from (suc count) before state = table_of before (drawn before state) ∷ tables_from count (suc before) (after_draws 4 state)

-- the tables: the state is at first the seed
abbrev pub generated_tables : ℕ → ℕ → List Table
generated_tables seed size = tables_from size 16 seed

-- the outputs of tables that none of them reads, in order
abbrev pub unread : List Table → List (List ℕ)
unread tables = without (flat_map inputs_of tables) (map output_of tables)

-- The netlist of a seed and a size: the tables, and as outputs those that no table reads. There are no clocks and no latches.
abbrev pub generated : ℕ → ℕ → Netlist
generated seed size = record {
  frame = record { model = codes "gen"; inputs = signals 16; clocks = []; outputs = unread (generated_tables seed size); latches = [] };
  tables = generated_tables seed size;
}

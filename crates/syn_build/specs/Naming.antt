-- Literals of names: one for each number of a name, once the name is known.
use Rattle.std.specs.Prelude.{◌≡◌, ℕ, ◌<◌, Bool, true, List, length, map}
use Rattle.syn_rows.specs.declared.Lit.{Lit}
use Rattle.syn_rows.specs.declared.Row.{Row}
use Rattle.syn_rows.specs.Values.{given_by}
use Rattle.syn_netlist.specs.Words.{has_word}
use Rattle.syn_netlist.specs.Lists.{Netlist, sources}
use Rattle.syn_netlist.specs.Numbers.{word_at}
use Rattle.syn_netlist.specs.Values.{Consistent}
use Rattle.syn_netlist.specs.Order.{with_tables}
use Rattle.syn_netlist.specs.Faults.{tables_at}
use Rattle.syn_network.specs.GraphShape.{place}
use Rattle.syn_network.specs.NamedGraphs.{source_lit}
use Rattle.syn_hashed.specs.Hashed.{lit_at}
use Rattle.syn_hashed.specs.Growing.{value_by}
use Rattle.syn_lut_rows.specs.LutLiterals.{AllThere}

-- the netlist with its tables in the order of these numbers
abbrev pub in_order : Netlist → List ℕ → Netlist
in_order n order = with_tables n (tables_at n order)

-- The literals by numbers of names: a source has the plain literal of its node, and where the sources' nodes have the values of a consistent valuation, the literal of each known name has its value.
pub record IsNamed (n : Netlist) (names known : List (List ℕ)) (rows : List Row) (lits : List Lit) : Type 0 where
  pub count : length lits ≡ length names
  pub there : AllThere rows lits
  pub own : (i : ℕ) → i < length names → has_word (sources n.frame) (word_at names i) ≡ true → lit_at lits i ≡ source_lit (place (word_at names i) (sources n.frame))
  pub values : (v : List ℕ → Bool) → Consistent n v → (i : ℕ) → i < length names → has_word known (word_at names i) ≡ true → value_by (given_by (map v (sources n.frame))) rows (lit_at lits i) ≡ v (word_at names i)

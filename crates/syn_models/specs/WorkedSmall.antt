-- A half adder in a model of its own, and a register that stands twice, with what the definitions give on them.
use Rattle.std.specs.Prelude.{◌≡◌, false, List, ℕ, [], ◌∷◌, codes, None}
use Rattle.syn_netlist.specs.Lists.{Latch, Netlist}
use Rattle.syn_models.specs.Models.{Subcircuit, Inputs, Outputs, OneLatch, OneTable, OneSubcircuit, Model, Models, all_of}
use Rattle.syn_models.specs.Opening.{Opened, End, Plain, Instance, Opens, words_of}
use Rattle.syn_models.specs.Flattening.{inner_name, flattened, clashes}
use Rattle.syn_models.specs.FlatFaults.{first_fault_of_models}
use Rattle.syn_models.specs.Worked.{table, bind, at, subcircuit}

abbrev pub half : Model
half = record {
  name = codes "half";
  names = codes "x" ∷ codes "y" ∷ codes "s" ∷ codes "c" ∷ [];
  statements =
      at 7 (Inputs (codes "x" ∷ codes "y" ∷ []))
      ∷ at 8 (Outputs (codes "s" ∷ codes "c" ∷ []))
      ∷ at 9 (OneTable (table (codes "x" ∷ codes "y" ∷ []) (codes "s") (codes "10" ∷ codes "01" ∷ [])))
      ∷ at 12 (OneTable (table (codes "x" ∷ codes "y" ∷ []) (codes "c") (codes "11" ∷ [])))
      ∷ [];
  words = 22;
}

abbrev pub one_half : Subcircuit
one_half = subcircuit (codes "half") (bind (codes "x") (codes "a") ∷ bind (codes "y") (codes "b") ∷ bind (codes "s") (codes "s") ∷ bind (codes "c") (codes "c") ∷ [])

abbrev pub adder : Model
adder = record {
  name = codes "m";
  names = codes "a" ∷ codes "b" ∷ codes "s" ∷ codes "c" ∷ [];
  statements = at 2 (Inputs (codes "a" ∷ codes "b" ∷ [])) ∷ at 3 (Outputs (codes "s" ∷ codes "c" ∷ [])) ∷ at 4 (OneSubcircuit one_half) ∷ [];
  words = 14;
}

abbrev pub adder_file : Models
adder_file = record { main = adder; others = half ∷ [] }

abbrev pub opened_adder : Opened
opened_adder =
    Plain (Inputs (codes "a" ∷ codes "b" ∷ [])) (Plain (Outputs (codes "s" ∷ codes "c" ∷ []))
    (Instance one_half half
    (Plain (Inputs (codes "x" ∷ codes "y" ∷ [])) (Plain (Outputs (codes "s" ∷ codes "c" ∷ []))
    (Plain (OneTable (table (codes "x" ∷ codes "y" ∷ []) (codes "s") (codes "10" ∷ codes "01" ∷ [])))
    (Plain (OneTable (table (codes "x" ∷ codes "y" ∷ []) (codes "c") (codes "11" ∷ []))) End)))) End))

abbrev pub flat_adder : Netlist
flat_adder = record {
  frame = record { model = codes "m"; inputs = codes "a" ∷ codes "b" ∷ []; clocks = []; outputs = codes "s" ∷ codes "c" ∷ []; latches = [] };
  tables = table (codes "a" ∷ codes "b" ∷ []) (codes "s") (codes "10" ∷ codes "01" ∷ []) ∷ table (codes "a" ∷ codes "b" ∷ []) (codes "c") (codes "11" ∷ []) ∷ [];
}

abbrev latch_from : List ℕ → List ℕ → Latch
latch_from feed output = record { feed = feed; output = output; kind = None; init = 0 }

abbrev pub register : Model
register = record {
  name = codes "reg";
  names = codes "i" ∷ codes "o" ∷ [];
  statements = at 8 (Inputs (codes "i" ∷ [])) ∷ at 9 (Outputs (codes "o" ∷ [])) ∷ at 10 (OneLatch (latch_from (codes "i") (codes "o"))) ∷ [];
  words = 10;
}

abbrev pub first_register : Subcircuit
first_register = subcircuit (codes "reg") (bind (codes "i") (codes "d") ∷ bind (codes "o") (codes "q") ∷ [])

-- its output isn't bound
abbrev pub second_register : Subcircuit
second_register = subcircuit (codes "reg") (bind (codes "i") (codes "q") ∷ [])

abbrev pub shifter : Model
shifter = record {
  name = codes "m";
  names = codes "d" ∷ codes "q" ∷ [];
  statements = at 2 (Inputs (codes "d" ∷ [])) ∷ at 3 (Outputs (codes "q" ∷ [])) ∷ at 4 (OneSubcircuit first_register) ∷ at 5 (OneSubcircuit second_register) ∷ [];
  words = 13;
}

abbrev pub shifter_file : Models
shifter_file = record { main = shifter; others = register ∷ [] }

abbrev pub opened_register : Opened
opened_register = Plain (Inputs (codes "i" ∷ [])) (Plain (Outputs (codes "o" ∷ [])) (Plain (OneLatch (latch_from (codes "i") (codes "o"))) End))

abbrev pub opened_shifter : Opened
opened_shifter =
    Plain (Inputs (codes "d" ∷ [])) (Plain (Outputs (codes "q" ∷ [])) (Instance first_register register opened_register (Instance second_register register opened_register End)))

abbrev pub flat_shifter : Netlist
flat_shifter = record {
  frame = record { model = codes "m"; inputs = codes "d" ∷ []; clocks = []; outputs = codes "q" ∷ []; latches = latch_from (codes "d") (codes "q") ∷ latch_from (codes "q") (codes "2/o") ∷ [] };
  tables = [];
}

pub record WorkedSmall : Type 0 where
  pub adder_faultless : first_fault_of_models adder_file ≡ None
  pub adder_opens : Opens (all_of adder_file) adder.statements opened_adder
  pub adder_words : words_of adder opened_adder ≡ 36
  pub adder_apart : clashes adder.names (inner_name 1) 1 opened_adder ≡ false
  pub adder_flat : flattened adder opened_adder 1 ≡ flat_adder
  pub shifter_faultless : first_fault_of_models shifter_file ≡ None
  pub shifter_opens : Opens (all_of shifter_file) shifter.statements opened_shifter
  pub shifter_apart : clashes shifter.names (inner_name 1) 1 opened_shifter ≡ false
  pub shifter_flat : flattened shifter opened_shifter 1 ≡ flat_shifter

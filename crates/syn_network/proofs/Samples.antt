-- Worked rows, computed from the definitions.
use Rattle.std.specs.Prelude.{◌≡◌, true, false, [], ◌∷◌, codes, Some, None, refl}
use Rattle.syn_netlist.specs.declared.LatchKind.TheVariants.{Re, Ah}
use Rattle.syn_rows.specs.declared.Row.TheVariants.{Source, And}
use Rattle.syn_netlist.specs.Lists.{Frame, Netlist, sources, observed}
use Rattle.syn_netlist.specs.Order.{function_of}
use Rattle.syn_network.specs.GraphShape.{rows_of, observed_of}
use Rattle.syn_network.specs.Spelling.{network}

-- not (a and b), as it is written
pub nand : Netlist
nand = record {
  frame = record { model = codes "m"; inputs = codes "a" ∷ codes "b" ∷ []; clocks = []; outputs = codes "y" ∷ []; latches = [] };
  tables = record { inputs = codes "a" ∷ codes "b" ∷ []; output = codes "n1"; rows = codes "11" ∷ []; on = true } ∷ record { inputs = codes "n1" ∷ []; output = codes "y"; rows = codes "0" ∷ []; on = true } ∷ [];
}

nand_rows : rows_of nand ≡ Source ∷ Source ∷ Source ∷ And (record { 0 = 2 }) (record { 0 = 4 }) ∷ []
unfolding nand
nand_rows = refl

nand_observed : observed_of nand ≡ record { 0 = 7 } ∷ []
unfolding nand
nand_observed = refl

nand_true : function_of nand (true ∷ true ∷ []) ≡ false ∷ []
unfolding nand
nand_true = refl

nand_false : function_of nand (true ∷ false ∷ []) ≡ true ∷ []
unfolding nand
nand_false = refl

clocked : Frame
clocked = record {
  model = codes "m";
  inputs = codes "d" ∷ codes "c" ∷ [];
  clocks = codes "c" ∷ codes "k" ∷ [];
  outputs = codes "q" ∷ codes "d" ∷ codes "q" ∷ [];
  latches = record { feed = codes "d"; output = codes "q"; kind = None; init = 3 } ∷ record { feed = codes "q"; output = codes "s"; kind = Some (Re, Some (codes "c")); init = 0 }
      ∷ record { feed = codes "d"; output = codes "t"; kind = Some (Ah, None); init = 1 } ∷ [];
}

clocked_sources : sources clocked ≡ codes "d" ∷ codes "c" ∷ codes "k" ∷ codes "q" ∷ codes "s" ∷ codes "t" ∷ []
unfolding clocked
clocked_sources = refl

clocked_observed : observed clocked ≡ codes "q" ∷ codes "d" ∷ codes "c" ∷ []
unfolding clocked
clocked_observed = refl

-- netlists of graphs

nand_written : network nand.frame (Source ∷ Source ∷ Source ∷ And (record { 0 = 2 }) (record { 0 = 4 }) ∷ []) (record { 0 = 7 } ∷ []) ≡ nand
unfolding nand
nand_written = refl

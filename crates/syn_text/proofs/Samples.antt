-- Worked netlists, as they are written.
use Rattle.std.specs.Prelude.{◌≡◌, [], ◌∷◌, codes, refl}
use Rattle.syn_rows.specs.declared.Row.TheVariants.{Source, And}
use Rattle.syn_netlist.specs.Lists.{Netlist}
use Rattle.syn_network.specs.Spelling.{network}
use Rattle.syn_text.specs.Printed.{printed}

-- not (a and b)
nand : Netlist
nand = network (record { model = codes "m"; inputs = codes "a" ∷ codes "b" ∷ []; clocks = []; outputs = codes "y" ∷ []; latches = [] })
    (Source ∷ Source ∷ Source ∷ And (record { 0 = 2 }) (record { 0 = 4 }) ∷ []) (record { 0 = 7 } ∷ [])

nand_printed : printed nand ≡ codes ".model m\n.inputs a b\n.outputs y\n.names a b n1\n11 1\n.names n1 y\n0 1\n.end\n"
unfolding nand
nand_printed = refl

-- the name n1 is a source's, so the inner names are n2 and n3
taken : Netlist
taken = network (record { model = codes "m"; inputs = codes "n1" ∷ codes "b" ∷ []; clocks = []; outputs = codes "y" ∷ []; latches = [] })
    (Source ∷ Source ∷ Source ∷ And (record { 0 = 2 }) (record { 0 = 4 }) ∷ And (record { 0 = 3 }) (record { 0 = 6 }) ∷ []) (record { 0 = 8 } ∷ [])

taken_printed : printed taken ≡ codes ".model m\n.inputs n1 b\n.outputs y\n.names n1 b n2\n11 1\n.names n1 n2 n3\n01 1\n.names n3 y\n1 1\n.end\n"
unfolding taken
taken_printed = refl

-- a constant 0, a constant 1, an output that is an input, and the complement of an input
plain : Netlist
plain = network (record { model = codes "m"; inputs = codes "a" ∷ []; clocks = []; outputs = codes "zero" ∷ codes "one" ∷ codes "a" ∷ codes "not_a" ∷ []; latches = [] })
    (Source ∷ Source ∷ []) (record { 0 = 0 } ∷ record { 0 = 1 } ∷ record { 0 = 2 } ∷ record { 0 = 3 } ∷ [])

plain_printed : printed plain ≡ codes ".model m\n.inputs a\n.outputs zero one a not_a\n.names zero\n.names one\n1\n.names a not_a\n0 1\n.end\n"
unfolding plain
plain_printed = refl

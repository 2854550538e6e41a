-- LUTs as data.
use Rattle.std.specs.Prelude.{List, map}
use Rattle.syn_lutnet.specs.LutData as spelled
use Rattle.syn_lutnet.specs.declared.luts.Lut.{Lut}

-- a LUT as data: its inputs, and the minterms of its function
abbrev pub lut_data : Lut → spelled.Lut
lut_data l = record { inputs = l.inputs.items; ones = spelled.ones_of l.truth }

-- LUTs as data
abbrev pub luts_data : List Lut → List spelled.Lut
luts_data luts = map lut_data luts

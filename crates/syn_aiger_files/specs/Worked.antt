-- Worked files, computed from the definitions.
use Rattle.std.specs.Prelude.{◌≡◌, [], ◌∷◌, ◌++◌, false, true, codes, Ok, Err}
use Rattle.syn_aiger_files.specs.declared.fault.AigFault.TheVariants as faults
use Rattle.syn_aiger_files.specs.Files.{Aig, OfBad, OfConstraint, OfInput, OfOutput}
use Rattle.syn_aiger_files.specs.Spelling.{spelled}

-- the three ANDs of `a b or a c`
abbrev pub or_of_ands : Aig
or_of_ands = record {
  variables = 6;
  inputs = 2 ∷ 4 ∷ 6 ∷ [];
  latches = [];
  outputs = 13 ∷ [];
  ands = record { literal = 8; first = 4; second = 2 } ∷ record { literal = 10; first = 6; second = 2 } ∷ record { literal = 12; first = 11; second = 9 } ∷ [];
  symbols = record { place = OfInput; index = 0; name = codes "a" } ∷ record { place = OfInput; index = 1; name = codes "b" } ∷ record { place = OfInput; index = 2; name = codes "c" } ∷ record { place = OfOutput; index = 0; name = codes "f" } ∷ [];
}

-- a latch of any value that loads the complement of the input, and is the output
abbrev pub free_latch : Aig
free_latch = record {
  variables = 2;
  inputs = 2 ∷ [];
  latches = record { literal = 4; next = 3; reset = 4 } ∷ [];
  outputs = 4 ∷ [];
  ands = [];
  symbols = [];
}

-- Both files are said in both formats, with a CR before the LF, without the last LF, and with leading zeros too; and the faults of a first line, a line, a pair and a symbol have their places.
pub record WorkedFiles : Type 0 where
  pub ascii : spelled false (codes "aag 6 3 0 1 3\n2\n4\n6\n13\n8 4 2\n10 6 2\n12 11 9\ni0 a\ni1 b\ni2 c\no0 f\n") ≡ Ok or_of_ands
  pub binary : spelled false (codes "aig 6 3 0 1 3\n13\n" ++ (4 ∷ 2 ∷ 4 ∷ 4 ∷ 1 ∷ 2 ∷ []) ++ codes "i0 a\ni1 b\ni2 c\no0 f\nc\nany text") ≡ Ok or_of_ands
  pub latch : spelled false (codes "aag 2 1 1 1 0\r\n2\r\n4 3 4\r\n4") ≡ Ok free_latch
  pub zeros : spelled false (codes "aag 002 1 01 1 0\n002\n4 03 4\n0004\n") ≡ Ok free_latch
  pub header : spelled false (codes "aag 1 1 0 0\n") ≡ Err faults.Header
  pub line : spelled false (codes "aag 1 1 0 0 0\n3\n") ≡ Err (faults.Line 14)
  pub pair : spelled false (codes "aig 2 1 0 0 1\n" ++ (5 ∷ 0 ∷ [])) ≡ Err (faults.Pair 14)
  pub symbol : spelled false (codes "aag 1 1 0 0 0\n2\ni1 a\n") ≡ Err (faults.Symbol 16)

-- A first difference of 0, one above the literal, one that is cut off, and one of more than five groups are faults of the pair.
pub record WorkedPairs : Type 0 where
  pub none : spelled false (codes "aig 1 0 0 0 1\n" ++ (0 ∷ 0 ∷ [])) ≡ Err (faults.Pair 14)
  pub above : spelled false (codes "aig 1 0 0 0 1\n" ++ (3 ∷ 0 ∷ [])) ≡ Err (faults.Pair 14)
  pub cut : spelled false (codes "aig 1 0 0 0 1\n" ++ (1 ∷ 129 ∷ [])) ≡ Err (faults.Pair 14)
  pub long : spelled false (codes "aig 1 0 0 0 1\n" ++ (129 ∷ 128 ∷ 128 ∷ 128 ∷ 128 ∷ 0 ∷ 0 ∷ [])) ≡ Err (faults.Pair 14)

-- an output, and a bad state and a constraint as outputs behind it
abbrev pub with_property_outputs : Aig
with_property_outputs = record {
  variables = 1;
  inputs = 2 ∷ [];
  latches = [];
  outputs = 2 ∷ 3 ∷ 0 ∷ [];
  ands = [];
  symbols = record { place = OfOutput; index = 1; name = codes "x" } ∷ record { place = OfOutput; index = 2; name = codes "y" } ∷ record { place = OfConstraint; index = 0; name = codes "y" } ∷ record { place = OfBad; index = 0; name = codes "x" } ∷ [];
}

-- Bad states and constraints are outputs with their symbols, also by counts with leading zeros, or a fault of the first line; justice properties are a fault of their own, and a tenth count is one of the first line.
pub record WorkedProperties : Type 0 where
  pub ascii : spelled true (codes "aag 1 1 0 1 0 1 1\n2\n2\n3\n0\nc0 y\nb0 x\n") ≡ Ok with_property_outputs
  pub binary : spelled true (codes "aig 01 1 0 1 0 1 01 0 000\n2\n03\n0\nc0 y\nb0 x\nc\n") ≡ Ok with_property_outputs
  pub refused : spelled false (codes "aag 1 1 0 1 0 1 1\n2\n2\n3\n0\nc0 y\nb0 x\n") ≡ Err faults.Header
  pub justice : spelled true (codes "aag 1 1 0 0 0 0 0 1\n2\n0\n") ≡ Err faults.Justice
  pub tenth : spelled true (codes "aag 1 1 0 0 0 0 0 0 0 0\n2\n") ≡ Err faults.Header

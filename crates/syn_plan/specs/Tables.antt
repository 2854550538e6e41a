-- Tables at one list of values.
use Rattle.std.specs.Prelude.{Bool, List, map}
use Rattle.syn_truth.specs.declared.Truth.{Truth}
use Rattle.syn_truth.specs.Truth.{value_of}

-- the values of all tables where the variables have these values
abbrev pub values_in : List Truth → List Bool → List Bool
values_in tables xs = map (λ t. value_of t xs) tables

-- The literals of inputs.
use Rattle.std.specs.Prelude.{ℕ, List}
use Rattle.syn_aiger_files.specs.declared.files.Listing.{Listing}
use Rattle.syn_aiger_files.specs.declared.files.Listing.TheVariants.{Listed, First}
use Rattle.syn_aiger_files.specs.Literals.{literals_from}

-- the literals that are listed, or the first so many
abbrev pub literals_in : Listing → List ℕ
literals_in (Listed literals) = literals
literals_in (First count) = literals_from 1 count

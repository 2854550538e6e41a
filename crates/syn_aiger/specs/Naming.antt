-- What the sources, outputs and data signals of a file are called: by their symbols, else by letter and number (the rules are this project's choice).
use Rattle.std.specs.Prelude.{ℕ, zero, suc, ◌+◌, ◌==◌, ◌&&◌, not, max, Bool, if◌then◌else◌, List, [], ◌∷◌, ◌++◌, length, map, find, decimal, bytes_eq, Option, Some, None}
use Rattle.std.specs.List.{list_any}
use Rattle.syn_aiger_files.specs.declared.files.Aig.{Aig}
use Rattle.syn_aiger_files.specs.declared.files.AigLatch.{AigLatch}
use Rattle.syn_aiger_files.specs.declared.files.Place.{Place}
use Rattle.syn_aiger_files.specs.declared.files.Symbol.{Symbol}
use Rattle.syn_aiger_files.specs.declared.files.Place.TheVariants.{Input as OfInput, Latch as OfLatch, Output as OfOutput}
use Rattle.syn_aiger_files.specs.Files.{latch_literal}
use Rattle.syn_aiger_files.specs.FirstNames.{first_name}

-- A name that is given, and the literal for which it stands.
pub record Named : Type 0 where
  pub name : List ℕ
  pub literal : ℕ

abbrev pub name_of : Named → List ℕ
name_of named = named.name

-- the name is given
abbrev pub is_given : List Named → List ℕ → Bool
is_given given name = list_any (λ n. bytes_eq n.name name) given

-- the name is given for another literal
abbrev pub is_given_otherwise : ℕ → List Named → List ℕ → Bool
is_given_otherwise l given name = list_any (λ n. bytes_eq n.name name && not (n.literal == l)) given

-- the length of the longest given name
abbrev pub longest : List Named → ℕ
longest [] = 0
longest (n ∷ ns) = max (length n.name) (longest ns)

-- the name with so many `_` behind it as it takes until it isn't taken, but no more than the first number says
abbrev pub underscored : ℕ → (List ℕ → Bool) → List ℕ → List ℕ
underscored zero taken name = name
underscored (suc more) taken name = if taken name then underscored more taken (name ++ 95 ∷ []) else name

-- The name with the fewest `_` behind it with which it isn't taken, where given names alone are taken: one that is longer than all of them isn't.
abbrev pub free_name : List Named → (List ℕ → Bool) → List ℕ → List ℕ
free_name given taken name = underscored (longest given + 1) taken name

-- the names of these sources, numbered from an index on, behind given names: each gets a new name
abbrev pub sources_named : List Symbol → Place → ℕ → List ℕ → List Named → List Named
sources_named symbols place index [] given = []
sources_named symbols place index (l ∷ ls) given =
    let named : Named = record { name = free_name given (is_given given) (first_name symbols place index); literal = l } in
    named ∷ sources_named symbols place (suc index) ls (given ++ named ∷ [])

-- the names of these outputs, likewise: one keeps a name that is given for its literal
abbrev pub outputs_named : List Symbol → ℕ → List ℕ → List Named → List Named
outputs_named symbols index [] given = []
outputs_named symbols index (l ∷ ls) given =
    let named : Named = record { name = free_name given (is_given_otherwise l given) (first_name symbols OfOutput index); literal = l } in
    named ∷ outputs_named symbols (suc index) ls (given ++ named ∷ [])

-- the source of a literal where there is one, else a new name for it
abbrev pub source_or : Option Named → Named → Named
source_or None other = other
source_or (Some source) other = source

-- the data signals of latches, numbered from an index on, behind given names: the source of that literal, else `d` and the number, which is a new name
abbrev pub feeds_named : List Named → ℕ → List AigLatch → List Named → List Named
feeds_named sources index [] given = []
feeds_named sources index (latch ∷ latches) given =
    let new : Named = record { name = free_name given (is_given given) (100 ∷ decimal index); literal = latch.next } in
    let named : Named = source_or (find (λ n. n.literal == latch.next) sources) new in
    named ∷ feeds_named sources (suc index) latches (given ++ named ∷ [])

-- the names of inputs, of latches, of outputs, and of what latches load, one behind the other
abbrev pub inputs_of : Aig → List Named
inputs_of g = sources_named g.symbols OfInput 0 g.inputs []

abbrev pub latches_of : Aig → List Named
latches_of g = sources_named g.symbols OfLatch 0 (map latch_literal g.latches) (inputs_of g)

abbrev pub sources_of : Aig → List Named
sources_of g = inputs_of g ++ latches_of g

abbrev pub outputs_of : Aig → List Named
outputs_of g = outputs_named g.symbols 0 g.outputs (sources_of g)

abbrev pub feeds_of : Aig → List Named
feeds_of g = feeds_named (sources_of g) 0 g.latches (sources_of g ++ outputs_of g)

-- all names
abbrev pub named_of : Aig → List Named
named_of g = sources_of g ++ (outputs_of g ++ feeds_of g)

abbrev pub literal_in : Option Named → ℕ
literal_in None = 0
literal_in (Some named) = named.literal

-- the literal for which a name stands
abbrev pub literal_named : Aig → List ℕ → ℕ
literal_named g name = literal_in (find (λ n. bytes_eq n.name name) (named_of g))

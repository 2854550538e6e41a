-- What the code has of names while they are given.
use Rattle.std.specs.Prelude.{ℕ, suc, ◌≡◌, ◌<◌, ◌==◌, max, Bool, true, false, List, [], ◌∷◌, ◌++◌, length, map, find, decimal, slice_index}
use Rattle.std.specs.List.{AllByRecursion}
use Rattle.syn_netlist.specs.Numbers.{all_below, word_at, words_at}
use Rattle.syn_netlist.specs.Words.{has_word}
use Rattle.syn_aiger_files.specs.declared.files.Place.{Place}
use Rattle.syn_aiger_files.specs.declared.files.Symbol.{Symbol}
use Rattle.syn_aiger.specs.declared.given.Given.{Given}
use Rattle.syn_aiger_files.specs.FirstNames.{first_name}
use Rattle.syn_aiger.specs.Naming.{Named, free_name, is_given, is_given_otherwise, name_of, source_or}

-- a name is taken: it is given, or, where an equal literal may keep it, given for another literal
abbrev pub taken_by : Bool → ℕ → List Named → List ℕ → Bool
taken_by false l given = is_given given
taken_by true l given = is_given_otherwise l given

-- the name that is given next
abbrev pub named_next : Bool → ℕ → List Named → List ℕ → Named
named_next keeps l given first = record { name = free_name given (taken_by keeps l given) first; literal = l }

-- the names of these literals of a place, numbered from an index on, behind given names
abbrev pub places_named : Bool → List Symbol → Place → ℕ → List ℕ → List Named → List Named
places_named keeps symbols place index [] given = []
places_named keeps symbols place index (l ∷ ls) given =
    let named : Named = named_next keeps l given (first_name symbols place index) in
    named ∷ places_named keeps symbols place (suc index) ls (given ++ named ∷ [])

-- the name of what a latch loads
abbrev pub feed_next : List Named → ℕ → ℕ → List Named → Named
feed_next sources index next given = source_or (find (λ n. n.literal == next) sources) (named_next false next given (100 ∷ decimal index))

-- the literal of a name by its number is that for which it is given
abbrev pub HasLiteral : List (List ℕ) → List ℕ → Named → Type 0
HasLiteral names literals n = (i : ℕ) → i < length names → word_at names i ≡ n.name → slice_index literals i ≡ n.literal

-- The names and numbers are those of these given names.
pub record Keeps (s : Given) (given : List Named) : Type 0 where
  pub words : words_at s.names s.numbers.items ≡ map name_of given
  pub below : all_below (length s.names) s.numbers.items ≡ true
  pub all : (word : List ℕ) → has_word s.names word ≡ is_given given word
  pub literals : AllByRecursion (HasLiteral s.names s.literals.items) given
  pub count : length s.literals.items ≡ length s.names

-- the longest word's length
abbrev pub longest_word : List (List ℕ) → ℕ
longest_word [] = 0
longest_word (w ∷ ws) = max (length w) (longest_word ws)

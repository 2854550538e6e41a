-- What is told of a comparison of two networks.
use Rattle.std.specs.Prelude.{ℕ, Bool, true, false, ◌++◌, List, [], ◌∷◌, codes, decimal}
use Rattle.syn_compare.specs.declared.answers.Comparison.{Comparison}
use Rattle.syn_compare.specs.declared.answers.Comparison.TheVariants.{Equivalent, Different, Undecided}

-- a value as a digit
abbrev pub digit_of : Bool → List ℕ
digit_of true = codes "1"
digit_of false = codes "0"

-- a source with its value, behind a blank
abbrev pub setting : List ℕ → Bool → List ℕ
setting name value = codes " " ++ name ++ codes "=" ++ digit_of value

-- the sources with their values in order, as many as both lists have
abbrev pub settings : List (List ℕ) → List Bool → List ℕ
settings (name ∷ names) (value ∷ values) = setting name value ++ settings names values
settings names values = []

-- what is told of a comparison, where the sources have these names: of a difference the signal's name, and in a second line the sources' values
abbrev pub comparison_text : List (List ℕ) → Comparison → List ℕ
comparison_text names Equivalent = codes "equivalent" ++ 10 ∷ []
comparison_text names (Different signal values) = codes "different: " ++ signal ++ 10 ∷ [] ++ codes "at" ++ settings names values.items ++ 10 ∷ []
comparison_text names (Undecided signals of) = codes "undecided: " ++ decimal signals ++ codes " of " ++ decimal of ++ codes " signals" ++ 10 ∷ []

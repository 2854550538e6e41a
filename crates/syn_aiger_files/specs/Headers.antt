-- What is so of the counts on a first line, and how the code tells those that may follow the five.
use Rattle.std.specs.Prelude.{ℕ, ◌≡◌, ◌+◌, ◌≤◌, ◌⊎◌, List, [], Option, Some, None}
use Rattle.syn_aiger_files.specs.Cuts.{words_left}
use Rattle.syn_aiger_files.specs.Files.{Further, Header, all_outputs}
use Rattle.syn_aiger_files.specs.Spelling.{further_by, most_variables}
use Rattle.syn_aiger_files.specs.Texts.{and_number, numbers_of}

-- Its counts are in range, and no more is defined than there are variables.
pub record HeaderFits (h : Header) : Type 0 where
  pub variables : h.variables ≤ most_variables
  pub outputs : all_outputs h ≤ most_variables
  pub defined : h.inputs + h.latches + h.ands ≤ h.variables

-- the numbers that are left of a text
abbrev pub numbers_left : Option (List ℕ) → Option (List ℕ)
numbers_left text = numbers_of (words_left text)

-- the counts that numbers left say
abbrev pub further_left : Option (List ℕ) → Option Further
further_left None = None
further_left (Some ns) = further_by ns

-- the next of the numbers that are left, with the others; 0 where none is left
abbrev pub TakesNext : Option (List ℕ) → ℕ → Option (List ℕ) → Type 0
TakesNext left n rest = (left ≡ and_number (Some n) rest) ⊎ ((left ≡ Some []) × (n ≡ 0) × (rest ≡ Some []))

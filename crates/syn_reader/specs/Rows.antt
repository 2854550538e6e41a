-- Rows as the reader meets them.
use Rattle.std.specs.Prelude.{ℕ, ◌≡◌, ◌⊎◌, length, ◌==◌, not, Bool, true, false, if◌then◌else◌, List, [], ◌∷◌, bytes_eq, codes, option_map, Option, Some, None}
use Rattle.std.specs.Option.{option_or}
use Rattle.syn_reader.specs.Faults.{Fault, RowShape, MixedRows}
use Rattle.syn_reader.specs.Statements.{Statement, is_row}
use Rattle.syn_reader.specs.Shapes.{is_input_part, is_row_of, last_word, all_but_last, output_word}
use Rattle.syn_reader.specs.declared.Kind.{Kind}
use Rattle.syn_reader.specs.declared.Kind.TheVariants as kinds
use Rattle.syn_reader.specs.Keywords.{fault_where, line_fault}

-- The output that a word spells.
abbrev pub output_in : List ℕ → Option Bool
output_in word = if bytes_eq (codes "1") word then Some true else if bytes_eq (codes "0") word then Some false else None

-- The input part and the output of a row for so many inputs.
abbrev pub row_in : ℕ → List (List ℕ) → Option (List ℕ × Bool)
row_in n [] = None
row_in n (output ∷ []) = if n == 0 then option_map (λ on. ([], on)) (output_in output) else None
row_in n (part ∷ output ∷ []) = if n == 0 then None else if is_input_part n part then option_map (λ on. (part, on)) (output_in output) else None
row_in n (part ∷ output ∷ word ∷ words) = None

-- The statements behind the rows in front.
abbrev pub below_rows : List Statement → List Statement
below_rows [] = []
below_rows (s ∷ ss) = if is_row s.kind then below_rows ss else s ∷ ss

-- Whether a row has another output than the rows above it, where there are some.
abbrev pub is_mixed : Option Bool → List (List ℕ) → Bool
is_mixed None words = false
is_mixed (Some on) words = not (bytes_eq (last_word words) (output_word on))

-- The fault of a row of a table with so many inputs, below rows of this output.
abbrev pub row_fault : ℕ → Option Bool → Statement → Option Fault
row_fault n on s = option_or (fault_where (not (is_row_of n s.words)) (RowShape s.line)) (fault_where (is_mixed on s.words) (MixedRows s.line))

-- The output of rows, by the first of them.
abbrev pub output_with : Option Bool → List (List ℕ) → Bool
output_with None words = bytes_eq (last_word words) (output_word true)
output_with (Some on) words = on

-- The first fault of the rows in front of the statements.
abbrev pub rows_fault : ℕ → Option Bool → List Statement → Option Fault
rows_fault n on [] = None
rows_fault n on (s ∷ ss) = if is_row s.kind then option_or (row_fault n on s) (rows_fault n (Some (output_with on s.words)) ss) else None

-- The fault of a `.names` line with these words, or else of the rows below it.
abbrev pub IsTableFault : (Kind → List ℕ → Bool) → ℕ → List (List ℕ) → List Statement → Fault → Type 0
IsTableFault test line words below fault =
    (line_fault test kinds.Names line words ≡ Some fault)
    ⊎ ((line_fault test kinds.Names line words ≡ None) × (rows_fault (length (all_but_last words)) None below ≡ Some fault))

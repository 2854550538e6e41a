-- Numbers in scripts: one or more digits, of which leading ones may be zeros.
use Rattle.std.specs.Prelude.{ℕ, ◌+◌, ◌-◌, ◌*◌, nat_le, nat_lt, ◌&&◌, Bool, if◌then◌else◌, List, [], ◌∷◌, length, Option, Some, None, Result, Ok, Err}
use Rattle.std.specs.List.{list_all}
use Rattle.syn_lex.specs.Words.{Word}
use Rattle.syn_words.specs.declared.forms.NumberRange.{NumberRange}
use Rattle.syn_words.specs.declared.ScriptFault.{ScriptFault}
use Rattle.syn_words.specs.declared.ScriptFault.TheVariants.{BadNumber, OutOfRange}

-- A digit: 48 to 57.
abbrev pub is_digit : ℕ → Bool
is_digit b = nat_le 48 b && nat_le b 57

-- One or more digits, and nothing else.
abbrev pub is_number : List ℕ → Bool
is_number text = nat_lt 0 (length text) && list_all is_digit text

-- The number that digits spell behind those of n.
abbrev pub number_after : ℕ → List ℕ → ℕ
number_after n [] = n
number_after n (b ∷ bs) = number_after (n * 10 + (b - 48)) bs

-- The number that digits spell.
abbrev pub number_of : List ℕ → ℕ
number_of digits = number_after 0 digits

-- A number lies in a range, whose ends belong to it.
abbrev pub is_within : NumberRange → ℕ → Bool
is_within range n = nat_le range.least n && nat_le n range.most

-- The number that a text spells, where it lies in a range.
abbrev pub number_in : NumberRange → List ℕ → Option ℕ
number_in range text = if is_number text && is_within range (number_of text) then Some (number_of text) else None

-- What a word says where a number in a range stands: the number, or it is none, or out of the range.
abbrev pub number_at : NumberRange → Word → Result ℕ ScriptFault
number_at range word =
    if is_number word.text
    then (if is_within range (number_of word.text) then Ok (number_of word.text) else Err (OutOfRange word.at))
    else Err (BadNumber word.at)

-- The numbers on a line, as the code tells them apart.
use Rattle.std.specs.Prelude.{ℕ, ◌&&◌, nat_le, if◌then◌else◌, List, [], ◌∷◌, Option, Some, None}
use Rattle.std.specs.List.{list_all}
use Rattle.syn_aiger_files.specs.declared.numbers.OnLine.{OnLine}
use Rattle.syn_aiger_files.specs.declared.numbers.OnLine.TheVariants.{One, Two, Three, Other}
use Rattle.syn_aiger_files.specs.Texts.{is_digit, most_literal, value_from}

-- the number that bytes spell, where all are digits and it is no greater than the greatest literal
abbrev pub digits_in : List ℕ → Option ℕ
digits_in word = if list_all is_digit word && nat_le (value_from 0 word) most_literal then Some (value_from 0 word) else None

-- one, two or three numbers, or another line
abbrev pub shown_by : List ℕ → OnLine
shown_by (a ∷ []) = One a
shown_by (a ∷ b ∷ []) = Two a b
shown_by (a ∷ b ∷ c ∷ []) = Three a b c
shown_by ns = Other

-- the numbers; none of another line
abbrev pub listed : OnLine → List ℕ
listed (One a) = a ∷ []
listed (Two a b) = a ∷ b ∷ []
listed (Three a b c) = a ∷ b ∷ c ∷ []
listed Other = []

-- Files of LUTs: a row a line, a number of inputs, an area, and delays.
use Rattle.std.specs.Prelude.{ℕ, suc, ◌-◌, ◌^◌, nat_lt, max, min, ◌&&◌, ◌||◌, ◌==◌, not, Bool, true, if◌then◌else◌, List, [], ◌∷◌, take, drop, slice_index_or, slice_set, replicate, Option, Some, None, Result, Ok, Err}
use Rattle.syn_lex.specs.Pieces.{before, pieces}
use Rattle.syn_lex.specs.Words.{Word, words_by}
use Rattle.syn_words.specs.declared.forms.NumberRange.{NumberRange}
use Rattle.syn_command_files.specs.declared.luts.LutFileFault.{LutFileFault}
use Rattle.syn_command_files.specs.declared.luts.LutFileFault.TheVariants.{Line}
use Rattle.syn_command_files.specs.declared.luts.LutRow.{LutRow}
use Rattle.syn_words.specs.declared.inputs.LutSizes.{LutSizes}
use Rattle.syn_words.specs.Numbers.{is_number, number_after, number_in, number_of}

-- A byte of a word: all but blanks, tabs and CRs.
abbrev pub is_row_byte : ℕ → Bool
is_row_byte b = not (b == 32 || b == 9 || b == 13)

-- A line up to its comment, which `#` begins.
abbrev pub without_comment : List ℕ → List ℕ
without_comment line = take (before (λ b. b == 35) line) line

-- The words of a line.
abbrev pub row_words : List ℕ → List Word
row_words line = words_by is_row_byte 0 (without_comment line)

-- Nothing, or a point and digits.
abbrev pub is_fraction : List ℕ → Bool
is_fraction [] = true
is_fraction (point ∷ digits) = is_number digits

-- A number: digits, and perhaps a point and digits behind it.
abbrev pub is_decimal : List ℕ → Bool
is_decimal text = is_number (take (before (λ b. b == 46) text) text) && is_fraction (drop (before (λ b. b == 46) text) text)

-- All words are numbers.
abbrev pub are_decimals : List Word → Bool
are_decimals [] = true
are_decimals (word ∷ words) = is_decimal word.text && are_decimals words

-- the digits behind the point of a fraction, if any
abbrev pub fraction_digits : List ℕ → List ℕ
fraction_digits [] = []
fraction_digits (point ∷ digits) = digits

-- the digit at a place, a zero past the end
abbrev pub digit_at : List ℕ → ℕ → ℕ
digit_at digits place = slice_index_or digits place 48

-- the first three digits, zeros where there are fewer
abbrev pub three_digits : List ℕ → List ℕ
three_digits digits = digit_at digits 0 ∷ digit_at digits 1 ∷ digit_at digits 2 ∷ []

-- the greatest area that is told
abbrev pub most_area : ℕ
most_area = 2 ^ 32 - 1

-- no area of a LUT of one to eight inputs is told
abbrev pub no_areas : List ℕ
no_areas = replicate 8 most_area

-- How many thousandths a number is, of whose fraction three digits count; the greatest area where it is more.
abbrev pub thousandths : List ℕ → ℕ
thousandths text =
    min most_area (number_after (number_of (take (before (λ b. b == 46) text) text)) (three_digits (fraction_digits (drop (before (λ b. b == 46) text) text))))

-- how many inputs a row may have
abbrev pub row_inputs : NumberRange
row_inputs = record { least = 1; most = 8 }

-- a row of so many inputs, if any, and this area
abbrev pub row_of : Option ℕ → ℕ → Option LutRow
row_of None area = None
row_of (Some inputs) area = Some (record { inputs = inputs; area = area })

-- The row that words are: how many inputs the LUT has, and its area; of 0 inputs where there is no word. A row has an area, and perhaps delays.
abbrev pub row_in : List Word → Option LutRow
row_in [] = Some (record { inputs = 0; area = 0 })
row_in (inputs ∷ []) = None
row_in (inputs ∷ area ∷ delays) = if is_decimal area.text && are_decimals delays then row_of (number_in row_inputs inputs.text) (thousandths area.text) else None

-- The areas of LUTs of one input, of two, and so on, with that of a row, where it has an input.
abbrev pub with_area : List ℕ → LutRow → List ℕ
with_area areas row = if row.inputs == 0 then areas else slice_set areas (row.inputs - 1) row.area

-- What rows tell whose greatest number of inputs is this, where it is 2 at least; else the number of the last line.
abbrev pub sizes_or_none : ℕ → ℕ → List ℕ → Result LutSizes ℕ
sizes_or_none line most areas = if nat_lt most 2 then Err line else Ok (record { most = most; areas = areas })

-- What is found further on with the row of a line; or the number of the line, where it is no row.
abbrev pub sizes_with : ℕ → Option LutRow → (LutRow → Result LutSizes ℕ) → Result LutSizes ℕ
sizes_with line None further = Err line
sizes_with line (Some row) further = further row

-- The same of lines behind one of this number, up to which it is this; or the number of the first line that is no row.
abbrev pub sizes_after : ℕ → ℕ → List ℕ → List (List ℕ) → Result LutSizes ℕ
sizes_after line most areas [] = sizes_or_none line most areas
sizes_after line most areas (text ∷ texts) =
    sizes_with (suc line) (row_in (row_words text)) (λ row. sizes_after (suc line) (max most row.inputs) (with_area areas row) texts)

-- What a file of LUTs says: the greatest number of inputs of its rows, which is 2 to 8, and the areas of LUTs of one to eight inputs, each by the last row of so many, the greatest area where there is none; or the number of the line of its first fault, from 1: the first line that is no row, and else the last line, 0 where there is none.
abbrev pub sizes_in : List ℕ → Result LutSizes ℕ
sizes_in text = sizes_after 0 0 no_areas (pieces 10 text)

-- The line that is told of a fault.
abbrev pub line_of : LutFileFault → ℕ
line_of (Line line) = line

-- Numbers of a file: what is written is read again, in groups of seven bits and as words of a line.
use Rattle.std.specs.Prelude.{⊤}
use Rattle.std.specs.List.{list_all, onto_first}
use Rattle.std.proofs.Common.{◌≡◌, ℕ, zero, suc, ◌+◌, ◌-◌, ◌*◌, ◌/◌, ◌%◌, ◌^◌, ◌<◌, ◌≤◌, ◌==◌, ◌&&◌, ◌||◌, nat_le, true, cond, ltb, List, [], ◌∷◌, ◌++◌, length, decimal, option_map, Some, None, refl, sym, ap, ap₂, ◌∙◌, subst, inl, inr, append_assoc, append-nil, arith, lt-ltb, le-ltb, le-leb, eq-eqb, ne_eqb}
use Rattle.std.specs.Str.Parse.{AllDigits}
use Rattle.std.proofs.lemmas.Bool.{cases_lt, cond-true, cond-false, and_from, and_left, or_from}
use Rattle.std.proofs.lemmas.Str.Parse.{IsNumeralModel, numerals_by_fold, tells_digits, digit_from_value}
use Rattle.std.proofs.lemmas.Fmt.{decimal_is_IsNumeral, digits_value-decimal}
use Rattle.syn_netlist.specs.TextLines.{blanked, line}
use Rattle.syn_aiger_files.specs.Texts.{and_number, begins_with_lf, begun, behind, delta, first_line, front, is_digit, is_numeral, lines_at, most_literal, number_of, numbers_of, numbers_on, or_none, value_from, words_of}
use Rattle.syn_aiger_files.specs.Printed.{decimals, grouped, number_line}

-- groups of seven bits

one_group : (k n : ℕ) (rest : List ℕ) → n < 128 → delta (suc k) (grouped (suc k) n ++ rest) ≡ Some (n, rest)
one_group k n rest l =
    ap (λ (bs : List ℕ). delta (suc k) (bs ++ rest)) (cond-true (ltb n 128) (n ∷ []) ((128 + n % 128) ∷ grouped k (n / 128)) (lt-ltb n 128 l))
    ∙ cond-true (ltb n 128) (Some (n, rest)) (option_map (λ (r : ℕ × List ℕ). (n - 128 + 128 * r.0, r.1)) (delta k rest)) (lt-ltb n 128 l)

more_groups : (k n : ℕ) (rest : List ℕ) → 128 ≤ n → delta k (grouped k (n / 128) ++ rest) ≡ Some (n / 128, rest) → delta (suc k) (grouped (suc k) n ++ rest) ≡ Some (n, rest)
more_groups k n rest g h =
    ap (λ (bs : List ℕ). delta (suc k) (bs ++ rest)) (cond-false (ltb n 128) (n ∷ []) ((128 + n % 128) ∷ grouped k (n / 128)) (le-ltb n 128 g))
    ∙ cond-false (ltb (128 + n % 128) 128) (Some (128 + n % 128, grouped k (n / 128) ++ rest)) (option_map (λ (r : ℕ × List ℕ). (128 + n % 128 - 128 + 128 * r.0, r.1)) (delta k (grouped k (n / 128) ++ rest))) (le-ltb (128 + n % 128) 128 (omega arith))
    ∙ ap (option_map (λ (r : ℕ × List ℕ). (128 + n % 128 - 128 + 128 * r.0, r.1))) h
    ∙ ap (λ (m : ℕ). Some (m, rest)) (let e : 128 + n % 128 - 128 + 128 * (n / 128) ≡ n = omega arith in e)

pub delta_grouped : (k n : ℕ) (rest : List ℕ) → n < 128 ^ suc k → delta (suc k) (grouped (suc k) n ++ rest) ≡ Some (n, rest)
delta_grouped zero n rest h = one_group zero n rest (omega arith)
delta_grouped (suc k) n rest h = elim (cases_lt n 128) [
  | inl l ↦ one_group (suc k) n rest l
  | inr g ↦ more_groups (suc k) n rest g (delta_grouped k (n / 128) rest (omega arith))
]

-- a number below 2 ^ 35 has five groups at most
pub delta_of : (n : ℕ) (rest : List ℕ) → n < 2 ^ 35 → delta 5 (grouped 5 n ++ rest) ≡ Some (n, rest)
delta_of n rest h = delta_grouped 4 n rest (omega arith)

-- texts of a line

-- each byte is above a number
abbrev pub Above : ℕ → List ℕ → Type 0
Above m [] = ⊤
Above m (b ∷ bs) = (m < b) × Above m bs

-- words of bytes above the blank
abbrev pub AllWords : List (List ℕ) → Type 0
AllWords [] = ⊤
AllWords (w ∷ ws) = Above 32 w × AllWords ws

pub above-append : (m : ℕ) (xs ys : List ℕ) → Above m xs → Above m ys → Above m (xs ++ ys)
above-append m [] ys h k = k
above-append m (x ∷ xs) ys h k = (h.0, above-append m xs ys h.1 k)

pub above_less : (m n : ℕ) (xs : List ℕ) → m ≤ n → Above n xs → Above m xs
above_less m n [] le h = tt
above_less m n (x ∷ xs) le h = (omega (arith, h.0), above_less m n xs le h.1)

pub above_blanked : (ws : List (List ℕ)) → AllWords ws → Above 31 (blanked ws)
above_blanked [] h = tt
above_blanked (w ∷ ws) h = (omega arith, above-append 31 w (blanked ws) (above_less 31 32 w (omega arith) h.0) (above_blanked ws h.1))

pub above_line : (w : List ℕ) (ws : List (List ℕ)) → Above 32 w → AllWords ws → Above 31 (w ++ blanked ws)
above_line w ws h k = above-append 31 w (blanked ws) (above_less 31 32 w (omega arith) h) (above_blanked ws k)

pub first_line_text : (text rest : List ℕ) → Above 31 text → first_line (text ++ 10 ∷ rest) ≡ text
first_line_text [] rest h = refl
first_line_text (b ∷ bs) rest h =
    cond-false (b == 10 || (b == 13 && begins_with_lf (bs ++ 10 ∷ rest))) [] (b ∷ first_line (bs ++ 10 ∷ rest))
    (or_from (b == 10) (b == 13 && begins_with_lf (bs ++ 10 ∷ rest)) (ne_eqb b 10 (λ e. omega (arith, h.0))) (and_left (b == 13) (begins_with_lf (bs ++ 10 ∷ rest)) (ne_eqb b 13 (λ e. omega (arith, h.0)))))
    ∙ ap (λ (l : List ℕ). b ∷ l) (first_line_text bs rest h.1)

pub behind_text : (end : ℕ) (text rest : List ℕ) → Above end text → behind end (text ++ end ∷ rest) ≡ rest
behind_text end [] rest h = cond-true (end == end) rest (behind end rest) (eq-eqb end end refl)
behind_text end (b ∷ bs) rest h = cond-false (b == end) (bs ++ end ∷ rest) (behind end (bs ++ end ∷ rest)) (ne_eqb b end (λ e. omega (arith, h.0))) ∙ behind_text end bs rest h.1

pub front_text : (end : ℕ) (text rest : List ℕ) → Above end text → front end (text ++ end ∷ rest) ≡ text
front_text end [] rest h = cond-true (end == end) [] (end ∷ front end rest) (eq-eqb end end refl)
front_text end (b ∷ bs) rest h = cond-false (b == end) [] (b ∷ front end (bs ++ end ∷ rest)) (ne_eqb b end (λ e. omega (arith, h.0))) ∙ ap (λ (l : List ℕ). b ∷ l) (front_text end bs rest h.1)

pub lines_at_text : (at : ℕ) (text rest : List ℕ) → Above 31 text → lines_at at (text ++ 10 ∷ rest) ≡ record { at = at; text = text } ∷ lines_at (at + suc (length text)) rest
lines_at_text at [] rest h = ap (λ (k : ℕ). record { at = at; text = [] } ∷ lines_at k rest) (let e : suc at ≡ at + suc 0 = omega arith in e)
lines_at_text at (b ∷ bs) rest h =
    let more : List ℕ = bs ++ 10 ∷ rest in
    cond-false (b == 10) (record { at = at; text = [] } ∷ lines_at (suc at) more) (cond (b == 13 && begins_with_lf more) (begun at [] (lines_at (suc at) more)) (begun at (b ∷ []) (lines_at (suc at) more))) (ne_eqb b 10 (λ e. omega (arith, h.0)))
    ∙ cond-false (b == 13 && begins_with_lf more) (begun at [] (lines_at (suc at) more)) (begun at (b ∷ []) (lines_at (suc at) more)) (and_left (b == 13) (begins_with_lf more) (ne_eqb b 13 (λ e. omega (arith, h.0))))
    ∙ ap (begun at (b ∷ [])) (lines_at_text (suc at) bs rest h.1)
    ∙ ap (λ (k : ℕ). record { at = at; text = b ∷ bs } ∷ lines_at k rest) (let e : suc at + suc (length bs) ≡ at + suc (suc (length bs)) = omega arith in e)

-- words of a line

pub words_of_word : (w : List ℕ) → Above 32 w → words_of w ≡ w ∷ []
words_of_word [] h = refl
words_of_word (b ∷ bs) h = cond-false (b == 32) ([] ∷ words_of bs) (onto_first b (words_of bs)) (ne_eqb b 32 (λ e. omega (arith, h.0))) ∙ ap (onto_first b) (words_of_word bs h.1)

pub words_of_more : (w rest : List ℕ) → Above 32 w → words_of (w ++ 32 ∷ rest) ≡ w ∷ words_of rest
words_of_more [] rest h = refl
words_of_more (b ∷ bs) rest h = cond-false (b == 32) ([] ∷ words_of (bs ++ 32 ∷ rest)) (onto_first b (words_of (bs ++ 32 ∷ rest))) (ne_eqb b 32 (λ e. omega (arith, h.0))) ∙ ap (onto_first b) (words_of_more bs rest h.1)

pub words_of_line : (w : List ℕ) (ws : List (List ℕ)) → Above 32 w → AllWords ws → words_of (w ++ blanked ws) ≡ w ∷ ws
words_of_line w [] h k = ap words_of (append-nil w) ∙ words_of_word w h
words_of_line w (v ∷ ws) h k = words_of_more w (v ++ blanked ws) h ∙ ap (λ (l : List (List ℕ)). w ∷ l) (words_of_line v ws k.0 k.1)

-- a line that is written, and what stands behind it

pub line_cut : (w : List ℕ) (ws : List (List ℕ)) (rest : List ℕ) → line w ws ++ rest ≡ (w ++ blanked ws) ++ 10 ∷ rest
line_cut w ws rest = ap (λ (l : List ℕ). l ++ rest) (sym (append_assoc w (blanked ws) (10 ∷ []))) ∙ append_assoc (w ++ blanked ws) (10 ∷ []) rest

pub first_line_line : (w : List ℕ) (ws : List (List ℕ)) (rest : List ℕ) → Above 32 w → AllWords ws → first_line (line w ws ++ rest) ≡ w ++ blanked ws
first_line_line w ws rest h k = ap first_line (line_cut w ws rest) ∙ first_line_text (w ++ blanked ws) rest (above_line w ws h k)

pub behind_line : (w : List ℕ) (ws : List (List ℕ)) (rest : List ℕ) → Above 32 w → AllWords ws → behind 10 (line w ws ++ rest) ≡ rest
behind_line w ws rest h k = ap (behind 10) (line_cut w ws rest) ∙ behind_text 10 (w ++ blanked ws) rest (above_less 10 31 (w ++ blanked ws) (omega arith) (above_line w ws h k))

-- numerals

above_digits : (ds : List ℕ) → AllDigits 10 ds → Above 32 ds
above_digits [] h = tt
above_digits (d ∷ ds) h = (omega (arith, digit_from_value d h.0), above_digits ds h.1)

all_digits : (ds : List ℕ) → AllDigits 10 ds → list_all is_digit ds ≡ true
all_digits [] h = refl
all_digits (d ∷ ds) h =
    let k = digit_from_value d h.0 in
    and_from (is_digit d) (list_all is_digit ds) (and_from (nat_le 48 d) (nat_le d 57) (le-leb 48 d (omega arith)) (le-leb d 57 (omega arith))) (all_digits ds h.1)

value_model : IsNumeralModel (AllDigits 10) (value_from 0)
value_model = numerals_by_fold (AllDigits 10) tells_digits value_from (record {
  empty = λ n. refl;
  more = λ n c cs h. ap (λ (m : ℕ). value_from m cs) (let e : 10 * n + (c - 48) ≡ n * 10 + (c - 48) = omega arith in e);
})

numeral_by : (ds : List ℕ) → AllDigits 10 ds → 0 < length ds → value_from 0 ds ≤ most_literal → is_numeral ds ≡ true
numeral_by [] h some few = absurd (omega arith)
numeral_by (d ∷ ds) h some few = and_from (list_all is_digit (d ∷ ds)) (nat_le (value_from 0 (d ∷ ds)) most_literal) (all_digits (d ∷ ds) h) (le-leb (value_from 0 (d ∷ ds)) most_literal few)

-- Numbers of a file are no greater than the greatest literal.
abbrev pub IsShort : ℕ → Type 0
IsShort n = n ≤ most_literal

abbrev pub AllShort : List ℕ → Type 0
AllShort [] = ⊤
AllShort (n ∷ ns) = IsShort n × AllShort ns

digits_of_decimal : (n : ℕ) → IsShort n → AllDigits 10 (decimal n)
digits_of_decimal n h = (decimal_is_IsNumeral n (omega arith)).0.1

pub above_decimal : (n : ℕ) → IsShort n → Above 32 (decimal n)
above_decimal n h = above_digits (decimal n) (digits_of_decimal n h)

value_of_decimal : (n : ℕ) → IsShort n → value_from 0 (decimal n) ≡ n
value_of_decimal n h = digits_value-decimal value_model n (omega arith)

pub numeral_decimal : (n : ℕ) → IsShort n → is_numeral (decimal n) ≡ true
numeral_decimal n h = numeral_by (decimal n) (digits_of_decimal n h) (decimal_is_IsNumeral n (omega arith)).0.0 (subst (λ (m : ℕ). m ≤ most_literal) (sym (value_of_decimal n h)) h)

pub number_of_decimal : (n : ℕ) → IsShort n → number_of (decimal n) ≡ Some n
number_of_decimal n h = cond-true (is_numeral (decimal n)) (Some (value_from 0 (decimal n))) None (numeral_decimal n h) ∙ ap (λ (m : ℕ). Some m) (value_of_decimal n h)

pub all_words_decimals : (ns : List ℕ) → AllShort ns → AllWords (decimals ns)
all_words_decimals [] h = tt
all_words_decimals (n ∷ ns) h = (above_decimal n h.0, all_words_decimals ns h.1)

pub numbers_of_decimals : (ns : List ℕ) → AllShort ns → numbers_of (decimals ns) ≡ Some ns
numbers_of_decimals [] h = refl
numbers_of_decimals (n ∷ ns) h = ap₂ and_number (number_of_decimal n h.0) (numbers_of_decimals ns h.1)

pub numbers_on_line : (n : ℕ) (ns rest : List ℕ) → AllShort (n ∷ ns) → numbers_on (number_line n ns ++ rest) ≡ n ∷ ns
numbers_on_line n ns rest h =
    ap (λ (l : List ℕ). or_none (numbers_of (words_of l))) (first_line_line (decimal n) (decimals ns) rest (above_decimal n h.0) (all_words_decimals ns h.1))
    ∙ ap (λ (ws : List (List ℕ)). or_none (numbers_of ws)) (words_of_line (decimal n) (decimals ns) (above_decimal n h.0) (all_words_decimals ns h.1))
    ∙ ap or_none (numbers_of_decimals (n ∷ ns) h)

pub behind_numbers : (n : ℕ) (ns rest : List ℕ) → AllShort (n ∷ ns) → behind 10 (number_line n ns ++ rest) ≡ rest
behind_numbers n ns rest h = behind_line (decimal n) (decimals ns) rest (above_decimal n h.0) (all_words_decimals ns h.1)

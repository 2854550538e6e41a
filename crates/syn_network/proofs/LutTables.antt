-- The tables of LUTs: their outputs, what they read, and the LUTs that they spell.
use Rattle.std.proofs.Common.{◌≡◌, ℕ, zero, suc, ◌+◌, ◌-◌, ◌/◌, ◌%◌, ◌^◌, ◌<◌, ◌≤◌, ◌&&◌, if◌then◌else◌, nat_eq, nat_lt, nat_le, not, Bool, true, false, List, [], ◌∷◌, ◌++◌, map, length, filter, bytes_eq, refl, sym, ap, ap₂, ◌∙◌, append_assoc, append-nil, eq-eqb, inl, inr, arith}
use Rattle.std.specs.List.{list_all, AllByRecursion}
use Rattle.std.proofs.Math.Nat.{pow-suc}
use Rattle.std.proofs.lemmas.Bool.{and_parts, and_from, or_from, or_parts, not-true, not_from_false, not_from_true, cases_Bool, cond-true, cond-false, false_from_ne_true, ltb-true, eqb-false}
use Rattle.std.proofs.lemmas.List.{length-map, length_push, get_or_append_left}
use Rattle.syn_netlist.specs.Words.{has_word, distinct}
use Rattle.syn_netlist.specs.Costs.{is_sign}
use Rattle.syn_netlist.specs.Lists.{Table, output_of}
use Rattle.syn_lists.specs.Numbers.{has_number}
use Rattle.syn_netlist.specs.Numbers.{word_at}
use Rattle.syn_netlist.specs.Order.{reads_known}
use Rattle.syn_lists.specs.Numbers.{distinct_numbers}
use Rattle.syn_netlist.proofs.Sets.{same_word}
use Rattle.syn_truth.specs.Truth.{digit}
use Rattle.syn_network.proofs.Gates.{has_at, place_back}
use Rattle.syn_lutnet.specs.LutData.{Lut, rising, is_input, is_lut, none_exceeds}
use Rattle.syn_lutnet.proofs.LutParts.{AreLuts, input_high, input_low, lut_parts}
use Rattle.syn_network.specs.LutShape.{has_more, is_one, row_minterm, signal_of, lut_of, is_minterm_row, is_lut_table}
use Rattle.syn_network.specs.LutSpelling.{minterm_row, signal_name, lut_table, lut_tables_of}

-- filters that keep all or none

pub keeps_all : (p : Table → Bool) (ts : List Table) → AllByRecursion (λ t. p t ≡ true) ts → filter p ts ≡ ts
keeps_all p [] h = refl
keeps_all p (t ∷ ts) h = cond-true (p t) (t ∷ filter p ts) (filter p ts) h.0 ∙ ap (λ (l : List Table). t ∷ l) (keeps_all p ts h.1)

pub keeps_none : (p : Table → Bool) (ts : List Table) → AllByRecursion (λ t. p t ≡ false) ts → filter p ts ≡ []
keeps_none p [] h = refl
keeps_none p (t ∷ ts) h = cond-false (p t) (t ∷ filter p ts) (filter p ts) h.0 ∙ keeps_none p ts h.1

pub not_all : (p : Table → Bool) (ts : List Table) → AllByRecursion (λ t. p t ≡ true) ts → AllByRecursion (λ t. not (p t) ≡ false) ts
not_all p [] h = tt
not_all p (t ∷ ts) h = (not_from_true (p t) h.0, not_all p ts h.1)

pub not_none : (p : Table → Bool) (ts : List Table) → AllByRecursion (λ t. p t ≡ false) ts → AllByRecursion (λ t. not (p t) ≡ true) ts
not_none p [] h = tt
not_none p (t ∷ ts) h = (not_from_false (p t) h.0, not_none p ts h.1)

-- rows of minterms

pub length-minterm_row : (n m : ℕ) → length (minterm_row n m) ≡ n
length-minterm_row zero m = refl
length-minterm_row (suc n) m = ap suc (length-minterm_row n (m / 2))

pub signs_row : (n m : ℕ) → list_all is_sign (minterm_row n m) ≡ true
signs_row zero m = refl
signs_row (suc n) m = and_from (is_sign (if nat_eq (m % 2) 0 then 48 else 49)) (list_all is_sign (minterm_row n (m / 2))) first (signs_row n (m / 2))
  where
    first : is_sign (if nat_eq (m % 2) 0 then 48 else 49) ≡ true
    first = elim (cases_Bool (nat_eq (m % 2) 0)) [
      | inl e ↦ ap is_sign (cond-true (nat_eq (m % 2) 0) 48 49 e)
      | inr e ↦ ap is_sign (cond-false (nat_eq (m % 2) 0) 48 49 e)
    ]

bit_shown : (r : ℕ) → r < 2 → digit (is_one (if nat_eq r 0 then 48 else 49)) ≡ r
bit_shown zero lt = refl
bit_shown (suc zero) lt = refl
bit_shown (suc (suc r)) lt = absurd (omega arith)

pub minterm_back : (n m : ℕ) → m < 2 ^ n → row_minterm (minterm_row n m) ≡ m
minterm_back zero m lt = omega arith
minterm_back (suc n) m lt =
    let rest = minterm_back n (m / 2) (omega (arith, pow-suc 2 n)) in
    let bit = bit_shown (m % 2) (omega arith) in
    omega (arith, rest, bit)

ones_back : (n : ℕ) (ones : List ℕ) → list_all (λ m. nat_lt m (2 ^ n)) ones ≡ true → map row_minterm (map (minterm_row n) ones) ≡ ones
ones_back n [] h = refl
ones_back n (m ∷ ms) h =
    let parts = and_parts (nat_lt m (2 ^ n)) (list_all (λ k. nat_lt k (2 ^ n)) ms) h in
    ap₂ (λ (x : ℕ) (xs : List ℕ). x ∷ xs) (minterm_back n m (ltb-true m (2 ^ n) parts.0)) (ones_back n ms parts.1)

rows_list : (n many : ℕ) → many ≡ n → (ones : List ℕ) → list_all (is_minterm_row many) (map (minterm_row n) ones) ≡ true
rows_list n many e [] = refl
rows_list n many e (m ∷ ms) = and_from (is_minterm_row many (minterm_row n m)) (list_all (is_minterm_row many) (map (minterm_row n) ms))
    (and_from (nat_eq (length (minterm_row n m)) many) (list_all is_sign (minterm_row n m)) (eq-eqb (length (minterm_row n m)) many (length-minterm_row n m ∙ sym e)) (signs_row n m))
    (rows_list n many e ms)

-- names of inputs

signal_back : (names : List (List ℕ)) → distinct names ≡ true → (n : ℕ) → n ≤ length names + 1 → (i : ℕ) → is_input n i ≡ true → signal_of names (signal_name names i) ≡ i
signal_back names d n fits i h =
    let low = input_low n i h in
    let high = input_high n i h in
    let back = place_back names d (i - 1) (omega (arith, low, high, fits)) in
    omega (arith, low, back)

inputs_back : (names : List (List ℕ)) → distinct names ≡ true → (n : ℕ) → n ≤ length names + 1 → (is : List ℕ) → list_all (is_input n) is ≡ true → map (signal_of names) (map (signal_name names) is) ≡ is
inputs_back names d n fits [] h = refl
inputs_back names d n fits (i ∷ is) h =
    let parts = and_parts (is_input n i) (list_all (is_input n) is) h in
    ap₂ (λ (x : ℕ) (xs : List ℕ). x ∷ xs) (signal_back names d n fits i parts.0) (inputs_back names d n fits is parts.1)

name_apart : (names : List (List ℕ)) → distinct names ≡ true → (n : ℕ) → n ≤ length names + 1 → (i : ℕ) → is_input n i ≡ true → (is : List ℕ) → list_all (is_input n) is ≡ true → has_number is i ≡ false
    → has_word (map (signal_name names) is) (signal_name names i) ≡ false
name_apart names d n fits i at [] h away = refl
name_apart names d n fits i at (j ∷ js) h away =
    let parts = and_parts (is_input n j) (list_all (is_input n) js) h in
    let aways = or_parts (nat_eq j i) (has_number js i) away in
    or_from (bytes_eq (signal_name names j) (signal_name names i)) (has_word (map (signal_name names) js) (signal_name names i))
    (false_from_ne_true (bytes_eq (signal_name names j) (signal_name names i)) (λ e.
    eqb-false j i aways.0 (sym (signal_back names d n fits j parts.0) ∙ ap (signal_of names) (same_word (signal_name names j) (signal_name names i) e) ∙ signal_back names d n fits i at)))
    (name_apart names d n fits i at js parts.1 aways.1)

names_distinct : (names : List (List ℕ)) → distinct names ≡ true → (n : ℕ) → n ≤ length names + 1 → (is : List ℕ) → list_all (is_input n) is ≡ true → distinct_numbers is ≡ true → distinct (map (signal_name names) is) ≡ true
names_distinct names d n fits [] h once = refl
names_distinct names d n fits (i ∷ is) h once =
    let parts = and_parts (is_input n i) (list_all (is_input n) is) h in
    let onces = and_parts (not (has_number is i)) (distinct_numbers is) once in
    and_from (not (has_word (map (signal_name names) is) (signal_name names i))) (distinct (map (signal_name names) is))
    (not_from_false (has_word (map (signal_name names) is) (signal_name names i)) (name_apart names d n fits i parts.0 is parts.1 (not-true (has_number is i) onces.0)))
    (names_distinct names d n fits is parts.1 onces.1)

inputs_known : (known more names : List (List ℕ)) → names ≡ known ++ more → (n : ℕ) → n ≡ length known + 1 → (is : List ℕ) → list_all (is_input n) is ≡ true → list_all (has_word known) (map (signal_name names) is) ≡ true
inputs_known known more names same n at [] h = refl
inputs_known known more names same n at (i ∷ is) h =
    let parts = and_parts (is_input n i) (list_all (is_input n) is) h in
    let low = input_low n i parts.0 in
    let high = input_high n i parts.0 in
    and_from (has_word known (signal_name names i)) (list_all (has_word known) (map (signal_name names) is))
    (ap (has_word known) (ap (λ (ws : List (List ℕ)). word_at ws (i - 1)) same ∙ get_or_append_left known more [] (i - 1) (omega (arith, low, high, at)))
    ∙ has_at known (i - 1) (omega (arith, low, high, at)))
    (inputs_known known more names same n at is parts.1)

-- the tables

pub luts_have_more : (names : List (List ℕ)) (n : ℕ) (luts : List Lut) (words : List (List ℕ)) → AreLuts n luts → AllByRecursion (λ t. has_more t ≡ true) (lut_tables_of names luts words)
luts_have_more names n [] words a = tt
luts_have_more names n (l ∷ ls) [] a = tt
luts_have_more names n (l ∷ ls) (w ∷ ws) a = (ap (nat_le 2) (length-map l.inputs (signal_name names)) ∙ (lut_parts n l a.0).many, luts_have_more names (suc n) ls ws a.1)

pub lut_outputs : (names : List (List ℕ)) (luts : List Lut) (words : List (List ℕ)) → length words ≡ length luts → map output_of (lut_tables_of names luts words) ≡ words
lut_outputs names [] [] e = refl
lut_outputs names [] (w ∷ ws) e = absurd (omega (arith, e))
lut_outputs names (l ∷ ls) [] e = refl
lut_outputs names (l ∷ ls) (w ∷ ws) e = ap (λ (x : List (List ℕ)). w ∷ x) (lut_outputs names ls ws (omega (arith, e)))

abbrev lut : List ℕ → List ℕ → Lut
lut inputs ones = record { inputs = inputs; ones = ones }

pub luts_spell : (names : List (List ℕ)) → distinct names ≡ true → (n : ℕ) (luts : List Lut) (words : List (List ℕ)) → AreLuts n luts → length words ≡ length luts → n + length luts ≤ length names + 1
    → map (lut_of names) (lut_tables_of names luts words) ≡ luts
luts_spell names d n [] words a e fits = refl
luts_spell names d n (l ∷ ls) [] a e fits = absurd (omega (arith, e))
luts_spell names d n (l ∷ ls) (w ∷ ws) a e fits =
    let parts = lut_parts n l a.0 in
    ap₂ (λ (x : Lut) (xs : List Lut). x ∷ xs)
    (ap₂ (λ (x y : List ℕ). lut x y) (inputs_back names d n (omega (arith, fits)) l.inputs parts.inside) (ones_back (length l.inputs) l.ones parts.small))
    (luts_spell names d (suc n) ls ws a.1 (omega (arith, e)) (omega (arith, fits)))

lut_is_table : (names : List (List ℕ)) → distinct names ≡ true → (n : ℕ) → n ≤ length names + 1 → (k : ℕ) (l : Lut) (w : List ℕ) → is_lut n l ≡ true → nat_le (length l.inputs) k ≡ true → is_lut_table k (lut_table names l w) ≡ true
lut_is_table names d n fits k l w h few =
    let parts = lut_parts n l h in
    let t : Table = lut_table names l w in
    let long = length-map l.inputs (signal_name names) in
    and_from (nat_le 2 (length t.inputs)) (nat_le (length t.inputs) k && (distinct t.inputs && (list_all (is_minterm_row (length t.inputs)) t.rows && (rising (map row_minterm t.rows) && true))))
    (ap (nat_le 2) long ∙ parts.many)
    (and_from (nat_le (length t.inputs) k) (distinct t.inputs && (list_all (is_minterm_row (length t.inputs)) t.rows && (rising (map row_minterm t.rows) && true)))
    (ap (λ m. nat_le m k) long ∙ few)
    (and_from (distinct t.inputs) (list_all (is_minterm_row (length t.inputs)) t.rows && (rising (map row_minterm t.rows) && true))
    (names_distinct names d n fits l.inputs parts.inside parts.once)
    (and_from (list_all (is_minterm_row (length t.inputs)) t.rows) (rising (map row_minterm t.rows) && true)
    (rows_list (length l.inputs) (length t.inputs) long l.ones)
    (and_from (rising (map row_minterm t.rows)) true (ap rising (ones_back (length l.inputs) l.ones parts.small) ∙ parts.rise) refl))))

pub luts_are_tables : (names : List (List ℕ)) → distinct names ≡ true → (k n : ℕ) (luts : List Lut) (words : List (List ℕ)) → AreLuts n luts → length words ≡ length luts → n + length luts ≤ length names + 1
    → none_exceeds k luts ≡ true → AllByRecursion (λ t. is_lut_table k t ≡ true) (lut_tables_of names luts words)
luts_are_tables names d k n [] words a e fits few = tt
luts_are_tables names d k n (l ∷ ls) [] a e fits few = tt
luts_are_tables names d k n (l ∷ ls) (w ∷ ws) a e fits few =
    let parts = and_parts (nat_le (length l.inputs) k) (none_exceeds k ls) few in
    (lut_is_table names d n (omega (arith, fits)) k l w a.0 parts.0, luts_are_tables names d k (suc n) ls ws a.1 (omega (arith, e)) (omega (arith, fits)) parts.1)

-- each LUT reads names above it; `known` are the names of the signals before it
pub luts_read : (known names : List (List ℕ)) (n : ℕ) (luts : List Lut) (words : List (List ℕ)) (ends : List Table) → AreLuts n luts → length words ≡ length luts → n ≡ length known + 1
    → names ≡ known ++ words → reads_known names ends ≡ true → reads_known known (lut_tables_of names luts words ++ ends) ≡ true
luts_read known names n [] [] ends a e at same r = ap (λ (ws : List (List ℕ)). reads_known ws ends) (sym (same ∙ append-nil known)) ∙ r
luts_read known names n [] (w ∷ ws) ends a e at same r = absurd (omega (arith, e))
luts_read known names n (l ∷ ls) [] ends a e at same r = absurd (omega (arith, e))
luts_read known names n (l ∷ ls) (w ∷ ws) ends a e at same r =
    and_from (list_all (has_word known) (map (signal_name names) l.inputs)) (reads_known (known ++ w ∷ []) (lut_tables_of names ls ws ++ ends))
    (inputs_known known (w ∷ ws) names same n at l.inputs (lut_parts n l a.0).inside)
    (luts_read (known ++ w ∷ []) names (suc n) ls ws ends a.1 (omega (arith, e)) (omega (arith, at, length_push known w)) (same ∙ sym (append_assoc known (w ∷ []) ws)) r)

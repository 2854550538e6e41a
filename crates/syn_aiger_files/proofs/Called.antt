-- What sources and outputs are first called.
use Rattle.std.specs.List.{list_all}
use Rattle.std.specs.Int.Digits.{AllBelowBase, digits_of}
use Rattle.std.specs.Result.{IfOk}
use Rattle.std.proofs.Common.{◌≡◌, ℕ, zero, suc, ◌+◌, ◌^◌, ◌<◌, ◌≤◌, ◌==◌, ◌⊎◌, true, false, if◌then◌else◌, List, [], ◌∷◌, length, map, find, drop, get_or, slice_index, decimal, Some, None, Result, Ok, Err, refl, sym, ap, ◌∙◌, inl, inr, arith, ne_eqb}
use Rattle.std.proofs.lemmas.Bool.{agree_below_at, and_from, and_right, cases_Bool, cond-true, cond-false}
use Rattle.std.proofs.lemmas.Fmt.{decimal-digits_of, decimal_digit}
use Rattle.std.proofs.lemmas.Int.Digits.{all_below_base_digits_of}
use Rattle.std.proofs.lemmas.List.{drop_more}
use Rattle.syn_netlist.specs.Words.{is_word, is_word_byte}
use Rattle.syn_aiger_files.specs.declared.files.Place.{Place}
use Rattle.syn_aiger_files.specs.declared.files.Symbol.{Symbol}
use Rattle.syn_aiger_files.specs.Symbols.{is_at, letter_of}
use Rattle.syn_aiger_files.specs.FirstNames.{first_name, nth_symbol, symbol_by, word_or}

pub decimal_word : (n : ℕ) → n < 2 ^ 64 → list_all is_word_byte (decimal n) ≡ true
decimal_word zero lt = ap (list_all is_word_byte) (decimal_digit 0 (omega arith))
decimal_word (suc n) lt = ap (list_all is_word_byte) (decimal-digits_of (suc n) (omega arith) lt) ∙ digits_are (digits_of 10 (suc n)) (all_below_base_digits_of 10 (suc n) (omega arith))
  where
    digits_are : (ds : List ℕ) → AllBelowBase 10 ds → list_all is_word_byte (map (λ d. 48 + d) ds) ≡ true
    digits_are [] h = refl
    digits_are (d ∷ ds) h = and_from (is_word_byte (48 + d)) (list_all is_word_byte (map (λ d. 48 + d) ds)) (agree_below_at (λ c. is_word_byte (48 + c)) (λ _. true) 10 d refl h.0) (digits_are ds h.1)

pub numbered_word : (w : List ℕ) (letter n : ℕ) → w ≡ letter ∷ decimal n → is_word_byte letter ≡ true → n < 2 ^ 32 → is_word w ≡ true
numbered_word w letter n e h l = ap is_word e ∙ and_from (is_word_byte letter) (list_all is_word_byte (decimal n)) h (decimal_word n (omega arith))

-- the table of symbols

symbol_there : (ss : List Symbol) (j : ℕ) (s : Symbol) (rest : List Symbol) → drop j ss ≡ s ∷ rest → nth_symbol ss j ≡ Some s
symbol_there [] zero s rest e = absurd (cc)
symbol_there [] (suc j) s rest e = absurd (cc)
symbol_there (x ∷ ss) zero s rest e = let q : x ≡ s = cc in ap (λ (y : Symbol). Some y) q
symbol_there (x ∷ ss) (suc j) s rest e = symbol_there ss j s rest e

pub symbol_is : (ss : List Symbol) (j : ℕ) (s : Symbol) → j < length ss → s ≡ get_or ss j s → nth_symbol ss j ≡ Some s
symbol_is ss j s l is = symbol_there ss j s (drop (j + 1) ss) (drop_more ss j s l ∙ ap (λ (x : Symbol). x ∷ drop (j + 1) ss) (sym is))

pub symbol_past : (ss : List Symbol) (j : ℕ) → length ss ≤ j → nth_symbol ss j ≡ None
symbol_past [] j l = refl
symbol_past (x ∷ ss) zero l = absurd (omega arith)
symbol_past (x ∷ ss) (suc j) l = symbol_past ss j (omega arith)

pub put_past : (old : List ℕ) (p : Place) (s : Symbol) (number i : ℕ) → length old ≤ s.index → i < length old → slice_index old i ≡ (if is_at p i s then number else slice_index old i)
put_past old p s number i e l = sym (cond-false (is_at p i s) number (slice_index old i) (and_right (letter_of s.place == letter_of p) (s.index == i) (ne_eqb s.index i (λ q. omega arith))))

-- one symbol more, from behind
pub table_step : (ss : List Symbol) (p : Place) (count : ℕ) (table new : List ℕ) (j k number : ℕ) (s : Symbol) → k ≡ suc j → number ≡ suc j → k ≤ length ss → s ≡ get_or ss j s → length table ≡ count
    → ((i : ℕ) → i < count → symbol_by ss (slice_index table i) ≡ find (is_at p i) (drop k ss))
    → ((i : ℕ) → i < length table → slice_index new i ≡ (if is_at p i s then number else slice_index table i))
    → (i : ℕ) → i < count → symbol_by ss (slice_index new i) ≡ find (is_at p i) (drop j ss)
table_step ss p count table new j k number s e f le is many found put i l =
    let here : drop j ss ≡ s ∷ drop k ss = drop_more ss j s (omega arith) ∙ ap (λ (x : Symbol). x ∷ drop (j + 1) ss) (sym is) ∙ ap (λ (n : ℕ). s ∷ drop n ss) (let q : j + 1 ≡ k = omega arith in q) in
    let at : slice_index new i ≡ (if is_at p i s then number else slice_index table i) = put i (omega arith) in
    elim (cases_Bool (is_at p i s)) [
      | inl t ↦
          ap (symbol_by ss) (at ∙ cond-true (is_at p i s) number (slice_index table i) t ∙ f) ∙ symbol_is ss j s (omega arith) is
          ∙ sym (ap (find (is_at p i)) here ∙ cond-true (is_at p i s) (Some s) (find (is_at p i) (drop k ss)) t)
      | inr n ↦
          ap (symbol_by ss) (at ∙ cond-false (is_at p i s) number (slice_index table i) n) ∙ found i l
          ∙ sym (ap (find (is_at p i)) here ∙ cond-false (is_at p i s) (Some s) (find (is_at p i) (drop k ss)) n)
    ]

-- the first name

pub called_by_symbol : (ss : List Symbol) (p : Place) (index number j : ℕ) (s : Symbol) (w : List ℕ) → symbol_by ss number ≡ find (is_at p index) ss → number ≡ suc j → j < length ss → s ≡ get_or ss j s → is_word s.name ≡ true → w ≡ s.name → w ≡ first_name ss p index
called_by_symbol ss p index number j s w found e l is word same =
    same ∙ sym (cond-true (is_word s.name) s.name (letter_of p ∷ decimal index) word)
    ∙ ap (word_or (letter_of p ∷ decimal index)) (sym (ap (symbol_by ss) e ∙ symbol_is ss j s l is) ∙ found)

pub called_by_number : (ss : List Symbol) (p : Place) (index number letter : ℕ) (w : List ℕ) → symbol_by ss number ≡ find (is_at p index) ss → symbol_by ss number ≡ None → letter ≡ letter_of p → w ≡ letter ∷ decimal index → w ≡ first_name ss p index
called_by_number ss p index number letter w found none l same =
    same ∙ ap (λ (b : ℕ). b ∷ decimal index) l ∙ ap (word_or (letter_of p ∷ decimal index)) (sym none ∙ found)

pub called_no_word : (ss : List Symbol) (p : Place) (index number j letter : ℕ) (s : Symbol) (w : List ℕ) → symbol_by ss number ≡ find (is_at p index) ss → number ≡ suc j → j < length ss → s ≡ get_or ss j s → is_word s.name ≡ false → letter ≡ letter_of p → w ≡ letter ∷ decimal index → w ≡ first_name ss p index
called_no_word ss p index number j letter s w found e l is word same_letter same =
    same ∙ ap (λ (b : ℕ). b ∷ decimal index) same_letter
    ∙ sym (cond-false (is_word s.name) s.name (letter_of p ∷ decimal index) word)
    ∙ ap (word_or (letter_of p ∷ decimal index)) (sym (ap (symbol_by ss) e ∙ symbol_is ss j s l is) ∙ found)

pub none_by : (ss : List Symbol) (number : ℕ) → (number ≡ 0) ⊎ (length ss < number) → symbol_by ss number ≡ None
none_by ss zero h = refl
none_by ss (suc k) (inl z) = absurd (omega arith)
none_by ss (suc k) (inr l) = symbol_past ss k (omega arith)

-- what holds of a success
pub if_ok : {T E : Type 0} (P Q : T → Type 0) (r : Result T E) → IfOk r P → ((a : T) → P a → Q a) → IfOk r Q
if_ok P Q (Ok a) h f = f a h
if_ok P Q (Err e) h f = tt

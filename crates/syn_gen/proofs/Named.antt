-- The names of signals: words, no two alike.
use Rattle.std.proofs.Common.{◌≡◌, ◌≢◌, ℕ, zero, suc, ◌+◌, ◌-◌, ◌<◌, ◌≤◌, ◌||◌, ◌^◌, nat_lt, true, false, List, [], ◌∷◌, ◌++◌, length, map, drop, get_or, codes, decimal, bytes_eq, refl, sym, ap, ap₂, ◌∙◌, subst, inl, inr, arith}
use Rattle.std.specs.List.{list_all}
use Rattle.std.specs.Int.Digits.{digits_of, AllBelowBase}
use Rattle.std.proofs.lemmas.Bool.{agree_below_at, and_from, cases_lt, false_from_ne_true, lt-ltb, le-ltb, or_from, cond-true, cond-false}
use Rattle.std.proofs.lemmas.Fmt.{decimal-digits_of, decimal_digit, decimal_injective}
use Rattle.std.proofs.lemmas.Int.Digits.{all_below_base_digits_of}
use Rattle.std.proofs.lemmas.List.{get_or_append_left, get_or_push, length_push}
use Rattle.syn_netlist.specs.Numbers.{with_word, word_at}
use Rattle.syn_netlist.specs.Words.{distinct, has_word, is_word, is_word_byte}
use Rattle.syn_netlist.proofs.Sets.{distinct_push, has_left, has_right, has_head, has_word-append, same_word}
use Rattle.syn_gen.specs.Generated.{signal, signals}
use Rattle.syn_gen.specs.Signals.{AreSignals}

-- words

decimal_word : (n : ℕ) → n < 2 ^ 64 → list_all is_word_byte (decimal n) ≡ true
decimal_word zero lt = ap (list_all is_word_byte) (decimal_digit 0 (omega arith))
decimal_word (suc n) lt = ap (list_all is_word_byte) (decimal-digits_of (suc n) (omega arith) lt) ∙ digits_are (digits_of 10 (suc n)) (all_below_base_digits_of 10 (suc n) (omega arith))
  where
    digits_are : (ds : List ℕ) → AllBelowBase 10 ds → list_all is_word_byte (map (λ d. 48 + d) ds) ≡ true
    digits_are [] h = refl
    digits_are (d ∷ ds) h = and_from (is_word_byte (48 + d)) (list_all is_word_byte (map (λ d. 48 + d) ds)) (agree_below_at (λ c. is_word_byte (48 + c)) (λ _. true) 10 d refl h.0) (digits_are ds h.1)

-- by whether it is an input
input_signal : (i : ℕ) → i < 16 → signal i ≡ 120 ∷ decimal i
unfolding signal
input_signal i lt = cond-true (nat_lt i 16) (codes "x" ++ decimal i) (codes "t" ++ decimal (i - 16)) (lt-ltb i 16 lt)

table_signal : (i : ℕ) → 16 ≤ i → signal i ≡ 116 ∷ decimal (i - 16)
unfolding signal
table_signal i ge = cond-false (nat_lt i 16) (codes "x" ++ decimal i) (codes "t" ++ decimal (i - 16)) (le-ltb i 16 ge)

pub signal_is_word : (i : ℕ) → i < 2 ^ 32 → is_word (signal i) ≡ true
signal_is_word i lt = elim (cases_lt i 16) [
  | inl low ↦ ap is_word (input_signal i low) ∙ decimal_word i (omega arith)
  | inr high ↦ ap is_word (table_signal i high) ∙ decimal_word (i - 16) (omega arith)
]

letters_differ : (xs ys : List ℕ) → 120 ∷ xs ≢ 116 ∷ ys
letters_differ xs ys e = omega (arith, ap (λ (l : List ℕ). get_or l 0 0) e)

one_signal : (i j : ℕ) → i < 2 ^ 32 → j < 2 ^ 32 → signal i ≡ signal j → i ≡ j
one_signal i j li lj e = elim (cases_lt i 16) [
  | inl low ↦ elim (cases_lt j 16) [
    | inl lower ↦ decimal_injective i j (omega arith) (omega arith) (ap (drop 1) (sym (input_signal i low) ∙ e ∙ input_signal j lower))
    | inr higher ↦ absurd (letters_differ (decimal i) (decimal (j - 16)) (sym (input_signal i low) ∙ e ∙ table_signal j higher))
  ]
  | inr high ↦ elim (cases_lt j 16) [
    | inl lower ↦ absurd (letters_differ (decimal j) (decimal (i - 16)) (sym (sym (table_signal i high) ∙ e ∙ input_signal j lower)))
    | inr higher ↦ let same = decimal_injective (i - 16) (j - 16) (omega arith) (omega arith) (ap (drop 1) (sym (table_signal i high) ∙ e ∙ table_signal j higher)) in omega arith
  ]
]

-- lists of names

pub length-signals : (n : ℕ) → length (signals n) ≡ n
length-signals zero = refl
length-signals (suc n) = omega (arith, length_push (signals n) (signal n), length-signals n)

pub has_signal : (n i : ℕ) → i < n → has_word (signals n) (signal i) ≡ true
has_signal zero i lt = absurd (omega arith)
has_signal (suc n) i lt = elim (cases_lt i n) [
  | inl low ↦ has_left (signals n) (signal n ∷ []) (signal i) (has_signal n i low)
  | inr high ↦ let same : n ≡ i = omega arith in has_right (signals n) (signal n ∷ []) (signal i) (subst (λ k. has_word (signal k ∷ []) (signal i) ≡ true) (sym same) (has_head (signal i) []))
]

pub no_signal : (n i : ℕ) → n ≤ i → i < 2 ^ 32 → has_word (signals n) (signal i) ≡ false
no_signal zero i le lt = refl
no_signal (suc n) i le lt =
    has_word-append (signals n) (signal n ∷ []) (signal i)
    ∙ or_from (has_word (signals n) (signal i)) (bytes_eq (signal n) (signal i) || false) (no_signal n i (omega arith) lt)
    (or_from (bytes_eq (signal n) (signal i)) false
    (false_from_ne_true (bytes_eq (signal n) (signal i)) (λ e. let same = one_signal n i (omega arith) lt (same_word (signal n) (signal i) e) in omega arith)) refl)

pub signals_distinct : (n : ℕ) → n ≤ 2 ^ 32 → distinct (signals n) ≡ true
signals_distinct zero le = refl
signals_distinct (suc n) le = distinct_push (signals n) (signal n) (signals_distinct n (omega arith)) (no_signal n n (omega arith) (omega arith))

-- one name more
pub more_signals : (n : ℕ) (names more : List (List ℕ)) (word : List ℕ) → n < 2 ^ 32 → names ≡ signals n → word ≡ signal n → more ≡ with_word names word → more ≡ signals (n + 1)
more_signals n names more word lt before new told =
    told
    ∙ ap₂ with_word before new
    ∙ cond-false (has_word (signals n) (signal n)) (signals n) (signals n ++ signal n ∷ []) (no_signal n n (omega arith) lt)
    ∙ (let same : suc n ≡ n + 1 = omega arith in ap signals same)

signals_at : (n i : ℕ) → i < n → word_at (signals n) i ≡ signal i
signals_at zero i lt = absurd (omega arith)
signals_at (suc n) i lt = elim (cases_lt i n) [
  | inl low ↦ get_or_append_left (signals n) (signal n ∷ []) [] i (let long = length-signals n in omega arith) ∙ signals_at n i low
  | inr high ↦ let same : n ≡ i = omega arith in get_or_push (signals n) (signal n) [] i (length-signals n ∙ same) ∙ ap signal same
]

pub signals_are : (n count : ℕ) → count ≤ n → AreSignals count (signals n)
signals_are n count le = record { at = λ i lt. signals_at n i (omega arith) }

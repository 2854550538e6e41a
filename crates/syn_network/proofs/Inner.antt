-- The inner names: as many as asked for, no two alike, none of them taken.
use Rattle.std.proofs.Common.{◌≡◌, ℕ, zero, suc, ◌+◌, ◌-◌, ◌<◌, ◌≤◌, ◌||◌, not, Bool, true, false, List, [], ◌∷◌, ◌++◌, cond, map, length, filter, take, drop, if◌then◌else◌, ◌^◌, decimal, bytes_eq, refl, sym, ap, ap₂, ◌∙◌, subst, inl, inr, arith}
use Rattle.std.specs.List.{list_all}
use Rattle.std.specs.Int.Digits.{digits_of, AllBelowBase}
use Rattle.std.proofs.lemmas.Int.Digits.{same_from_digits_of, all_below_base_digits_of}
use Rattle.std.proofs.lemmas.Fmt.{decimal-digits_of}
use Rattle.std.proofs.lemmas.Bool.{and_parts, and_from, or_cases, or_from, not-true, not_from_false, not_from_true, cases_Bool, both_ways, cond-true, cond-false, false_from_ne_true, agree_below_at}
use Rattle.std.proofs.lemmas.List.{take_at, map-append, length-map, length-take-le}
use Rattle.std.proofs.lemmas.List.Elements.{filter-append}
use Rattle.std.proofs.lemmas.List.Filters.{length-filter_both}
use Rattle.syn_netlist.specs.Words.{has_word, distinct, without, is_word, is_word_byte}
use Rattle.syn_netlist.proofs.Sets.{same_word, has_head, has_tail}
use Rattle.syn_network.specs.Spelling.{digit_char, inner_word, free_names, inner_names}
use Rattle.syn_lists.specs.Numbers.{numbers_from}
use Rattle.syn_network.proofs.Spelled.{in_rest, has_without}

-- words of numbers

same_digits : (xs ys : List ℕ) → map digit_char xs ≡ map digit_char ys → xs ≡ ys
same_digits xs ys e = sym (back xs) ∙ ap (map (λ c. c - 48)) e ∙ back ys
  where
    back : (ds : List ℕ) → map (λ c. c - 48) (map digit_char ds) ≡ ds
    back [] = refl
    back (d ∷ ds) = ap₂ (λ (x : ℕ) (l : List ℕ). x ∷ l) (let s : 48 + d - 48 ≡ d = omega arith in s) (back ds)

same_number : (m n : ℕ) → inner_word m ≡ inner_word n → m ≡ n
same_number m n e = same_from_digits_of 10 m n (omega arith) (same_digits (digits_of 10 m) (digits_of 10 n) (ap (drop 1) e))

no_smaller : (k first count : ℕ) → k < first → has_word (map inner_word (numbers_from first count)) (inner_word k) ≡ false
no_smaller k first zero lt = refl
no_smaller k first (suc count) lt = or_from (bytes_eq (inner_word first) (inner_word k)) (has_word (map inner_word (numbers_from (first + 1) count)) (inner_word k))
    (false_from_ne_true (bytes_eq (inner_word first) (inner_word k)) (λ e. let same = same_number first k (same_word (inner_word first) (inner_word k) e) in absurd (omega (arith, same, lt))))
    (no_smaller k (first + 1) count (omega arith))

words_distinct : (first count : ℕ) → distinct (map inner_word (numbers_from first count)) ≡ true
words_distinct first zero = refl
words_distinct first (suc count) = and_from (not (has_word (map inner_word (numbers_from (first + 1) count)) (inner_word first))) (distinct (map inner_word (numbers_from (first + 1) count)))
    (not_from_false (has_word (map inner_word (numbers_from (first + 1) count)) (inner_word first)) (no_smaller first (first + 1) count (omega arith)))
    (words_distinct (first + 1) count)

length-numbers : (first count : ℕ) → length (numbers_from first count) ≡ count
length-numbers first zero = refl
length-numbers first (suc count) = ap suc (length-numbers (first + 1) count)

-- parts of lists of words

-- a word of a filtered list passes, and is in the list
pub filtered : (p : List ℕ → Bool) (ws : List (List ℕ)) (w : List ℕ) → has_word (filter p ws) w ≡ true → (p w ≡ true) × (has_word ws w ≡ true)
filtered p [] w h = absurd (both_ways false refl h)
filtered p (x ∷ xs) w h = elim (cases_Bool (p x)) [
  | inl e ↦
      let there : has_word (x ∷ filter p xs) w ≡ true = ap (λ (l : List (List ℕ)). has_word l w) (sym (cond-true (p x) (x ∷ filter p xs) (filter p xs) e)) ∙ h in
      elim (or_cases (bytes_eq x w) (has_word (filter p xs) w) there) [
        | inl s ↦ let same = same_word x w s in (ap p (sym same) ∙ e, subst (λ k. has_word (x ∷ xs) k ≡ true) same (has_head x xs))
        | inr t ↦ let rest = filtered p xs w t in (rest.0, has_tail x w xs rest.1)
      ]
  | inr e ↦
      let rest = filtered p xs w (ap (λ (l : List (List ℕ)). has_word l w) (sym (cond-false (p x) (x ∷ filter p xs) (filter p xs) e)) ∙ h) in
      (rest.0, has_tail x w xs rest.1)
]

pub distinct-filter : (p : List ℕ → Bool) (ws : List (List ℕ)) → distinct ws ≡ true → distinct (filter p ws) ≡ true
distinct-filter p [] d = refl
distinct-filter p (x ∷ xs) d =
    let parts = and_parts (not (has_word xs x)) (distinct xs) d in
    elim (cases_Bool (p x)) [
      | inl e ↦ ap distinct (cond-true (p x) (x ∷ filter p xs) (filter p xs) e)
          ∙ and_from (not (has_word (filter p xs) x)) (distinct (filter p xs))
          (not_from_false (has_word (filter p xs) x) (false_from_ne_true (has_word (filter p xs) x) (λ t. both_ways (has_word xs x) (not-true (has_word xs x) parts.0) (filtered p xs x t).1)))
          (distinct-filter p xs parts.1)
      | inr e ↦ ap distinct (cond-false (p x) (x ∷ filter p xs) (filter p xs) e) ∙ distinct-filter p xs parts.1
    ]

taken_from : (n : ℕ) (ws : List (List ℕ)) (w : List ℕ) → has_word (take n ws) w ≡ true → has_word ws w ≡ true
taken_from zero ws w h = absurd (both_ways false refl h)
taken_from (suc n) [] w h = absurd (both_ways false refl h)
taken_from (suc n) (x ∷ xs) w h = elim (or_cases (bytes_eq x w) (has_word (take n xs) w) h) [
  | inl e ↦ ap (λ b. b || has_word xs w) e
  | inr t ↦ has_tail x w xs (taken_from n xs w t)
]

distinct-take : (n : ℕ) (ws : List (List ℕ)) → distinct ws ≡ true → distinct (take n ws) ≡ true
distinct-take zero ws d = refl
distinct-take (suc n) [] d = refl
distinct-take (suc n) (x ∷ xs) d =
    let parts = and_parts (not (has_word xs x)) (distinct xs) d in
    and_from (not (has_word (take n xs) x)) (distinct (take n xs))
    (not_from_false (has_word (take n xs) x) (false_from_ne_true (has_word (take n xs) x) (λ t. both_ways (has_word xs x) (not-true (has_word xs x) parts.0) (taken_from n xs x t))))
    (distinct-take n xs parts.1)

-- different words that are all in a list are no more than the list has

length-without : (w : List ℕ) (ws : List (List ℕ)) → length (without (w ∷ []) ws) ≤ length ws
length-without w [] = omega arith
length-without w (x ∷ xs) = elim (cases_Bool (not (has_word (w ∷ []) x))) [
  | inl e ↦ omega (arith, ap (λ (l : List (List ℕ)). length l) (cond-true (not (has_word (w ∷ []) x)) (x ∷ without (w ∷ []) xs) (without (w ∷ []) xs) e), length-without w xs)
  | inr e ↦ omega (arith, ap (λ (l : List (List ℕ)). length l) (cond-false (not (has_word (w ∷ []) x)) (x ∷ without (w ∷ []) xs) (without (w ∷ []) xs) e), length-without w xs)
]

one_less : (w : List ℕ) (ws : List (List ℕ)) → has_word ws w ≡ true → length (without (w ∷ []) ws) < length ws
one_less w [] h = absurd (both_ways false refl h)
one_less w (x ∷ xs) h = elim (cases_Bool (bytes_eq x w)) [
  | inl e ↦
      let there : has_word (w ∷ []) x ≡ true = subst (λ k. has_word (w ∷ []) k ≡ true) (sym (same_word x w e)) (has_head w []) in
      omega (arith, ap (λ (l : List (List ℕ)). length l) (cond-false (not (has_word (w ∷ []) x)) (x ∷ without (w ∷ []) xs) (without (w ∷ []) xs) (not_from_true (has_word (w ∷ []) x) there)), length-without w xs)
  | inr e ↦
      let rest = one_less w xs (in_rest x xs w e h) in
      elim (cases_Bool (not (has_word (w ∷ []) x))) [
        | inl k ↦ omega (arith, ap (λ (l : List (List ℕ)). length l) (cond-true (not (has_word (w ∷ []) x)) (x ∷ without (w ∷ []) xs) (without (w ∷ []) xs) k), rest)
        | inr k ↦ omega (arith, ap (λ (l : List (List ℕ)). length l) (cond-false (not (has_word (w ∷ []) x)) (x ∷ without (w ∷ []) xs) (without (w ∷ []) xs) k), rest)
      ]
]

pub no_more : (ws within : List (List ℕ)) → distinct ws ≡ true → ((w : List ℕ) → has_word ws w ≡ true → has_word within w ≡ true) → length ws ≤ length within
no_more [] within d h = omega arith
no_more (w ∷ ws) within d h =
    let parts = and_parts (not (has_word ws w)) (distinct ws) d in
    let fewer = one_less w within (h w (has_head w ws)) in
    let rest = no_more ws (without (w ∷ []) within) parts.1
    (λ x t. has_without (w ∷ []) within x (h x (has_tail w x ws t))
    (or_from (bytes_eq w x) false (false_from_ne_true (bytes_eq w x) (λ e. both_ways (has_word ws w) (not-true (has_word ws w) parts.0) (subst (λ k. has_word ws k ≡ true) (sym (same_word w x e)) t))) refl)) in
    omega (arith, fewer, rest)

-- the inner names

abbrev is_free : List (List ℕ) → List ℕ → Bool
is_free taken w = not (has_word taken w)

-- among so many more words than are taken, so many are free
pub many_free : (taken : List (List ℕ)) (count m : ℕ) → count + length taken ≤ m → count ≤ length (free_names taken m)
many_free taken count m le =
    let words : List (List ℕ) = map inner_word (numbers_from 1 m) in
    let all : length words ≡ m = length-map (numbers_from 1 m) inner_word ∙ length-numbers 1 m in
    let both = length-filter_both (has_word taken) (is_free taken) (λ _. refl) words in
    let few = no_more (filter (has_word taken) words) taken (distinct-filter (has_word taken) words (words_distinct 1 m)) (λ w h. (filtered (has_word taken) words w h).0) in
    omega (arith, le, all, both, few)

pub length-inner_names : (taken : List (List ℕ)) (count : ℕ) → length (inner_names taken count) ≡ count
length-inner_names taken count = length-take-le count (free_names taken (count + length taken)) (many_free taken count (count + length taken) (omega arith))

pub inner_names_distinct : (taken : List (List ℕ)) (count : ℕ) → distinct (inner_names taken count) ≡ true
inner_names_distinct taken count =
    let words : List (List ℕ) = map inner_word (numbers_from 1 (count + length taken)) in
    distinct-take count (filter (is_free taken) words) (distinct-filter (is_free taken) words (words_distinct 1 (count + length taken)))

pub inner_names_free : (taken : List (List ℕ)) (count : ℕ) (w : List ℕ) → has_word (inner_names taken count) w ≡ true → has_word taken w ≡ false
inner_names_free taken count w h =
    let words : List (List ℕ) = map inner_word (numbers_from 1 (count + length taken)) in
    not-true (has_word taken w) (filtered (is_free taken) words w (taken_from count (filter (is_free taken) words) w h)).0

-- finding them one by one

numbers_split : (first m k n : ℕ) → m + k ≡ n → numbers_from first n ≡ numbers_from first m ++ numbers_from (first + m) k
numbers_split first zero k n e = ap₂ numbers_from (let s : first ≡ first + 0 = omega arith in s) (let s : n ≡ k = omega (arith, e) in s)
numbers_split first (suc m) k zero e = absurd (omega (arith, e))
numbers_split first (suc m) k (suc n) e =
    ap (λ (l : List ℕ). first ∷ l) (numbers_split (first + 1) m k n (omega (arith, e)) ∙ ap (λ j. numbers_from (first + 1) m ++ numbers_from j k) (let s : first + 1 + m ≡ first + suc m = omega arith in s))

free_split : (taken : List (List ℕ)) (m k n : ℕ) → m + k ≡ n → free_names taken n ≡ free_names taken m ++ filter (is_free taken) (map inner_word (numbers_from (1 + m) k))
free_split taken m k n e =
    ap (λ (l : List ℕ). filter (is_free taken) (map inner_word l)) (numbers_split 1 m k n e)
    ∙ ap (filter (is_free taken)) (map-append inner_word (numbers_from 1 m) (numbers_from (1 + m) k))
    ∙ filter-append (is_free taken) (map inner_word (numbers_from 1 m)) (map inner_word (numbers_from (1 + m) k))

-- one word more
pub free_names_more : (taken : List (List ℕ)) (k : ℕ) → 0 < k → free_names taken k ≡ free_names taken (k - 1) ++ (if has_word taken (inner_word k) then [] else inner_word k ∷ [])
free_names_more taken k low =
    free_split taken (k - 1) 1 k (omega (arith, low))
    ∙ ap (λ j. free_names taken (k - 1) ++ filter (is_free taken) (inner_word j ∷ [])) (let s : 1 + (k - 1) ≡ k = omega (arith, low) in s)
    ∙ ap (λ (l : List (List ℕ)). free_names taken (k - 1) ++ l) (turned (has_word taken (inner_word k)) (inner_word k ∷ []))
  where
    turned : (b : Bool) (l : List (List ℕ)) → cond (not b) l [] ≡ (if b then [] else l)
    turned true l = refl
    turned false l = refl

-- as many as are wanted, among no more than are sought
pub free_names_found : (taken : List (List ℕ)) (count m : ℕ) → m ≤ count + length taken → length (free_names taken m) ≡ count → free_names taken m ≡ inner_names taken count
free_names_found taken count m le e =
    let rest : List (List ℕ) = filter (is_free taken) (map inner_word (numbers_from (1 + m) (count + length taken - m))) in
    sym (ap (take count) (free_split taken m (count + length taken - m) (count + length taken) (omega (arith, le))) ∙ take_at (free_names taken m) rest count e)

-- an inner name in a program

pub inner_word_decimal : (k : ℕ) → 0 < k → k < 2 ^ 64 → 110 ∷ decimal k ≡ inner_word k
inner_word_decimal k low high = ap (λ (l : List ℕ). 110 ∷ l) (decimal-digits_of k low high)

pub inner_word_is_word : (k : ℕ) → is_word (inner_word k) ≡ true
inner_word_is_word k = digits_are (digits_of 10 k) (all_below_base_digits_of 10 k (omega arith))
  where
    digits_are : (ds : List ℕ) → AllBelowBase 10 ds → list_all is_word_byte (map digit_char ds) ≡ true
    digits_are [] h = refl
    digits_are (d ∷ ds) h = and_from (is_word_byte (digit_char d)) (list_all is_word_byte (map digit_char ds)) (agree_below_at (λ c. is_word_byte (digit_char c)) (λ _. true) 10 d refl h.0) (digits_are ds h.1)

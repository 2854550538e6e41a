-- Steps of the checks of a subcircuit, bind by bind.
use Rattle.std.proofs.Common.{◌≡◌, ℕ, zero, suc, ◌+◌, ◌<◌, ◌≤◌, ◌++◌, ◌||◌, not, Bool, true, false, List, [], ◌∷◌, map, filter, find, length, take, drop, get_or, slice_index_or, bytes_eq, refl, sym, ap, ap₂, ◌∙◌, subst, inl, inr, Option, Some, None, arith, length-append}
use Rattle.std.specs.List.{list_all}
use Rattle.std.proofs.lemmas.Bool.{and_parts, cases_Bool, cases_eq, cond-true, cond-false, not_from_true, not_from_false, or_left, false_from_ne_true}
use Rattle.std.proofs.lemmas.List.{map-append, drop_more, get_or-set_same, get_or-set_other, length-set}
use Rattle.std.proofs.lemmas.List.Elements.{filter-append}
use Rattle.std.proofs.Math.ListN.{set}
use Rattle.syn_netlist.specs.Numbers.{word_at, words_at, with_word}
use Rattle.syn_netlist.specs.Words.{has_word, distinct, is_word}
use Rattle.syn_netlist.proofs.Sets.{same_word, word_same, has_word-append}
use Rattle.syn_netlist.proofs.Places.{one_number}
use Rattle.syn_models.specs.declared.hierarchy.Bind.{Bind}
use Rattle.syn_models.specs.FlatFaults.{first_again}
use Rattle.syn_models.specs.Kept.{bind_in}
use Rattle.syn_models.specs.Marked.{Marked, pushed, defines_in}
use Rattle.syn_models.specs.Models as models
use Rattle.syn_models.specs.Models.{is_bound, is_reading, formal_of, actual_in}
use Rattle.syn_models.proofs.Listing.{left_from, taken_to}

pub or_none : (b : Bool) → (b || false) ≡ b
or_none true = refl
or_none false = refl

known : (names : List (List ℕ)) (new word : List ℕ) → has_word names new ≡ true → (b : Bool) → bytes_eq new word ≡ b → has_word names word ≡ (has_word names word || b)
known names new word t true e = let there : has_word names word ≡ true = subst (λ (w : List ℕ). has_word names w ≡ true) (same_word new word e) t in there ∙ sym (or_left (has_word names word) true there)
known names new word t false e = sym (or_none (has_word names word))

has_with_word : (names : List (List ℕ)) (new word : List ℕ) → has_word (with_word names new) word ≡ (has_word names word || bytes_eq new word)
has_with_word names new word = elim (cases_Bool (has_word names new)) [
  | inl t ↦ ap (λ (ns : List (List ℕ)). has_word ns word) (cond-true (has_word names new) names (names ++ new ∷ []) t) ∙ known names new word t (bytes_eq new word) refl
  | inr f ↦ ap (λ (ns : List (List ℕ)). has_word ns word) (cond-false (has_word names new) names (names ++ new ∷ []) f) ∙ has_word-append names (new ∷ []) word ∙ ap (λ b. has_word names word || b) (or_none (bytes_eq new word))
]

formals_snoc : (names : List (List ℕ)) (bs : List Bind) (i : ℕ) (b : Bind) → i < length bs → b ≡ get_or bs i b → map formal_of (map (bind_in names) (take (i + 1) bs)) ≡ map formal_of (map (bind_in names) (take i bs)) ++ b.formal ∷ []
formals_snoc names bs i b l e =
    ap (λ (xs : List Bind). map formal_of (map (bind_in names) xs)) (taken_to bs i b l e)
    ∙ ap (map formal_of) (map-append (bind_in names) (take i bs) (b ∷ []))
    ∙ map-append formal_of (map (bind_in names) (take i bs)) (bind_in names b ∷ [])

-- one formal more
pub bound_more : (bound names : List (List ℕ)) (bs : List Bind) (i : ℕ) (b : Bind) (word : List ℕ) → i < length bs → b ≡ get_or bs i b → has_word bound word ≡ is_bound (map (bind_in names) (take i bs)) word
    → has_word (with_word bound b.formal) word ≡ is_bound (map (bind_in names) (take (i + 1) bs)) word
bound_more bound names bs i b word l e h =
    has_with_word bound b.formal word
    ∙ ap₂ (λ (x y : Bool). x || y) h (sym (or_none (bytes_eq b.formal word)))
    ∙ sym (has_word-append (map formal_of (map (bind_in names) (take i bs))) (b.formal ∷ []) word)
    ∙ sym (ap (λ (ws : List (List ℕ)). has_word ws word) (formals_snoc names bs i b l e))

pub with_word_length : (names : List (List ℕ)) (word : List ℕ) → length (with_word names word) ≤ length names + 1
with_word_length names word = elim (cases_Bool (has_word names word)) [
  | inl t ↦ omega (arith, ap length (cond-true (has_word names word) names (names ++ word ∷ []) t))
  | inr f ↦ omega (arith, ap length (cond-false (has_word names word) names (names ++ word ∷ []) f), length-append names (word ∷ []))
]

-- a formal is a word
pub formal_word : (names : List (List ℕ)) (bs : List Bind) (i : ℕ) (b : Bind) → list_all is_word (map formal_of (map (bind_in names) bs)) ≡ true → i < length bs → b ≡ get_or bs i b → is_word b.formal ≡ true
formal_word names [] i b h l e = absurd (omega arith)
formal_word names (x ∷ xs) zero b h l e = ap (λ (k : Bind). is_word k.formal) e ∙ (and_parts (is_word x.formal) (list_all is_word (map formal_of (map (bind_in names) xs))) h).0
formal_word names (x ∷ xs) (suc i) b h l e = formal_word names xs i b (and_parts (is_word x.formal) (list_all is_word (map formal_of (map (bind_in names) xs))) h).1 (omega arith) e

-- the first word that fails a test, one word on
pub find_here : (test : List ℕ → Bool) (names : List (List ℕ)) (ns : List ℕ) (i : ℕ) → i < length ns → test (word_at names (get_or ns i 0)) ≡ true → find test (words_at names (drop i ns)) ≡ Some (word_at names (get_or ns i 0))
find_here test names ns i l t = ap (λ (xs : List ℕ). find test (words_at names xs)) (drop_more ns i 0 l) ∙ cond-true (test (word_at names (get_or ns i 0))) (Some (word_at names (get_or ns i 0))) (find test (words_at names (drop (i + 1) ns))) t

pub find_on : (test : List ℕ → Bool) (names : List (List ℕ)) (ns : List ℕ) (i : ℕ) → i < length ns → test (word_at names (get_or ns i 0)) ≡ false → find test (words_at names (drop i ns)) ≡ find test (words_at names (drop (i + 1) ns))
find_on test names ns i l t = ap (λ (xs : List ℕ). find test (words_at names xs)) (drop_more ns i 0 l) ∙ cond-false (test (word_at names (get_or ns i 0))) (Some (word_at names (get_or ns i 0))) (find test (words_at names (drop (i + 1) ns))) t

-- what binds define

abbrev defining : models.Model → models.Bind → Bool
defining m b = not (is_reading m b.formal)

pub defines_append : (names : List (List ℕ)) (m : models.Model) (xs ys : List Bind) → defines_in names m (xs ++ ys) ≡ defines_in names m xs ++ defines_in names m ys
defines_append names m xs ys =
    ap (λ (bs : List models.Bind). map actual_in (filter (defining m) bs)) (map-append (bind_in names) xs ys)
    ∙ ap (map actual_in) (filter-append (defining m) (map (bind_in names) xs) (map (bind_in names) ys))
    ∙ map-append actual_in (filter (defining m) (map (bind_in names) xs)) (filter (defining m) (map (bind_in names) ys))

pub one_defines : (names : List (List ℕ)) (m : models.Model) (b : Bind) (rest : List Bind) → is_reading m b.formal ≡ false → defines_in names m (b ∷ rest) ≡ word_at names b.actual ∷ defines_in names m rest
one_defines names m b rest r = ap (map actual_in) (cond-true (not (is_reading m b.formal)) (bind_in names b ∷ filter (defining m) (map (bind_in names) rest)) (filter (defining m) (map (bind_in names) rest)) (not_from_false (is_reading m b.formal) r))

pub one_reads : (names : List (List ℕ)) (m : models.Model) (b : Bind) (rest : List Bind) → is_reading m b.formal ≡ true → defines_in names m (b ∷ rest) ≡ defines_in names m rest
one_reads names m b rest r = ap (map actual_in) (cond-false (not (is_reading m b.formal)) (bind_in names b ∷ filter (defining m) (map (bind_in names) rest)) (filter (defining m) (map (bind_in names) rest)) (not_from_true (is_reading m b.formal) r))

pub pushed_append : (before xs ys : List (List ℕ)) → pushed before (xs ++ ys) ≡ pushed (pushed before xs) ys
pushed_append before [] ys = refl
pushed_append before (x ∷ xs) ys = pushed_append (x ∷ before) xs ys

-- a word that stands again in the first words, or else in those behind them
pub again_append : (before xs ys : List (List ℕ)) → first_again before xs ≡ None → first_again before (xs ++ ys) ≡ first_again (pushed before xs) ys
again_append before [] ys e = refl
again_append before (x ∷ xs) ys e = elim (cases_Bool (has_word before x)) [
  | inl t ↦ absurd (let s : ◌≡◌ {A = Option (List ℕ)} (Some x) None = sym (cond-true (has_word before x) (Some x) (first_again (x ∷ before) xs) t) ∙ e in cc)
  | inr f ↦ cond-false (has_word before x) (Some x) (first_again (x ∷ before) (xs ++ ys)) f ∙ again_append (x ∷ before) xs ys (sym (cond-false (has_word before x) (Some x) (first_again (x ∷ before) xs) f) ∙ e)
]

pub again_front : (before xs ys : List (List ℕ)) (w : List ℕ) → first_again before xs ≡ Some w → first_again before (xs ++ ys) ≡ Some w
again_front before [] ys w e = absurd (let s : ◌≡◌ {A = Option (List ℕ)} None (Some w) = e in cc)
again_front before (x ∷ xs) ys w e = elim (cases_Bool (has_word before x)) [
  | inl t ↦ cond-true (has_word before x) (Some x) (first_again (x ∷ before) (xs ++ ys)) t ∙ sym (cond-true (has_word before x) (Some x) (first_again (x ∷ before) xs) t) ∙ e
  | inr f ↦ cond-false (has_word before x) (Some x) (first_again (x ∷ before) (xs ++ ys)) f ∙ again_front (x ∷ before) xs ys w (sym (cond-false (has_word before x) (Some x) (first_again (x ∷ before) xs) f) ∙ e)
]

pub defines_left : (names : List (List ℕ)) (m : models.Model) (bs : List Bind) (i : ℕ) (b : Bind) → i < length bs → b ≡ get_or bs i b → defines_in names m (drop i bs) ≡ defines_in names m (b ∷ []) ++ defines_in names m (drop (i + 1) bs)
defines_left names m bs i b l e = ap (defines_in names m) (left_from bs i b l e) ∙ defines_append names m (b ∷ []) (drop (i + 1) bs)

-- what is marked, one bind on
pub pushed_one : (names before : List (List ℕ)) (m : models.Model) (bs : List Bind) (i : ℕ) (b : Bind) → i < length bs → b ≡ get_or bs i b
    → pushed before (defines_in names m (take (i + 1) bs)) ≡ pushed (pushed before (defines_in names m (take i bs))) (defines_in names m (b ∷ []))
pushed_one names before m bs i b l e =
    ap (λ (xs : List Bind). pushed before (defines_in names m xs)) (taken_to bs i b l e)
    ∙ ap (pushed before) (defines_append names m (take i bs) (b ∷ []))
    ∙ pushed_append before (defines_in names m (take i bs)) (defines_in names m (b ∷ []))

pub again_on : (names before : List (List ℕ)) (m : models.Model) (bs : List Bind) (i : ℕ) (b : Bind) → i < length bs → b ≡ get_or bs i b → first_again (pushed before (defines_in names m (take i bs))) (defines_in names m (b ∷ [])) ≡ None
    → first_again (pushed before (defines_in names m (take (i + 1) bs))) (defines_in names m (drop (i + 1) bs)) ≡ first_again (pushed before (defines_in names m (take i bs))) (defines_in names m (drop i bs))
again_on names before m bs i b l e none =
    ap (λ (ws : List (List ℕ)). first_again ws (defines_in names m (drop (i + 1) bs))) (pushed_one names before m bs i b l e)
    ∙ sym (again_append (pushed before (defines_in names m (take i bs))) (defines_in names m (b ∷ [])) (defines_in names m (drop (i + 1) bs)) none)
    ∙ sym (ap (first_again (pushed before (defines_in names m (take i bs)))) (defines_left names m bs i b l e))

pub again_here : (names before : List (List ℕ)) (m : models.Model) (bs : List Bind) (i : ℕ) (b : Bind) (w : List ℕ) → i < length bs → b ≡ get_or bs i b → first_again (pushed before (defines_in names m (take i bs))) (defines_in names m (b ∷ [])) ≡ Some w
    → first_again (pushed before (defines_in names m (take i bs))) (defines_in names m (drop i bs)) ≡ Some w
again_here names before m bs i b w l e some =
    ap (first_again (pushed before (defines_in names m (take i bs)))) (defines_left names m bs i b l e)
    ∙ again_front (pushed before (defines_in names m (take i bs))) (defines_in names m (b ∷ [])) (defines_in names m (drop (i + 1) bs)) w some

pub again_unmarked : (names before : List (List ℕ)) (m : models.Model) (b : Bind) (marks : List Bool) → b.actual < length names → Marked names before marks → is_reading m b.formal ≡ false → slice_index_or marks b.actual false ≡ false
    → first_again before (defines_in names m (b ∷ [])) ≡ None
again_unmarked names before m b marks l h r t =
    ap (first_again before) (one_defines names m b [] r) ∙ cond-false (has_word before (word_at names b.actual)) (Some (word_at names b.actual)) None (sym (h.at b.actual l) ∙ t)

-- one mark more
pub marked_more : (names before : List (List ℕ)) (marks : List Bool) (n : ℕ) → distinct names ≡ true → n < length names → Marked names before marks → Marked names (word_at names n ∷ before) (set marks n true)
marked_more names before marks n d l h = record {
  size = length-set marks n true ∙ h.size;
  at = λ i inside. elim (cases_eq i n) [
    | inl e ↦ subst (λ (k : ℕ). slice_index_or (set marks n true) k false ≡ (bytes_eq (word_at names n) (word_at names k) || has_word before (word_at names k))) (sym e)
        (get_or-set_same marks n true false (subst (λ (k : ℕ). n < k) (sym h.size) l) ∙ sym (or_left (bytes_eq (word_at names n) (word_at names n)) (has_word before (word_at names n)) (word_same (word_at names n))))
    | inr ne ↦ (
        let other : bytes_eq (word_at names n) (word_at names i) ≡ false = false_from_ne_true (bytes_eq (word_at names n) (word_at names i)) (λ s. ne (sym (one_number names n i d l inside (same_word (word_at names n) (word_at names i) s)))) in
        get_or-set_other marks n i true false ne ∙ h.at i inside ∙ sym (ap (λ b. b || has_word before (word_at names i)) other))
  ];
}

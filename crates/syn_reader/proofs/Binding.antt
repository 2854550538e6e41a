-- Binds and subcircuits, word by word.
use Rattle.std.proofs.Common.{◌≡◌, ℕ, suc, ◌≤◌, ◌==◌, ◌&&◌, ◌||◌, not, Bool, true, false, if◌then◌else◌, List, [], ◌∷◌, ◌++◌, length, map, take, drop, bytes_eq, refl, sym, ap, ap₂, ◌∙◌, subst, length-append, inl, inr, ◌⊎◌, Option, Some, None, option_map, option_and_then, arith}
use Rattle.std.specs.List.{list_all}
use Rattle.std.proofs.lemmas.Bool.{and_from, and_parts, both_ways, cases_Bool, cond-true, cond-false, false_from_ne_true, or_cases, or_parts}
use Rattle.std.proofs.lemmas.List.Folds.{list_all-append}
use Rattle.syn_lex.specs.Pieces.{before}
use Rattle.syn_models.specs.FlatFaults.{first_again}
use Rattle.syn_models.specs.Kept.{is_spelled, not_nil}
use Rattle.syn_models.specs.Models.{Bind, OneSubcircuit, Subcircuit, actual_in, binds_once, formal_of}
use Rattle.syn_netlist.specs.Numbers.{with_word}
use Rattle.syn_netlist.specs.Words.{distinct, has_word, is_word, is_word_byte}
use Rattle.syn_netlist.proofs.Sets.{has_head, same_word}
use Rattle.syn_reader.specs.Shapes.{nil_control}
use Rattle.syn_reader.proofs.Growing.{has_with_word}
use Rattle.syn_reader.specs.declared.subcircuits.BindLine.{BindLine}
use Rattle.syn_reader.specs.declared.subcircuits.SubcktLine.{SubcktLine}
use Rattle.syn_reader.specs.Binds.{actual_in_line, are_bind_words, bind_in_line, formal_in_line, subcircuit_in_line}
use Rattle.syn_reader.specs.Gathers.{is_held, may_stand}
use Rattle.syn_reader.specs.Subcircuits.{cut_at, bind_of, bind_with, is_no_bind}

-- the subcircuit of a model whose binds begin with these
abbrev pub subcircuit_from : List ℕ → List Bind → List Bind → Subcircuit
subcircuit_from model front rest = record { model = model; binds = front ++ rest }

-- a choice of two sides
abbrev sides : List ℕ → List ℕ → Option (List ℕ × List ℕ)
sides front back = Some (front, back)

abbrev wider : ℕ → List ℕ × List ℕ → List ℕ × List ℕ
wider b both = (b ∷ both.0, both.1)

-- what stands before the first byte of a value, and behind it
cut_here : (byte : ℕ) (word front back : List ℕ) → front ≡ take (before (λ b. b == byte) word) word → back ≡ drop (before (λ b. b == byte) word) word
    → ((back ≡ []) × (cut_at byte word ≡ None)) ⊎ ((b : ℕ) × (rest : List ℕ) × (back ≡ b ∷ rest) × (cut_at byte word ≡ sides front rest))
cut_here byte [] front back e f = inl (f, refl)
cut_here byte (x ∷ xs) front back e f = go (x == byte) e f (cut_here byte xs (take (before (λ b. b == byte) xs) xs) (drop (before (λ b. b == byte) xs) xs) refl refl)
  where
    k : ℕ
    k = before (λ b. b == byte) xs

    go : (t : Bool) → front ≡ take (if t then 0 else suc k) (x ∷ xs) → back ≡ drop (if t then 0 else suc k) (x ∷ xs)
        → ((drop k xs ≡ []) × (cut_at byte xs ≡ None)) ⊎ ((b : ℕ) × (rest : List ℕ) × (drop k xs ≡ b ∷ rest) × (cut_at byte xs ≡ sides (take k xs) rest))
        → ((back ≡ []) × ((if t then sides [] xs else option_map (wider x) (cut_at byte xs)) ≡ None))
        ⊎ ((b : ℕ) × (rest : List ℕ) × (back ≡ b ∷ rest) × ((if t then sides [] xs else option_map (wider x) (cut_at byte xs)) ≡ sides front rest))
    go true e f ih = inr (x, xs, f, ap (λ l. sides l xs) (sym e))
    go false e f (inl z) = inl (f ∙ z.0, ap (option_map (wider x)) z.1)
    go false e f (inr z) = inr (z.0, z.1, f ∙ z.2, ap (option_map (wider x)) z.3 ∙ ap (λ l. sides l z.1) (sym e))

pub cut_none : (word front back : List ℕ) (k : ℕ) → k ≡ before (λ b. b == 61) word → front ≡ take k word → back ≡ drop k word → length back ≡ 0 → bind_of word ≡ None
cut_none word front back k n e f z = elim (cut_here 61 word front back (e ∙ ap (λ i. take i word) n) (f ∙ ap (λ i. drop i word) n)) [
  | inl h ↦ ap (option_and_then bind_with) h.1
  | inr h ↦ absurd (let w : suc (length h.1) ≡ 0 = sym (ap length h.2) ∙ z in omega (arith, w))
]

pub cut_some : (word front back : List ℕ) (k b : ℕ) (rest : List ℕ) → k ≡ before (λ b. b == 61) word → front ≡ take k word → back ≡ drop k word → back ≡ b ∷ rest → bind_of word ≡ bind_with (front, rest)
cut_some word front back k b rest n e f s = elim (cut_here 61 word front back (e ∙ ap (λ i. take i word) n) (f ∙ ap (λ i. drop i word) n)) [
  | inl h ↦ absurd (let w : b ∷ rest ≡ [] = sym s ∙ h.0 in cc)
  | inr h ↦ (let w : b ∷ rest ≡ h.0 ∷ h.1 = sym s ∙ h.2 in let r : h.1 ≡ rest = cc in ap (option_and_then bind_with) h.3 ∙ ap (λ (l : List ℕ). bind_with (front, l)) r)
]

-- two sides of a word that are not empty are words
all_bytes : (word : List ℕ) → is_word word ≡ true → list_all is_word_byte word ≡ true
all_bytes [] h = refl
all_bytes (b ∷ bs) h = h

word_of : (bytes : List ℕ) → (length bytes == 0) ≡ false → list_all is_word_byte bytes ≡ true → is_word bytes ≡ true
word_of [] n h = absurd (both_ways true n refl)
word_of (b ∷ bs) n h = h

pub sides_are_words : (word front back : List ℕ) (b : ℕ) (rest : List ℕ) → word ≡ front ++ back → back ≡ b ∷ rest → is_no_bind front rest ≡ false → is_word word ≡ true → (is_word front && (is_word rest && not (bytes_eq nil_control rest))) ≡ true
sides_are_words word front back b rest w s n h =
    let all = sym (list_all-append is_word_byte front (b ∷ rest)) ∙ (ap (list_all is_word_byte) (sym (w ∙ ap (λ l. front ++ l) s)) ∙ all_bytes word h) in
    let both = and_parts (list_all is_word_byte front) (list_all is_word_byte (b ∷ rest)) all in
    let empty = or_parts (length front == 0) (length rest == 0 || bytes_eq nil_control rest) n in
    let more = or_parts (length rest == 0) (bytes_eq nil_control rest) empty.1 in
    and_from (is_word front) (is_word rest && not (bytes_eq nil_control rest)) (word_of front empty.0 both.0)
    (and_from (is_word rest) (not (bytes_eq nil_control rest)) (word_of rest more.0 (and_parts (is_word_byte b) (list_all is_word_byte rest) both.1).1) (ap not more.1))

-- whether a formal was bound before, by whatever list has the formals
again_same : (a b ws : List (List ℕ)) → ((w : List ℕ) → has_word a w ≡ has_word b w) → first_again a ws ≡ first_again b ws
again_same a b [] h = refl
again_same a b (w ∷ ws) h = ap₂ (λ t o. if t then Some w else o) (h w) (again_same (w ∷ a) (w ∷ b) ws (λ v. ap (λ t. bytes_eq w v || t) (h v)))

pub again_step : (formals more : List (List ℕ)) (w : List ℕ) (words rest : List (List ℕ)) (all : Option (List ℕ)) → words ≡ w ∷ rest → has_word formals w ≡ false → more ≡ with_word formals w → first_again formals words ≡ all → first_again more rest ≡ all
again_step formals more w words rest all e f m h =
    again_same more (w ∷ formals) rest (λ v. ap (λ l. has_word l v) m ∙ (has_with_word formals w v ∙ or_comm (has_word formals v) (bytes_eq w v)))
    ∙ (sym (cond-false (has_word formals w) (Some w) (first_again (w ∷ formals) rest) f) ∙ (ap (first_again formals) (sym e) ∙ h))
  where
    or_comm : (a b : Bool) → (a || b) ≡ (b || a)
    or_comm true true = refl
    or_comm true false = refl
    or_comm false true = refl
    or_comm false false = refl

pub again_stop : (formals : List (List ℕ)) (w : List ℕ) (words rest : List (List ℕ)) (all : Option (List ℕ)) → words ≡ w ∷ rest → has_word formals w ≡ true → first_again formals words ≡ all → all ≡ Some w
again_stop formals w words rest all e t h = sym h ∙ (ap (first_again formals) e ∙ cond-true (has_word formals w) (Some w) (first_again (w ∷ formals) rest) t)

pub with_word-length : (names : List (List ℕ)) (word : List ℕ) → length (with_word names word) ≤ suc (length names)
with_word-length names word = go (has_word names word)
  where
    go : (b : Bool) → length (if b then names else (names ++ word ∷ [])) ≤ suc (length names)
    go true = omega arith
    go false = let e = length-append names (word ∷ []) in omega (arith, e)

-- words of which none is met again are different
again_new : (before ws : List (List ℕ)) → first_again before ws ≡ None → (distinct ws ≡ true) × ((w : List ℕ) → has_word ws w ≡ true → has_word before w ≡ false)
again_new before [] e = (refl, λ w h. absurd (both_ways false refl h))
again_new before (x ∷ xs) e = elim (cases_Bool (has_word before x)) [
  | inl t ↦ absurd (let s : ◌≡◌ {A = Option (List ℕ)} (Some x) None = sym (cond-true (has_word before x) (Some x) (first_again (x ∷ before) xs) t) ∙ e in cc)
  | inr f ↦
      let ih = again_new (x ∷ before) xs (sym (cond-false (has_word before x) (Some x) (first_again (x ∷ before) xs) f) ∙ e) in
      let new : has_word xs x ≡ false = false_from_ne_true (has_word xs x) (λ h. both_ways (has_word (x ∷ before) x) (ih.1 x h) (has_head x before)) in (
        and_from (not (has_word xs x)) (distinct xs) (ap not new) ih.0,
        λ w h. elim (or_cases (bytes_eq x w) (has_word xs w) h) [
          | inl s ↦ subst (λ v. has_word before v ≡ false) (same_word x w s) f
          | inr t ↦ (or_parts (bytes_eq x w) (has_word before w) (ih.1 w t)).1
        ],
      )
]

-- the sides of binds, by lines and by binds
pub formals_are : (binds : List BindLine) → map formal_of (map bind_in_line binds) ≡ map formal_in_line binds
formals_are [] = refl
formals_are (b ∷ bs) = ap (λ (l : List (List ℕ)). b.formal.now ∷ l) (formals_are bs)

pub actuals_are : (binds : List BindLine) → map actual_in (map bind_in_line binds) ≡ map actual_in_line binds
actuals_are [] = refl
actuals_are (b ∷ bs) = ap (λ (l : List (List ℕ)). b.actual.now ∷ l) (actuals_are bs)

formal_words : (binds : List BindLine) → list_all are_bind_words binds ≡ true → list_all is_word (map formal_of (map bind_in_line binds)) ≡ true
formal_words [] h = refl
formal_words (b ∷ bs) h =
    let p = and_parts (are_bind_words b) (list_all are_bind_words bs) h in
    let q = and_parts (is_word b.formal.now) (is_word b.actual.now && not (bytes_eq nil_control b.actual.now)) p.0 in
    and_from (is_word b.formal.now) (list_all is_word (map formal_of (map bind_in_line bs))) q.0 (formal_words bs p.1)

no_nils : (binds : List BindLine) → list_all are_bind_words binds ≡ true → list_all not_nil (map actual_in (map bind_in_line binds)) ≡ true
no_nils [] h = refl
no_nils (b ∷ bs) h =
    let p = and_parts (are_bind_words b) (list_all are_bind_words bs) h in
    let q = and_parts (is_word b.formal.now) (is_word b.actual.now && not (bytes_eq nil_control b.actual.now)) p.0 in
    let r = and_parts (is_word b.actual.now) (not (bytes_eq nil_control b.actual.now)) q.1 in
    and_from (not_nil b.actual.now) (list_all not_nil (map actual_in (map bind_in_line bs))) r.1 (no_nils bs p.1)

-- a subcircuit of such binds may stand
pub subckt_stands : (c : SubcktLine) (line : ℕ) → is_word c.model.now ≡ true → list_all are_bind_words c.binds.items ≡ true → first_again [] (map formal_in_line c.binds.items) ≡ None → may_stand (record { line = line; kind = OneSubcircuit (subcircuit_in_line c) }) ≡ true
subckt_stands c line m h e =
    let s = subcircuit_in_line c in
    let once : binds_once s ≡ true = (again_new [] (map formal_of s.binds) (ap (first_again []) (formals_are c.binds.items) ∙ e)).0 in
    and_from (list_all not_nil (map actual_in s.binds)) (is_held s && true) (no_nils c.binds.items h)
    (and_from (is_held s) true (and_from (is_spelled s) (binds_once s) (and_from (is_word s.model) (list_all is_word (map formal_of s.binds)) m (formal_words c.binds.items h)) once) refl)

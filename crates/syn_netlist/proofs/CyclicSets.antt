-- The set of all names from which a circle of tables is reached: it is there, or there is none.
use Rattle.std.proofs.Common.{◌≡◌, ℕ, zero, suc, ◌<◌, ◌≤◌, not, Bool, true, false, List, [], ◌∷◌, ◌++◌, length, map, find, bytes_eq, refl, sym, ap, ◌∙◌, subst, inl, inr, ◌⊎◌, Contains, arith, slice_index_or}
use Rattle.std.specs.List.{list_any}
use Rattle.std.proofs.lemmas.Bool.{both_ways, cond-true, cond-false, false_from_ne_true, and_parts, or_cases, or_left, or_right, not-true}
use Rattle.syn_netlist.specs.Words.{has_word, distinct}
use Rattle.syn_netlist.specs.Lists.{Table, output_of}
use Rattle.syn_netlist.specs.Faults.{EachReadsAnother, ReachesCircle, IsCyclicSet, next_in}
use Rattle.syn_netlist.proofs.Sets.{same_word, word_same}

any_more : (test more : List ℕ → Bool) (xs : List (List ℕ)) → ((x : List ℕ) → test x ≡ true → more x ≡ true) → list_any test xs ≡ true → list_any more xs ≡ true
any_more test more [] f h = h
any_more test more (x ∷ xs) f h = elim (or_cases (test x) (list_any test xs) h) [
  | inl t ↦ or_left (more x) (list_any more xs) (f x t)
  | inr t ↦ or_right (more x) (list_any more xs) (any_more test more xs f t)
]

-- the table is in the list
abbrev pub In : List Table → Table → Type 0
In [] u = ⊥
In (t ∷ ts) u = (t ≡ u) ⊎ In ts u

pub to_in : (ts : List Table) (u : Table) (k : ℕ) → k < length ts → slice_index_or ts k u ≡ u → In ts u
to_in [] u k l e = absurd (omega arith)
to_in (t ∷ ts) u zero l e = inl e
to_in (t ∷ ts) u (suc k) l e = inr (to_in ts u k (omega arith) e)

pub from_in : (ts : List Table) (u : Table) → In ts u → Contains ts u
from_in [] u h = absurd h
from_in (t ∷ ts) u (inl e) = (0, omega arith, e)
from_in (t ∷ ts) u (inr h) = let c = from_in ts u h in (suc c.0, (let l = c.1 in omega arith), c.2)

pub in_has : (ts : List Table) (u : Table) → In ts u → has_word (map output_of ts) u.output ≡ true
in_has [] u h = absurd h
in_has (t ∷ ts) u (inl e) = or_left (bytes_eq t.output u.output) (has_word (map output_of ts) u.output) (subst (λ v. bytes_eq t.output v.output ≡ true) e (word_same t.output))
in_has (t ∷ ts) u (inr h) = or_right (bytes_eq t.output u.output) (has_word (map output_of ts) u.output) (in_has ts u h)

pub has_in : (ts : List Table) (w : List ℕ) → has_word (map output_of ts) w ≡ true → (u : Table) × In ts u × (u.output ≡ w)
has_in [] w h = absurd (both_ways false refl h)
has_in (t ∷ ts) w h = elim (or_cases (bytes_eq t.output w) (has_word (map output_of ts) w) h) [
  | inl e ↦ (t, inl refl, same_word t.output w e)
  | inr r ↦ let p = has_in ts w r in (p.0, inr p.1, p.2)
]

pub one_table : (ts : List Table) (u t : Table) → distinct (map output_of ts) ≡ true → In ts u → In ts t → u.output ≡ t.output → u ≡ t
one_table [] u t d h g e = absurd h
one_table (x ∷ xs) u t d (inl h) (inl g) e = sym h ∙ g
one_table (x ∷ xs) u t d (inl h) (inr g) e = absurd (both_ways (has_word (map output_of xs) x.output) (not-true _ (and_parts (not (has_word (map output_of xs) x.output)) (distinct (map output_of xs)) d).0)
    (subst (λ w. has_word (map output_of xs) w ≡ true) (sym (ap output_of h ∙ e)) (in_has xs t g)))
one_table (x ∷ xs) u t d (inr h) (inl g) e = absurd (both_ways (has_word (map output_of xs) x.output) (not-true _ (and_parts (not (has_word (map output_of xs) x.output)) (distinct (map output_of xs)) d).0)
    (subst (λ w. has_word (map output_of xs) w ≡ true) (e ∙ sym (ap output_of g)) (in_has xs u h)))
one_table (x ∷ xs) u t d (inr h) (inr g) e = one_table xs u t (and_parts (not (has_word (map output_of xs) x.output)) (distinct (map output_of xs)) d).1 h g e

-- a table that reads none of the names, or none such
free_or_none : (names : List (List ℕ)) (ts : List Table)
    → ((b : List Table) × (t : Table) × (a : List Table) × (ts ≡ b ++ t ∷ a) × (list_any (has_word names) t.inputs ≡ false)) ⊎ ((u : Table) → In ts u → list_any (has_word names) u.inputs ≡ true)
free_or_none names [] = inr (λ u h. absurd h)
free_or_none names (t ∷ ts) = go (list_any (has_word names) t.inputs) refl (free_or_none names ts)
  where
    go : (b : Bool) → list_any (has_word names) t.inputs ≡ b
        → (((b : List Table) × (s : Table) × (a : List Table) × (ts ≡ b ++ s ∷ a) × (list_any (has_word names) s.inputs ≡ false)) ⊎ ((u : Table) → In ts u → list_any (has_word names) u.inputs ≡ true))
        → ((b : List Table) × (s : Table) × (a : List Table) × (t ∷ ts ≡ b ++ s ∷ a) × (list_any (has_word names) s.inputs ≡ false)) ⊎ ((u : Table) → In (t ∷ ts) u → list_any (has_word names) u.inputs ≡ true)
    go false e r = inl ([], t, ts, refl, e)
    go true e (inl f) = inl (t ∷ f.0, f.1, f.2, ap (λ (l : List Table). t ∷ l) f.3, f.4)
    go true e (inr f) = inr (λ u h. elim h [ inl s ↦ subst (λ v. list_any (has_word names) v.inputs ≡ true) s e | inr q ↦ f u q ])

in_without : (b : List Table) (t : Table) (a : List Table) (u : Table) → In (b ++ a) u → In (b ++ t ∷ a) u
in_without [] t a u h = inr h
in_without (x ∷ xs) t a u (inl e) = inl e
in_without (x ∷ xs) t a u (inr h) = inr (in_without xs t a u h)

in_middle : (b : List Table) (t : Table) (a : List Table) → In (b ++ t ∷ a) t
in_middle [] t a = inl refl
in_middle (x ∷ xs) t a = inr (in_middle xs t a)

has_without : (b : List Table) (t : Table) (a : List Table) (w : List ℕ) → bytes_eq t.output w ≡ false → has_word (map output_of (b ++ t ∷ a)) w ≡ true → has_word (map output_of (b ++ a)) w ≡ true
has_without [] t a w e h = elim (or_cases (bytes_eq t.output w) (has_word (map output_of a) w) h) [ inl z ↦ absurd (both_ways (bytes_eq t.output w) e z) | inr z ↦ z ]
has_without (x ∷ xs) t a w e h = elim (or_cases (bytes_eq x.output w) (has_word (map output_of (xs ++ t ∷ a)) w) h) [
  | inl z ↦ or_left (bytes_eq x.output w) (has_word (map output_of (xs ++ a)) w) z
  | inr z ↦ or_right (bytes_eq x.output w) (has_word (map output_of (xs ++ a)) w) (has_without xs t a w e z)
]

shorter : (b : List Table) (t : Table) (a : List Table) (k : ℕ) → length (b ++ t ∷ a) ≤ suc k → length (b ++ a) ≤ k
shorter [] t a k h = omega arith
shorter (x ∷ []) t a zero h = absurd (omega arith)
shorter (x ∷ y ∷ ys) t a zero h = absurd (omega arith)
shorter (x ∷ xs) t a (suc k) h = let r : length (xs ++ a) ≤ k = shorter xs t a k (omega arith) in omega arith

-- The names from which a circle is reached, where there are some. Tables that read no output of a live table are taken out one by one.
pub cyclic_or_none : (k : ℕ) (tables live : List Table) → length live ≤ k → distinct (map output_of tables) ≡ true → ((u : Table) → In live u → In tables u)
    → ((other : List ℕ → Bool) → EachReadsAnother tables other → (w : List ℕ) → other w ≡ true → has_word (map output_of live) w ≡ true)
    → ((w : List ℕ) → ReachesCircle tables w → ⊥) ⊎ ((set : List ℕ → Bool) × IsCyclicSet tables set × ((w : List ℕ) × (set w ≡ true) × (has_word (map output_of tables) w ≡ true)))
cyclic_or_none k tables [] l d sub inv = inl (λ w r. both_ways false refl (inv r.0 r.1 w r.2))
cyclic_or_none zero tables (x ∷ xs) l d sub inv = absurd (omega arith)
cyclic_or_none (suc k) tables (x ∷ xs) l d sub inv =
    elim (free_or_none (map output_of (x ∷ xs)) (x ∷ xs)) [
      | inl f ↦ cyclic_or_none k tables (f.0 ++ f.2) (shorter f.0 f.1 f.2 k (subst (λ n. length n ≤ suc k) f.3 l)) d
          (λ u h. sub u (subst (λ n. In n u) (sym f.3) (in_without f.0 f.1 f.2 u h)))
          (λ other reading w o. has_without f.0 f.1 f.2 w
          (false_from_ne_true (bytes_eq f.1.output w) (λ s.
          let r = reading w o in
          let mine : In tables f.1 = sub f.1 (subst (λ n. In n f.1) (sym f.3) (in_middle f.0 f.1 f.2)) in
          let same : r.0 ≡ f.1 = one_table tables r.0 f.1 d (to_in tables r.0 r.1.0 r.1.1 r.1.2) mine (r.2 ∙ sym (same_word f.1.output w s)) in
          both_ways (list_any (has_word (map output_of (x ∷ xs))) f.1.inputs) f.4
          (any_more other (has_word (map output_of (x ∷ xs))) f.1.inputs (λ v q. inv other reading v q) (subst (λ (u : Table). list_any other u.inputs ≡ true) same r.3))))
          (subst (λ n. has_word (map output_of n) w ≡ true) f.3 (inv other reading w o)))
      | inr all ↦ inr (
        has_word (map output_of (x ∷ xs)),
        record {
          reading = λ w h. (let p = has_in (x ∷ xs) w h in (p.0, from_in tables p.0 (sub p.0 p.1), p.2, all p.0 p.1));
          greatest = λ other reading w o. inv other reading w o;
        },
        (x.output, in_has (x ∷ xs) x (inl refl), in_has tables x (sub x (inl refl))),
      )
    ]

pub next_is : (ts : List Table) (set : List ℕ → Bool) (u : Table) → distinct (map output_of ts) ≡ true → In ts u → next_in ts set u.output ≡ find set u.inputs
next_is [] set u d h = absurd h
next_is (t ∷ ts) set u d (inl e) = subst (λ v. next_in (t ∷ ts) set v.output ≡ find set v.inputs) e (cond-true (bytes_eq t.output t.output) (find set t.inputs) (next_in ts set t.output) (word_same t.output))
next_is (t ∷ ts) set u d (inr h) =
    let p = and_parts (not (has_word (map output_of ts) t.output)) (distinct (map output_of ts)) d in
    cond-false (bytes_eq t.output u.output) (find set t.inputs) (next_in ts set u.output)
    (false_from_ne_true (bytes_eq t.output u.output) (λ s. both_ways (has_word (map output_of ts) t.output) (not-true _ p.0) (subst (λ w. has_word (map output_of ts) w ≡ true) (sym (same_word t.output u.output s)) (in_has ts u h))))
    ∙ next_is ts set u p.1 h

-- the cyclic set, where a circle is reached at all
pub cyclic_set : (tables : List Table) → distinct (map output_of tables) ≡ true → (w : List ℕ) → ReachesCircle tables w → (set : List ℕ → Bool) × IsCyclicSet tables set
cyclic_set tables d w reached = elim (cyclic_or_none (length tables) tables tables (omega arith) d (λ u h. h) (λ other reading v o. let r = reading v o in subst (λ x. has_word (map output_of tables) x ≡ true) r.2 (in_has tables r.0 (to_in tables r.0 r.1.0 r.1.1 r.1.2)))) [
  | inl none ↦ absurd (none w reached)
  | inr c ↦ (c.0, c.1)
]

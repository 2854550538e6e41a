-- The first node to be balanced, and what stands once all are.
use Rattle.std.proofs.Common.{◌≡◌, ◌≢◌, ℕ, zero, suc, ◌+◌, ◌-◌, ◌*◌, ◌%◌, ◌<◌, nat_le, nat_eq, if◌then◌else◌, Bool, false, All, List, [], ◌∷◌, length, map, get_or, replicate, refl, sym, ap, ap₂, ◌∙◌, subst, arith, inl, inr, Option, Some, None, IsSome}
use Rattle.std.specs.List.{sum_by}
use Rattle.std.proofs.lemmas.Bool.{cases_lt, cases_Bool, cond-true, cond-false, le-leb, lt-leb, eqb-true, eqb-false, eq-eqb}
use Rattle.std.proofs.lemmas.List.{get_or_past, length-map, length-replicate}
use Rattle.std.proofs.lemmas.List.Elements.{All-nil, All-cons}
use Rattle.std.proofs.lemmas.List.Folds.{sum_by-replicate}
use Rattle.syn_rows.specs.declared.Lit.{Lit}
use Rattle.syn_rows.specs.declared.Row.{Row}
use Rattle.syn_rows.specs.Rows.{node_of}
use Rattle.syn_rows.specs.Values.{given_by}
use Rattle.syn_hashed.specs.Hashed.{IsHashed, lit_at}
use Rattle.syn_hashed.specs.Growing.{value_by}
use Rattle.syn_hashed.specs.Visiting.{visited, with_sign, literal_of, FirstsOf, IsRebuilt}
use Rattle.syn_hashed.proofs.Rising.{source_value}
use Rattle.syn_hashed.proofs.LevelLaws.{source_level}
use Rattle.syn_balance.specs.Roots.{HasRoots}
use Rattle.syn_balance.specs.Leaves.{StandFor, plain, joins_of}
use Rattle.syn_balance.specs.Rule.{AreBalanced, AreByRule}
use Rattle.syn_balance.specs.Balancing.{IsBalancing}
use Rattle.syn_balance.proofs.Standing.{StandsFor, one_leaf, one_parts, signed, signed_stands, plain_is, plain_level}

-- the sources stand for themselves
number_of : (l m : Lit) → Some l ≡ Some m → l ≡ m
number_of l m e = cc

clash : (z : Lit) → None ≡ Some z → ⊥
clash z h = cc

known : (count : ℕ) (rows : List Row) (literals : List (Option Lit)) → FirstsOf count (length rows) literals → (n : ℕ) (l : Lit) → visited literals n ≡ Some l → (n < count + 1) × (n < length rows) × (l ≡ plain n)
known count rows literals firsts n l e = elim (cases_lt n (length rows)) [
  | inl lt ↦ elim (cases_lt count n) [
    | inl above ↦ absurd (clash l (sym (firsts.each n lt ∙ cond-false (nat_le n count) (Some (plain n)) None (lt-leb n count above)) ∙ e))
    | inr low ↦ (omega arith, lt, number_of l (plain n) (sym e ∙ (firsts.each n lt ∙ cond-true (nat_le n count) (Some (plain n)) None (le-leb n count low))))
  ]
  | inr past ↦ absurd (clash l (sym (get_or_past literals n None (omega (arith, firsts.all))) ∙ e))
]

source_stands : (count : ℕ) (rows new : List Row) (n : ℕ) → IsHashed count rows → IsHashed count new → n < count + 1 → StandsFor rows new (plain n) (plain n)
source_stands count rows new n h g lt = record {
  there = (let t = g.there in omega (arith, t));
  value = λ given at_0. plain_is given new n ∙ (source_value count new g given n lt ∙ (sym (source_value count rows h given n lt) ∙ sym (plain_is given rows n)));
  level = (let a = plain_level new n in let b = source_level count new g n lt in omega (arith, a, b));
}

zeros : (n : ℕ) → sum_by joins_of (replicate n []) ≡ 0
zeros n = sum_by-replicate joins_of n [] ∙ (let e : n * 0 ≡ 0 = omega arith in e)

some_none : (l : Lit) → Some l ≡ None → ⊥
some_none l e = cc

pub begins : (count : ℕ) (rows new : List Row) (roots : List Bool) (literals : List (Option Lit)) (waiting : List (List Lit)) → IsHashed count rows → IsHashed count new → length new ≡ count + 1 → FirstsOf count (length rows) literals → waiting ≡ replicate (length rows) []
    → IsBalancing count rows roots (count + 1) literals waiting new
begins count rows new roots literals waiting h g size firsts empty = record {
  leaves = replicate (length rows) [];
  rule = subst (λ (k : ℕ). AreBalanced count rows roots k (record { new = new; literals = literals; leaves = replicate (length rows) [] })) (let e : 0 ≡ count + 1 - (count + 1) = omega arith in e) (record {
    few = size;
    sources = g.front;
    literals = firsts;
    leaves = refl;
  });
  all_leaves = length-replicate (length rows) [];
  all = firsts.all;
  all_wait = ap length empty ∙ length-replicate (length rows) [];
  front = front;
  made = λ m l e.
      let k = known count rows literals firsts m l e in
      subst (λ (x : Lit). StandFor rows new (plain m) (x ∷ [])) (sym k.2) (one_leaf rows new (plain m) (plain m) (source_stands count rows new m h g k.0));
  waits = λ m lt e. absurd (some_none (plain m) (sym (front m lt) ∙ e));
  rooted = λ m lt marked. subst IsSome (sym (front m lt)) refl;
  few = (let z = ap (sum_by joins_of) empty ∙ zeros (length rows) in omega (arith, size, z));
}
  where
    front : (m : ℕ) → m < count + 1 → visited literals m ≡ Some (plain m)
    front m lt = firsts.each m (let t = h.there in omega (arith, t)) ∙ cond-true (nat_le m count) (Some (plain m)) None (le-leb m count (omega arith))

-- what stands for a literal
pub stands : (count : ℕ) (rows : List Row) (roots : List Bool) (n : ℕ) (literals : List (Option Lit)) (waiting : List (List Lit)) (new : List Row) (lit x : Lit) → IsBalancing count rows roots n literals waiting new → literal_of literals lit ≡ Some x → StandsFor rows new lit x
stands count rows roots n literals waiting new lit x s e = go (visited literals (node_of lit)) refl e
  where
    go : (o : Option Lit) → visited literals (node_of lit) ≡ o → with_sign lit o ≡ Some x → StandsFor rows new lit x
    go None at h = absurd (clash x h)
    go (Some l) at h = subst (StandsFor rows new lit) (number_of (signed lit l) x h) (signed_stands rows new lit l (one_parts rows new (plain (node_of lit)) l (s.made (node_of lit) l at)))

some_sign : (lit : Lit) (o : Option Lit) → IsSome o → IsSome (with_sign lit o)
some_sign lit None h = h
some_sign lit (Some l) h = h

-- each observed literal has one that stands for it
pub all_stand : (count : ℕ) (rows : List Row) (lits : List Lit) (roots : List Bool) (literals : List (Option Lit)) (waiting : List (List Lit)) (new : List Row) → IsBalancing count rows roots (length rows) literals waiting new → HasRoots rows lits roots
    → All (λ l. node_of l < length rows) lits → All (λ l. IsSome (literal_of literals l)) lits
all_stand count rows lits roots literals waiting new s r inside i d lt = some_sign (get_or lits i d) (visited literals (node_of (get_or lits i d))) (s.rooted (node_of (get_or lits i d)) (inside i d lt) (r.observed i d lt))

-- lists of literals
one_less : (x : Option Lit) (xs : List (Option Lit)) (y : Option Lit) (ys : List (Option Lit)) → x ∷ xs ≡ y ∷ ys → (x ≡ y) × (xs ≡ ys)
one_less x xs y ys e = (cc, cc)

found_there : (rows new : List Row) (literals : List (Option Lit)) → ((lit x : Lit) → literal_of literals lit ≡ Some x → StandsFor rows new lit x) → (found lits : List Lit) → map (λ l. Some l) found ≡ map (literal_of literals) lits → All (λ l. node_of l < length new) found
found_there rows new literals st [] lits e = All-nil (λ (l : Lit). node_of l < length new)
found_there rows new literals st (f ∷ fs) [] e = absurd (cc)
found_there rows new literals st (f ∷ fs) (l ∷ ls) e =
    let parts = one_less (Some f) (map (λ (x : Lit). Some x) fs) (literal_of literals l) (map (literal_of literals) ls) e in
    All-cons (λ (x : Lit). node_of x < length new) f fs (st l f (sym parts.0)).there (found_there rows new literals st fs ls parts.1)

found_values : (rows new : List Row) (literals : List (Option Lit)) → ((lit x : Lit) → literal_of literals lit ≡ Some x → StandsFor rows new lit x) → (given : ℕ → Bool) → given 0 ≡ false → (found lits : List Lit) → map (λ l. Some l) found ≡ map (literal_of literals) lits
    → map (value_by given new) found ≡ map (value_by given rows) lits
found_values rows new literals st given at_0 [] [] e = refl
found_values rows new literals st given at_0 [] (l ∷ ls) e = absurd (cc)
found_values rows new literals st given at_0 (f ∷ fs) [] e = absurd (cc)
found_values rows new literals st given at_0 (f ∷ fs) (l ∷ ls) e =
    let parts = one_less (Some f) (map (λ (x : Lit). Some x) fs) (literal_of literals l) (map (literal_of literals) ls) e in
    ap₂ (λ (b : Bool) (bs : List Bool). b ∷ bs) ((st l f (sym parts.0)).value given at_0) (found_values rows new literals st given at_0 fs ls parts.1)

found_at : (literals : List (Option Lit)) (found lits : List Lit) → map (λ l. Some l) found ≡ map (literal_of literals) lits → (i : ℕ) → i < length lits → Some (lit_at found i) ≡ literal_of literals (lit_at lits i)
found_at literals [] [] e i lt = absurd (omega arith)
found_at literals [] (l ∷ ls) e i lt = absurd (cc)
found_at literals (f ∷ fs) [] e i lt = absurd (omega arith)
found_at literals (f ∷ fs) (l ∷ ls) e zero lt = (one_less (Some f) (map (λ (x : Lit). Some x) fs) (literal_of literals l) (map (literal_of literals) ls) e).0
found_at literals (f ∷ fs) (l ∷ ls) e (suc i) lt = found_at literals fs ls (one_less (Some f) (map (λ (x : Lit). Some x) fs) (literal_of literals l) (map (literal_of literals) ls) e).1 i (omega arith)

-- a literal of a node that stands for itself stands for itself
own_literal : (l : Lit) → with_sign l (Some (plain (node_of l))) ≡ Some l
own_literal l = elim (cases_Bool (nat_eq (l.0 % 2) 0)) [
  | inl t ↦
      let even = eqb-true (l.0 % 2) 0 t in
      let number : 2 * node_of l ≡ l.0 = omega (arith, even) in
      ap (λ (y : Lit). Some y) (cond-true (nat_eq (l.0 % 2) 0) (plain (node_of l)) (next (2 * node_of l)) t ∙ ap (λ (k : ℕ). let m : Lit = record { 0 = k } in m) number)
  | inr f ↦
      let odd : l.0 % 2 ≢ 0 = eqb-false (l.0 % 2) 0 f in
      let up : (if nat_eq ((2 * node_of l) % 2) 0 then 2 * node_of l + 1 else 2 * node_of l - 1) ≡ 2 * node_of l + 1 = cond-true (nat_eq ((2 * node_of l) % 2) 0) (2 * node_of l + 1) (2 * node_of l - 1) (eq-eqb ((2 * node_of l) % 2) 0 (omega arith)) in
      let number : 2 * node_of l + 1 ≡ l.0 = omega (arith, odd) in
      ap (λ (y : Lit). Some y) (cond-false (nat_eq (l.0 % 2) 0) (plain (node_of l)) (next (2 * node_of l)) f ∙ ap (λ (k : ℕ). let m : Lit = record { 0 = k } in m) (up ∙ number))
]
  where
    next : ℕ → Lit
    next k = record { 0 = if nat_eq (k % 2) 0 then k + 1 else k - 1 }

-- the balanced rows, made again
pub made_again : (count : ℕ) (rows : List Row) (lits : List Lit) (roots : List Bool) (literals : List (Option Lit)) (waiting : List (List Lit)) (new : List Row) (found : List Lit) → IsHashed count new → IsBalancing count rows roots (length rows) literals waiting new
    → map (λ l. Some l) found ≡ map (literal_of literals) lits → IsRebuilt count rows lits new found
made_again count rows lits roots literals waiting new found g s e = record {
  hashed = g;
  same_count = sym (length-map found (λ l. Some l)) ∙ (ap length e ∙ length-map lits (literal_of literals));
  within = found_there rows new literals st found lits e;
  fewer = (let f = s.few in omega (arith, f));
  same_function = λ bits. found_values rows new literals st (given_by bits) refl found lits e;
  levels = λ i lt. (st (lit_at lits i) (lit_at found i) (sym (found_at literals found lits e i lt))).level;
  sources_stay = λ i l lt low at. number_of (lit_at found i) l (found_at literals found lits e i lt ∙ (ap (literal_of literals) at ∙ (ap (with_sign l) (s.front (node_of l) low) ∙ own_literal l)));
}
  where
    st : (lit x : Lit) → literal_of literals lit ≡ Some x → StandsFor rows new lit x
    st lit x h = stands count rows roots (length rows) literals waiting new lit x s h

-- and made by the rule
pub made_by_rule : (count : ℕ) (rows : List Row) (lits : List Lit) (roots : List Bool) (literals : List (Option Lit)) (waiting : List (List Lit)) (new : List Row) (found : List Lit) → HasRoots rows lits roots → IsBalancing count rows roots (length rows) literals waiting new
    → map (λ l. Some l) found ≡ map (literal_of literals) lits → AreByRule count rows lits new found
made_by_rule count rows lits roots literals waiting new found r s e = record {
  roots = roots;
  marked = r;
  s = record { new = new; literals = literals; leaves = s.leaves };
  balanced = s.rule;
  made = refl;
  found = e;
}

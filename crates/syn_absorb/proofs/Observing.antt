-- How often literals read a signal plain and complemented, before and after some signals are complemented.
use Rattle.std.proofs.Common.{◌≡◌, ℕ, ◌+◌, ◌%◌, ◌<◌, ◌≤◌, ◌&&◌, ◌||◌, if◌then◌else◌, nat_eq, nat_lt, not, Bool, true, false, List, [], ◌∷◌, ◌++◌, map, length, take, get_or, count_by, refl, sym, ap, ap₂, ◌∙◌, inl, inr, arith, eqb-true}
use Rattle.std.specs.List.{list_any}
use Rattle.std.proofs.lemmas.Bool.{cases_Bool, cases_lt, lt-ltb, le-ltb, ltb-true, ltb-false, le-leb}
use Rattle.std.proofs.Math.Seq.{take-length}
use Rattle.std.proofs.lemmas.List.{get_or_append_left, get_or_past, get_or_push}
use Rattle.std.proofs.lemmas.List.Sums.{sum_by-cons, sum_by-take-le, count_by-le-length, count_by_more_yes, count_by_more_no}
use Rattle.syn_rows.specs.declared.Lit.{Lit}
use Rattle.syn_rows.specs.Rows.{node_of}
use Rattle.syn_rows.specs.Values.{value_in}
use Rattle.syn_hashed.specs.Pairs.{number_at}
use Rattle.syn_absorb.specs.Flips.{xor, is_opposite, is_plain, flipped_lit, is_flipped, AllShown, MostShown}
use Rattle.syn_absorb.proofs.Same.{flipped_node, made_opposite}

count_cons : (p : Lit → Bool) (l : Lit) (ls : List Lit) → count_by p (l ∷ ls) ≡ (if p l then 1 else 0) + count_by p ls
count_cons p l ls = sum_by-cons (λ x. if p x then 1 else 0) l ls

count_more : (p : Lit → Bool) (ls : List Lit) (i : ℕ) (d : Lit) → i < length ls → count_by p (take (i + 1) ls) ≡ count_by p (take i ls) + (if p (get_or ls i d) then 1 else 0)
count_more p ls i d lt = elim (cases_Bool (p (get_or ls i d))) [
  | inl t ↦ count_by_more_yes p ls i d lt t ∙ ap (λ b. count_by p (take i ls) + (if b then 1 else 0)) (sym t)
  | inr f ↦ count_by_more_no p ls i d lt f ∙ (let same : count_by p (take i ls) ≡ count_by p (take i ls) + 0 = omega arith in same) ∙ ap (λ b. count_by p (take i ls) + (if b then 1 else 0)) (sym f)
]

-- one literal more is counted
pub counted_next : (p : Lit → Bool) (ls : List Lit) (i : ℕ) (d : Lit) (old new : ℕ) → i < length ls → old ≡ count_by p (take i ls) → new ≡ old + (if p (get_or ls i d) then 1 else 0) → new ≡ count_by p (take (i + 1) ls)
counted_next p ls i d old new lt was is = is ∙ ap (λ k. k + (if p (get_or ls i d) then 1 else 0)) was ∙ sym (count_more p ls i d lt)

pub counted_all : (p : Lit → Bool) (ls : List Lit) (i k : ℕ) → length ls ≡ i → k ≡ count_by p (take i ls) → k ≡ count_by p ls
counted_all p ls i k all is = is ∙ ap (λ n. count_by p (take n ls)) (sym all) ∙ ap (count_by p) (take-length ls)

pub counted_few : (p : Lit → Bool) (ls : List Lit) (i k : ℕ) → k ≡ count_by p (take i ls) → k ≤ length ls
counted_few p ls i k is =
    let some : count_by p (take i ls) ≤ count_by p ls = sum_by-take-le (λ x. if p x then 1 else 0) ls i in
    omega (arith, is, some, count_by-le-length p ls)

-- one place more is marked by a test
pub marked_next : (done new : List Bool) (b : Bool) (f : ℕ → Bool) (i : ℕ) → new ≡ done ++ b ∷ [] → length done ≡ i → b ≡ f i → ((n : ℕ) → n < i → value_in done n ≡ f n) → (n : ℕ) → n < i + 1 → value_in new n ≡ f n
marked_next done new b f i pushed long here each n lt = ap (λ (bs : List Bool). value_in bs n) pushed ∙ elim (cases_lt n i) [
  | inl less ↦ get_or_append_left done (b ∷ []) false n (omega (arith, less, long)) ∙ each n less
  | inr ge ↦
      let same : n ≡ i = omega (arith, lt, ge) in
      get_or_push done b false n (omega (arith, long, same)) ∙ here ∙ ap f (sym same)
]

-- past the end of two lists none is marked
pub marked_all : (marks : List Bool) (ms ns : List ℕ) (i : ℕ) → length marks ≡ i → length ms ≡ i → length ns ≡ length ms → ((n : ℕ) → n < i → value_in marks n ≡ nat_lt (number_at ms n) (number_at ns n)) → (n : ℕ) → value_in marks n ≡ nat_lt (number_at ms n) (number_at ns n)
marked_all marks ms ns i long long_ms long_ns each n = elim (cases_lt n i) [
  | inl less ↦ each n less
  | inr ge ↦
      get_or_past marks n false (omega (arith, ge, long))
      ∙ sym (ap₂ (λ (a b : ℕ). nat_lt a b) (get_or_past ms n 0 (omega (arith, ge, long_ms))) (get_or_past ns n 0 (omega (arith, ge, long_ms, long_ns))))
]

abbrev pick : Bool → Bool → Bool → Bool
pick f a b = if f then b else a

opposite_is : (flip : ℕ → Bool) (n : ℕ) (l : Lit) → is_opposite n (flipped_lit flip l) ≡ pick (flip n) (is_opposite n l) (is_plain n l)
opposite_is flip n l =
    ap₂ (λ (m : ℕ) (s : Bool). nat_eq m n && s) (flipped_node flip l) (made_opposite (node_of l) (xor (flip (node_of l)) (nat_eq (l.0 % 2) 1)))
    ∙ elim (cases_Bool (nat_eq (node_of l) n)) [
      | inl e ↦ ap (λ m. nat_eq (node_of l) n && xor (flip m) (nat_eq (l.0 % 2) 1)) (eqb-true (node_of l) n e) ∙ here (nat_eq (node_of l) n) (flip n) (nat_eq (l.0 % 2) 1)
      | inr e ↦ away (nat_eq (node_of l) n) (flip n) (xor (flip (node_of l)) (nat_eq (l.0 % 2) 1)) (nat_eq (l.0 % 2) 1) e
    ]
  where
    here : (a f s : Bool) → (a && xor f s) ≡ pick f (a && s) (a && not s)
    here a true s = refl
    here a false s = refl

    away : (a f x s : Bool) → a ≡ false → (a && x) ≡ pick f (a && s) (a && not s)
    away a true x s e = ap (λ b. b && x) e ∙ sym (ap (λ b. b && not s) e)
    away a false x s e = ap (λ b. b && x) e ∙ sym (ap (λ b. b && s) e)

plain_is : (flip : ℕ → Bool) (n : ℕ) (l : Lit) → is_plain n (flipped_lit flip l) ≡ pick (flip n) (is_plain n l) (is_opposite n l)
plain_is flip n l =
    ap₂ (λ (m : ℕ) (s : Bool). nat_eq m n && not s) (flipped_node flip l) (made_opposite (node_of l) (xor (flip (node_of l)) (nat_eq (l.0 % 2) 1)))
    ∙ elim (cases_Bool (nat_eq (node_of l) n)) [
      | inl e ↦ ap (λ m. nat_eq (node_of l) n && not (xor (flip m) (nat_eq (l.0 % 2) 1))) (eqb-true (node_of l) n e) ∙ here (nat_eq (node_of l) n) (flip n) (nat_eq (l.0 % 2) 1)
      | inr e ↦ away (nat_eq (node_of l) n) (flip n) (not (xor (flip (node_of l)) (nat_eq (l.0 % 2) 1))) (nat_eq (l.0 % 2) 1) e
    ]
  where
    here : (a f s : Bool) → (a && not (xor f s)) ≡ pick f (a && not s) (a && s)
    here a true true = refl
    here a true false = refl
    here a false s = refl

    away : (a f x s : Bool) → a ≡ false → (a && x) ≡ pick f (a && not s) (a && s)
    away a true x s e = ap (λ b. b && x) e ∙ sym (ap (λ b. b && s) e)
    away a false x s e = ap (λ b. b && x) e ∙ sym (ap (λ b. b && not s) e)

picked_same : (f : Bool) (k : ℕ) → k ≡ (if f then k else k)
picked_same true k = refl
picked_same false k = refl

pick_more : (f a b : Bool) (m n : ℕ) → (if pick f a b then 1 else 0) + (if f then n else m) ≡ (if f then (if b then 1 else 0) + n else (if a then 1 else 0) + m)
pick_more true a b m n = refl
pick_more false a b m n = refl

opposites_are : (flip : ℕ → Bool) (n : ℕ) (lits : List Lit) → count_by (is_opposite n) (map (flipped_lit flip) lits) ≡ (if flip n then count_by (is_plain n) lits else count_by (is_opposite n) lits)
opposites_are flip n [] = picked_same (flip n) 0
opposites_are flip n (l ∷ ls) =
    count_cons (is_opposite n) (flipped_lit flip l) (map (flipped_lit flip) ls)
    ∙ ap₂ (λ (b : Bool) (m : ℕ). (if b then 1 else 0) + m) (opposite_is flip n l) (opposites_are flip n ls)
    ∙ pick_more (flip n) (is_opposite n l) (is_plain n l) (count_by (is_opposite n) ls) (count_by (is_plain n) ls)
    ∙ ap₂ (λ (x y : ℕ). if flip n then x else y) (sym (count_cons (is_plain n) l ls)) (sym (count_cons (is_opposite n) l ls))

plains_are : (flip : ℕ → Bool) (n : ℕ) (lits : List Lit) → count_by (is_plain n) (map (flipped_lit flip) lits) ≡ (if flip n then count_by (is_opposite n) lits else count_by (is_plain n) lits)
plains_are flip n [] = picked_same (flip n) 0
plains_are flip n (l ∷ ls) =
    count_cons (is_plain n) (flipped_lit flip l) (map (flipped_lit flip) ls)
    ∙ ap₂ (λ (b : Bool) (m : ℕ). (if b then 1 else 0) + m) (plain_is flip n l) (plains_are flip n ls)
    ∙ pick_more (flip n) (is_plain n l) (is_opposite n l) (count_by (is_plain n) ls) (count_by (is_opposite n) ls)
    ∙ ap₂ (λ (x y : ℕ). if flip n then x else y) (sym (count_cons (is_opposite n) l ls)) (sym (count_cons (is_plain n) l ls))

-- the greater of two numbers becomes the second
most_left : (f : Bool) (a b x y : ℕ) → f ≡ nat_lt b a → x ≡ (if f then b else a) → y ≡ (if f then a else b) → x ≤ y
most_left true a b x y is x_is y_is = omega (arith, ltb-true b a (sym is), x_is, y_is)
most_left false a b x y is x_is y_is = omega (arith, ltb-false b a (sym is), x_is, y_is)

pub flipped_most : (first : ℕ) (lits : List Lit) (flip : ℕ → Bool) → ((n : ℕ) → flip n ≡ is_flipped first lits n) → MostShown first (map (flipped_lit flip) lits)
flipped_most first lits flip is n le =
    let a : ℕ = count_by (is_opposite n) lits in
    let b : ℕ = count_by (is_plain n) lits in
    let own : flip n ≡ nat_lt b a = is n ∙ ap (λ x. x && nat_lt b a) (le-leb first n le) in
    most_left (flip n) a b (count_by (is_opposite n) (map (flipped_lit flip) lits)) (count_by (is_plain n) (map (flipped_lit flip) lits)) own (opposites_are flip n lits) (plains_are flip n lits)

any_counted : (p : Lit → Bool) (ls : List Lit) → list_any p ls ≡ nat_lt 0 (count_by p ls)
any_counted p [] = refl
any_counted p (l ∷ ls) = ap (λ b. p l || b) (any_counted p ls) ∙ more (p l) (count_by p ls) ∙ sym (ap (nat_lt 0) (count_cons p l ls))
  where
    more : (b : Bool) (m : ℕ) → (b || nat_lt 0 m) ≡ nat_lt 0 ((if b then 1 else 0) + m)
    more true m = sym (lt-ltb 0 (1 + m) (omega arith))
    more false m = ap (nat_lt 0) (let same : m ≡ 0 + m = omega arith in same)

none_only : (a b : ℕ) → a ≤ b → (nat_lt 0 a && not (nat_lt 0 b)) ≡ false
none_only a b le = elim (cases_lt 0 b) [
  | inl some ↦ ap (λ y. nat_lt 0 a && not y) (lt-ltb 0 b some) ∙ off (nat_lt 0 a)
  | inr none ↦ ap (λ x. x && not (nat_lt 0 b)) (le-ltb 0 a (omega (arith, le, none)))
]
  where
    off : (x : Bool) → (x && false) ≡ false
    off true = refl
    off false = refl

-- where no more literals read a signal complemented than plain, none is observed only complemented
pub all_shown : (first : ℕ) (lits : List Lit) → MostShown first lits → AllShown first lits
all_shown first lits most n le =
    ap₂ (λ (a b : Bool). a && not b) (any_counted (is_opposite n) lits) (any_counted (is_plain n) lits)
    ∙ none_only (count_by (is_opposite n) lits) (count_by (is_plain n) lits) (most n le)

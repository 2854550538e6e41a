-- Leaves that stand for literals.
use Rattle.std.proofs.Common.{◌≡◌, ◌≢◌, ℕ, ◌+◌, ◌-◌, ◌%◌, ◌^◌, ◌<◌, ◌≤◌, ◌&&◌, nat_eq, not, max, if◌then◌else◌, Bool, true, false, All, List, [], ◌∷◌, ◌++◌, length, get_or, refl, sym, ap, ap₂, ◌∙◌, arith, inl, inr, length-append}
use Rattle.std.specs.List.{list_all, sum_by}
use Rattle.std.proofs.lemmas.Bool.{cases_Bool, cond-true, cond-false, eqb-true, eqb-false}
use Rattle.std.proofs.lemmas.List.Elements.{All-head, All-tail, All-nil, All-cons, All-append}
use Rattle.std.proofs.lemmas.List.Folds.{list_all-append}
use Rattle.std.proofs.lemmas.List.Sums.{sum_by-cons, sum_by-append}
use Rattle.syn_rows.specs.declared.Lit.{Lit}
use Rattle.syn_rows.specs.declared.Row.{Row}
use Rattle.syn_rows.specs.declared.Row.TheVariants.{And}
use Rattle.syn_rows.specs.Rows.{node_of, row_at}
use Rattle.syn_rows.specs.Values.{value_in, values_of}
use Rattle.syn_rows.specs.Levels.{level_in, levels_of}
use Rattle.syn_hashed.specs.Hashed.{IsHashed}
use Rattle.syn_hashed.specs.Growing.{Extends, value_by, level_by}
use Rattle.syn_hashed.proofs.Rising.{extends_longer, literal_kept, gate_value}
use Rattle.syn_hashed.proofs.Joining.{plain_value, not_value}
use Rattle.syn_hashed.proofs.LevelLaws.{level_kept, gate_level}
use Rattle.syn_balance.specs.Leaves.{weight, StandFor, plain}
use Rattle.syn_balance.proofs.Powers.{power_rises, power_double, below_by_power}

-- one leaf
and_true : (b : Bool) → (b && true) ≡ b
and_true true = refl
and_true false = refl

-- One literal of the new rows stands for one of the old.
pub record StandsFor (old new : List Row) (lit l : Lit) : Type 0 where
  pub there : node_of l < length new
  pub value : (given : ℕ → Bool) → given 0 ≡ false → value_by given new l ≡ value_by given old lit
  pub level : level_by new l ≤ level_by old lit

pub one_leaf : (old new : List Row) (lit l : Lit) → StandsFor old new lit l → StandFor old new lit (l ∷ [])
one_leaf old new lit l s = record {
  some = omega arith;
  there = All-cons (λ (x : Lit). node_of x < length new) l [] s.there (All-nil (λ (x : Lit). node_of x < length new));
  value = λ given at_0. and_true (value_by given new l) ∙ s.value given at_0;
  fits = (let p = power_rises (level_by new l) (level_by old lit) s.level in let q = sum_by-cons (weight new) l [] in omega (arith, p, q));
}

pub one_parts : (old new : List Row) (lit l : Lit) → StandFor old new lit (l ∷ []) → StandsFor old new lit l
one_parts old new lit l s = record {
  there = All-head (λ (x : Lit). node_of x < length new) l [] s.there;
  value = λ given at_0. sym (and_true (value_by given new l)) ∙ s.value given at_0;
  level = below_by_power (level_by new l) (level_by old lit) (let q = sum_by-cons (weight new) l [] in let f = s.fits in omega (arith, q, f));
}

-- rows that grow
all_same : (f g : Lit → Bool) (ls : List Lit) → All (λ l. f l ≡ g l) ls → list_all f ls ≡ list_all g ls
all_same f g [] h = refl
all_same f g (l ∷ ls) h = ap₂ (λ x y. x && y) (All-head (λ (x : Lit). f x ≡ g x) l ls h) (all_same f g ls (All-tail (λ (x : Lit). f x ≡ g x) l ls h))

sum_same : (f g : Lit → ℕ) (ls : List Lit) → All (λ l. f l ≡ g l) ls → sum_by f ls ≡ sum_by g ls
sum_same f g [] h = refl
sum_same f g (l ∷ ls) h = sum_by-cons f l ls ∙ (ap₂ (λ (x : ℕ) (y : ℕ). x + y) (All-head (λ (x : Lit). f x ≡ g x) l ls h) (sum_same f g ls (All-tail (λ (x : Lit). f x ≡ g x) l ls h)) ∙ sym (sum_by-cons g l ls))

pub values_kept : (given : ℕ → Bool) (new more : List Row) (ls : List Lit) → Extends new more → All (λ l. node_of l < length new) ls → list_all (value_by given more) ls ≡ list_all (value_by given new) ls
values_kept given new more ls e h = all_same (value_by given more) (value_by given new) ls (λ i d lt. literal_kept given new more e (get_or ls i d) (h i d lt))

pub weights_kept : (new more : List Row) (ls : List Lit) → Extends new more → All (λ l. node_of l < length new) ls → sum_by (weight more) ls ≡ sum_by (weight new) ls
weights_kept new more ls e h = sum_same (weight more) (weight new) ls (λ i d lt. ap (λ k. 2 ^ k) (level_kept new more e (node_of (get_or ls i d)) (h i d lt)))

pub there_kept : (new more : List Row) (ls : List Lit) → Extends new more → All (λ l. node_of l < length new) ls → All (λ l. node_of l < length more) ls
there_kept new more ls e h i d lt = let longer = extends_longer new more e in let inside = h i d lt in omega (arith, longer, inside)

pub stand_kept : (old new more : List Row) (lit : Lit) (ls : List Lit) → Extends new more → StandFor old new lit ls → StandFor old more lit ls
stand_kept old new more lit ls e s = record {
  some = s.some;
  there = there_kept new more ls e s.there;
  value = λ given at_0. values_kept given new more ls e s.there ∙ s.value given at_0;
  fits = (let same = weights_kept new more ls e s.there in let f = s.fits in omega (arith, same, f));
}

-- the leaves of two literals stand for their AND, one level higher
pub stand_both : (old new : List Row) (lit a b : Lit) (xs ys : List Lit) → ((given : ℕ → Bool) → given 0 ≡ false → value_by given old lit ≡ (value_by given old a && value_by given old b)) → level_by old a < level_by old lit → level_by old b < level_by old lit
    → StandFor old new a xs → StandFor old new b ys → StandFor old new lit (xs ++ ys)
stand_both old new lit a b xs ys value la lb s t = record {
  some = (let e = length-append xs ys in let p = s.some in omega (arith, e, p));
  there = All-append (λ (l : Lit). node_of l < length new) xs ys s.there t.there;
  value = λ given at_0. list_all-append (value_by given new) xs ys ∙ (ap₂ (λ x y. x && y) (s.value given at_0) (t.value given at_0) ∙ sym (value given at_0));
  fits = (
      let e = sum_by-append (weight new) xs ys in
      let k : ℕ = level_by old lit - 1 in
      let p = power_rises (level_by old a) k (omega arith) in
      let q = power_rises (level_by old b) k (omega arith) in
      let top : 2 ^ level_by old lit ≡ 2 ^ (k + 1) = ap (λ n. 2 ^ n) (let z : level_by old lit ≡ k + 1 = omega arith in z) in
      let twice = power_double k in
      let f = s.fits in
      let g = t.fits in
      omega (arith, e, p, q, top, twice, f, g));
}

-- the value and the level of a gate's plain literal
pub plain_is : (given : ℕ → Bool) (rows : List Row) (n : ℕ) → value_by given rows (plain n) ≡ value_in (values_of given rows) n
plain_is given rows n = plain_value (value_in (values_of given rows)) (plain n) (omega arith) ∙ ap (value_in (values_of given rows)) (let e : node_of (plain n) ≡ n = omega arith in e)

pub plain_level : (rows : List Row) (n : ℕ) → level_by rows (plain n) ≡ level_in (levels_of rows) n
plain_level rows n = ap (level_in (levels_of rows)) (let e : node_of (plain n) ≡ n = omega arith in e)

and_turned : (x y : Bool) → (x && y) ≡ (y && x)
and_turned true true = refl
and_turned true false = refl
and_turned false true = refl
and_turned false false = refl

pub gate_stands : (count : ℕ) (old new : List Row) (n : ℕ) (a b : Lit) (xs ys : List Lit) → IsHashed count old → n < length old → row_at old n ≡ And a b → StandFor old new a xs → StandFor old new b ys → StandFor old new (plain n) (xs ++ ys)
gate_stands count old new n a b xs ys h lt is s t =
    let level : level_by old (plain n) ≡ max (level_by old a) (level_by old b) + 1 = plain_level old n ∙ gate_level count old h n a b is in
    stand_both old new (plain n) a b xs ys (λ given at_0. plain_is given old n ∙ gate_value count old h given n a b lt is) (omega (arith, level)) (omega (arith, level)) s t

pub gate_stands_turned : (count : ℕ) (old new : List Row) (n : ℕ) (a b : Lit) (xs ys : List Lit) → IsHashed count old → n < length old → row_at old n ≡ And a b → StandFor old new a xs → StandFor old new b ys → StandFor old new (plain n) (ys ++ xs)
gate_stands_turned count old new n a b xs ys h lt is s t =
    let level : level_by old (plain n) ≡ max (level_by old a) (level_by old b) + 1 = plain_level old n ∙ gate_level count old h n a b is in
    stand_both old new (plain n) b a ys xs (λ given at_0. plain_is given old n ∙ (gate_value count old h given n a b lt is ∙ and_turned (value_by given old a) (value_by given old b))) (omega (arith, level)) (omega (arith, level)) t s

-- the complement where it is asked
abbrev pub flipped : Lit → Lit
flipped l = record { 0 = if nat_eq (l.0 % 2) 0 then l.0 + 1 else l.0 - 1 }

abbrev pub signed : Lit → Lit → Lit
signed lit l = if nat_eq (lit.0 % 2) 0 then l else flipped l

flipped_node : (m : Lit) → node_of (flipped m) ≡ node_of m
flipped_node m = elim (cases_Bool (nat_eq (m.0 % 2) 0)) [
  | inl t ↦ let number : (flipped m).0 ≡ m.0 + 1 = cond-true (nat_eq (m.0 % 2) 0) (m.0 + 1) (m.0 - 1) t in let even = eqb-true (m.0 % 2) 0 t in omega (arith, number, even)
  | inr f ↦ let number : (flipped m).0 ≡ m.0 - 1 = cond-false (nat_eq (m.0 % 2) 0) (m.0 + 1) (m.0 - 1) f in let odd : m.0 % 2 ≢ 0 = eqb-false (m.0 % 2) 0 f in omega (arith, number, odd)
]

pub signed_stands : (old new : List Row) (lit l : Lit) → StandsFor old new (plain (node_of lit)) l → StandsFor old new lit (signed lit l)
signed_stands old new lit l s = go (nat_eq (lit.0 % 2) 0) refl
  where
    low : level_by new l ≤ level_by old lit
    low = let a = s.level in let b = plain_level old (node_of lit) in omega (arith, a, b)

    go : (t : Bool) → nat_eq (lit.0 % 2) 0 ≡ t → StandsFor old new lit (if t then l else flipped l)
    go true e = record {
      there = s.there;
      value = λ given at_0. s.value given at_0 ∙ (plain_is given old (node_of lit) ∙ sym (cond-true (nat_eq (lit.0 % 2) 0) (value_in (values_of given old) (node_of lit)) (not (value_in (values_of given old) (node_of lit))) e));
      level = low;
    }
    go false e = record {
      there = (let n = flipped_node l in let inside = s.there in omega (arith, n, inside));
      value = λ given at_0.
          not_value (value_in (values_of given new)) l (flipped l) refl
          ∙ (ap not (s.value given at_0 ∙ plain_is given old (node_of lit)) ∙ sym (cond-false (nat_eq (lit.0 % 2) 0) (value_in (values_of given old) (node_of lit)) (not (value_in (values_of given old) (node_of lit))) e));
      level = (let n = ap (level_in (levels_of new)) (flipped_node l) in omega (arith, n, low));
    }

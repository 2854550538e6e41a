-- A split keeps the rule of the table.
use Rattle.std.proofs.Common.{◌≡◌, ◌≢◌, ◌⊎◌, All, true, ℕ, suc, ◌+◌, ◌<◌, ◌≤◌, List, [], ◌∷◌, ◌++◌, length, drop, set, refl, sym, ap, ◌∙◌, subst, arith, inl, inr}
use Rattle.std.proofs.lemmas.Bool.{cases_eq, cases_lt}
use mathlib.Core.Option.{some, some-injective}
use lib.ListN.{get_elem?}
use Rattle.atomic_table.specs.Table.{Splits}
use Rattle.atomic_table.proofs.Lists.{at_set, set_again}
use Rattle.syn_rows.specs.References.{times}
use Rattle.syn_core_laws.specs.declared.View.{View}
use Rattle.syn_core_laws.specs.Cores.{Core}
use Rattle.syn_core_laws.specs.Openings.{empty_view}
use Rattle.syn_core_laws.specs.Splits.{split_off}
use Rattle.syn_core_laws.proofs.Counting.{hits_same}
use Rattle.syn_core_laws.proofs.Splitting.{splits_keep_sound}
use Rattle.syn_core_laws.proofs.Showing.{empty_shown}
use Rattle.syn_table.specs.declared.Known.{Known}
use Rattle.syn_table.specs.declared.Opening.{Opening}
use Rattle.syn_table.specs.Numbers.{all_numbers}
use Rattle.syn_table.specs.Rule.{views_of, HasOwnNumber, IsTied, IsTable, IsCore, IsActive}
use Rattle.syn_rows.specs.Nodes.{has_node}
use Rattle.syn_core_laws.specs.Events.{MayPin}
use Rattle.syn_table.specs.Splitting.{last_of, all_but_last, without_last, split_from, AreNumbers}
use Rattle.syn_table.proofs.Numbering.{numbers_set, numbers_last, numbers_in, numbers_of_two}
use Rattle.syn_table.proofs.Ruling.{views_set, view_there, tied_still}
use Rattle.syn_table.proofs.Listed.{views_last, seat_of_view, seat_last, laid_as, spent_pins, own_from}

-- the last number and the others are the seat's numbers
last_counted : (n x : ℕ) (more : List ℕ) → times n (all_but_last (x ∷ more)) + times n (last_of (x ∷ more) ∷ []) ≡ times n (x ∷ more)
last_counted n x [] = omega arith
last_counted n x (y ∷ more) = let rest = last_counted n y more in omega (arith, rest)

-- two numbers or more: the seat's own stands before the last
own_and_more : (k : Known) → HasOwnNumber k → 2 ≤ length k.numbers → (m : ℕ) × (more : List ℕ) × (k.numbers ≡ k.core.number ∷ m ∷ more)
own_and_more k own two = go (drop 1 k.numbers) own
  where
    go : (others : List ℕ) → k.numbers ≡ k.core.number ∷ others → (m : ℕ) × (more : List ℕ) × (k.numbers ≡ k.core.number ∷ m ∷ more)
    go [] e = absurd (let l = ap (λ (ns : List ℕ). length ns) e in omega (arith, l, two))
    go (m ∷ more) e = (m, more, e)

module _ (opening : Opening) (words : List ℕ) (seats : List Known) (c : Core) (id : ℕ) (k : Known) (m : ℕ) (more : List ℕ) (t : IsTable opening words seats c) (at : get_elem? seats id ≡ some k) (small : k.core.number < 64) (own : k.numbers ≡ k.core.number ∷ m ∷ more) where
  abbrev number : ℕ
  number = last_of k.numbers

  abbrev others : List ℕ
  others = all_but_last k.numbers

  -- the last number is counted once in the numbers behind the seat's own
  counted : (n : ℕ) → times n others + times n (number ∷ []) ≡ times n k.numbers
  counted n = subst (λ (ns : List ℕ). times n (all_but_last ns) + times n (last_of ns ∷ []) ≡ times n ns) (sym own) (last_counted n k.core.number (m ∷ more))

  own_left : others ≡ k.core.number ∷ all_but_last (m ∷ more)
  own_left = ap all_but_last own

  there : 1 ≤ times number k.numbers
  there = let one = hits_same number in let all = counted number in omega (arith, one, all)

  -- it is a number that a seat can have, and no seat's own
  fits : number < 64
  fits = elim (cases_lt number 64) [
    | inl lt ↦ lt
    | inr ge ↦ absurd (let none = t.below number ge in let inside = numbers_in number seats id k at in omega (arith, none, inside, there))
  ]

  not_own : (j : ℕ) (v : View) → get_elem? c.seats j ≡ some v → v.number ≢ number
  not_own j v e same = elim (cases_eq j id) [
    | inl here ↦ absurd (
        let mine : k.core.number ≡ number = ap (λ (x : Known). x.core.number) (some-injective k w.0 (sym at ∙ (ap (get_elem? seats) (sym here) ∙ w.1))) ∙ (ap (λ (x : View). x.number) w.2 ∙ same) in
        let first : 1 ≤ times number others = subst (λ (ns : List ℕ). 1 ≤ times number ns) (sym own_left) (subst (λ x. 1 ≤ times number (x ∷ all_but_last (m ∷ more))) (sym mine) (let one = hits_same number in omega (arith, one))) in
        omega (arith, first, counted number, hits_same number, t.once number fits, numbers_in number seats id k at)
        )
    | inr else ↦ absurd (
        let its : w.0.core.number ≡ number = ap (λ (x : View). x.number) w.2 ∙ same in
        let has : HasOwnNumber w.0 = (t.tied j w.0 w.1).own (omega (arith, its, fits)) in
        let first : 1 ≤ times number w.0.numbers = subst (λ (ns : List ℕ). 1 ≤ times number ns) (sym has) (subst (λ x. 1 ≤ times number (x ∷ drop 1 w.0.numbers)) (sym its) (let one = hits_same number in omega (arith, one))) in
        omega (arith, first, there, t.once number fits, numbers_of_two number seats j id w.0 k else w.1 at)
        )
  ]
    where
      w : (x : Known) × (get_elem? seats j ≡ some x) × (x.core ≡ v)
      w = seat_of_view seats j v (ap (λ (vs : List View). get_elem? vs j) (sym t.views) ∙ e)

  abbrev left : List Known
  left = set seats id (without_last k)

  abbrev after : Core
  after = split_off c number

  all_kept : (n : ℕ) → times n (all_numbers (left ++ split_from k ∷ [])) ≡ times n (all_numbers seats)
  all_kept n = omega (arith, numbers_last n left (split_from k), numbers_set n seats id k (without_last k) at, counted n)

  views : after.seats ≡ views_of (left ++ split_from k ∷ [])
  views = sym (
      views_last left (split_from k)
      ∙ ap (λ (vs : List View). vs ++ empty_view number ∷ []) (views_set seats id (without_last k) ∙ (set_again (views_of seats) id k.core (view_there seats id k at) ∙ sym t.views)))

  mine : IsTied c k
  mine = t.tied id k at

  tied : (j : ℕ) (x : Known) → get_elem? (left ++ split_from k ∷ []) j ≡ some x → IsTied after x
  tied j x e = elim (seat_last left (split_from k) x j e) [
    | inl old ↦ elim (at_set seats id j (without_last k) x old) [
      | inl here ↦ subst (IsTied after) here.1 (record {
        own = λ lt. own_from (without_last k) (all_but_last (m ∷ more)) own_left;
        opening = mine.opening;
        observed = mine.observed;
        spent = λ ge. absurd (omega (arith, ge, small));
      })
      | inr else ↦ tied_still c after x refl refl (t.tied j x else.1)
    ]
    | inr last ↦ subst (IsTied after) last (record {
      own = λ lt. refl;
      opening = λ lt. mine.opening small;
      observed = λ lt. mine.observed small;
      spent = λ ge. absurd (omega (arith, ge, fits));
    })
  ]

  pub split_table : IsTable opening words (left ++ split_from k ∷ []) after
  split_table = record {
    laid = laid_as words c after.seats t.laid;
    views = views;
    opened = t.opened;
    observed = t.observed;
    nodes = t.nodes;
    small = record { nodes = t.small.nodes; literals = t.small.literals; spent = spent_pins after (left ++ split_from k ∷ []) views tied };
    sound = splits_keep_sound c number t.sound (fits, not_own);
    tied = tied;
    once = λ n lt. all_kept n ∙ t.once n lt;
    below = λ n ge. all_kept n ∙ t.below n ge;
  }

pub splits_allowed : (opening : Opening) (id : ℕ) (k : Known) → IsActive k → 2 ≤ length k.numbers → Splits (IsCore opening) id k (without_last k) (split_from k)
splits_allowed opening id k active two s (c, t) at =
    let more = own_and_more k active.own two in
    (split_off c (last_of k.numbers), split_table opening s.words s.views c id k more.0 more.1 t at active.number more.2)

-- ---- what the two seats show by themselves
last_small : (x : ℕ) (more : List ℕ) → All (λ n. n < 64) (x ∷ more) → last_of (x ∷ more) < 64
last_small x [] h = h 0 0 (omega arith)
last_small x (y ∷ more) h = last_small y more (λ k d lt. h (suc k) d (omega arith))

pub left_active : (k : Known) → IsActive k → 2 ≤ length k.numbers → IsActive (without_last k)
left_active k a two = let more = own_and_more k a.own two in record { number = a.number; own = own_from (without_last k) (all_but_last (more.0 ∷ more.1)) (ap all_but_last more.2); within = a.within; shown = a.shown; constant = a.constant }

pub new_active : (k : Known) → IsActive k → AreNumbers k.numbers → IsActive (split_from k)
new_active k a numbers = record {
  number = subst (λ (ns : List ℕ). last_of ns < 64) (sym a.own) (last_small k.core.number (drop 1 k.numbers) (subst (All (λ n. n < 64)) a.own numbers.small));
  own = refl;
  within = λ n h. absurd (nothing n h);
  shown = empty_shown (length k.opening) (last_of k.numbers);
  constant = λ free. absurd (cc);
}
  where
    nothing : (n : ℕ) → (has_node [] n ≡ true) ⊎ MayPin (empty_view (last_of k.numbers)) n → ⊥
    nothing n (inl e) = absurd (cc)
    nothing n (inr (inl (inl (r, e, used)))) = absurd (cc)
    nothing n (inr (inl (inr (m, r, e, refers)))) = absurd (cc)
    nothing n (inr (inr e)) = absurd (cc)

-- the last of a list that grew by one, and what was before it
pub last_is : (xs : List ℕ) (x : ℕ) → last_of (xs ++ x ∷ []) ≡ x
last_is [] x = refl
last_is (y ∷ []) x = refl
last_is (y ∷ z ∷ zs) x = last_is (z ∷ zs) x

pub front_is : (xs : List ℕ) (x : ℕ) → all_but_last (xs ++ x ∷ []) ≡ xs
front_is [] x = refl
front_is (y ∷ []) x = refl
front_is (y ∷ z ∷ zs) x = ap (λ (l : List ℕ). y ∷ l) (front_is (z ∷ zs) x)

pub front_length : (xs : List ℕ) → 1 ≤ length xs → length (all_but_last xs) + 1 ≡ length xs
front_length [] one = absurd (omega arith)
front_length (x ∷ []) one = refl
front_length (x ∷ y ∷ ys) one = let rest = front_length (y ∷ ys) (omega arith) in omega (arith, rest)

-- Tables of the root and of the plan.
use Rattle.std.proofs.Common.{◌≡◌, ℕ, zero, suc, ◌+◌, ◌-◌, ◌*◌, ◌<◌, ◌≤◌, Bool, true, false, cond, List, [], ◌∷◌, ◌++◌, length, get_or, take, nat_eq, Option, Some, None, refl, sym, ap, ap₂, ◌∙◌, arith, eqb, ◌&&◌, replicate}
use Rattle.std.proofs.lemmas.List.{get_or_past, length-append, length-replicate}
use Rattle.std.specs.Int.{bit_at}
use Rattle.std.specs.Bool.{beq}
use Rattle.syn_truth.specs.declared.Truth.{Truth}
use Rattle.syn_truth.specs.Truth.{AtEach, digit, holds_at_each, minterm_of, value_of}
use Rattle.syn_truth.specs.Words.{value_in}
use Rattle.syn_truth.proofs.Each.{each_same, equal_test}
use Rattle.syn_decide.specs.Tasks.{Task}
use Rattle.syn_decide.specs.declared.decisions.NodeRow.{NodeRow}
use Rattle.syn_decide.specs.Functions.{has_none, in_circle, is_same_function, is_true, leaf_value, now_table, now_value, root_value, table_of, variables, was_table, was_value}
use Rattle.syn_decide.specs.Tables.{IsNodeTable}
use Rattle.syn_decide.specs.declared.decisions.Cone.{Cone}
use Rattle.syn_decide.specs.Walk.{row_among}
use Rattle.syn_decide.specs.Words.{IsNodeWord, value_after}
use Rattle.syn_decide.proofs.Choices.{choice_free, is_none, none_is_none, value_more}

-- tables of functions with the same values
pub table_of_same : (n : ℕ) (f g : List Bool → Bool) → AtEach n (λ xs. f xs ≡ g xs) → table_of n f ≡ table_of n g
table_of_same zero f g h = ap (λ b. b ∷ []) (h [] refl)
table_of_same (suc n) f g h =
    ap₂ (λ xs ys. xs ++ ys)
    (table_of_same n (λ xs. f (xs ++ false ∷ [])) (λ xs. g (xs ++ false ∷ [])) (λ xs l. h (xs ++ false ∷ []) (length-append xs (false ∷ []) ∙ omega (arith, l))))
    (table_of_same n (λ xs. f (xs ++ true ∷ [])) (λ xs. g (xs ++ true ∷ [])) (λ xs l. h (xs ++ true ∷ []) (length-append xs (true ∷ []) ∙ omega (arith, l))))

pub some_is_some : (b : Bool) (o : Option Bool) → Some b ≡ o → has_none o ≡ false
some_is_some b None e = absurd (cc)
some_is_some b (Some c) e = refl

-- What the tables of the plan and of the root tell.
pub record IsTold (t : Task) (inner : List NodeRow) (was now : Truth) : Type 0 where
  pub no_circle : in_circle t inner ≡ false
  pub same : (eqb was.vars now.vars && (eqb was.low now.low && eqb was.high now.high)) ≡ is_same_function t inner
  pub was_is : table_of was.vars (value_of was) ≡ was_table t
  pub now_is : table_of now.vars (value_of now) ≡ now_table t inner

pub tables_tell : (t : Task) (inner : List NodeRow) (vars : ℕ) (leaves : List ℕ) (was now : Truth)
    → vars ≡ variables t → leaves ≡ t.proposal.leaves → was.vars ≡ vars → now.vars ≡ vars
    → AtEach vars (λ xs. value_of was xs ≡ was_value t xs) → IsNodeTable vars leaves inner (length inner) t.proposal.root (Some now) → IsTold t inner was now
tables_tell t inner vars leaves was now e same_leaves was_vars now_vars was_is node = record {
  no_circle = some_is_some _ _ (root (replicate (variables t) false) (length-replicate (variables t) false));
  same = equal_test was now (was_vars ∙ sym now_vars)
      ∙ ap (λ n. holds_at_each n (λ xs. beq (value_of was xs) (value_of now xs))) (was_vars ∙ e)
      ∙ each_same (variables t) (λ xs. beq (value_of was xs) (value_of now xs)) (λ xs. beq (was_value t xs) (now_value t inner xs)) (λ xs l. ap₂ beq (was_is xs (l ∙ sym e)) (ap is_true (root xs l)));
  was_is = ap (λ n. table_of n (value_of was)) (was_vars ∙ e) ∙ table_of_same (variables t) (value_of was) (was_value t) (λ xs l. was_is xs (l ∙ sym e));
  now_is = ap (λ n. table_of n (value_of now)) (now_vars ∙ e) ∙ table_of_same (variables t) (value_of now) (now_value t inner) (λ xs l. ap is_true (root xs l));
}
  where
    root : (xs : List Bool) → length xs ≡ variables t → Some (value_of now xs) ≡ root_value t inner xs
    root xs l = node.values xs (l ∙ sym e) ∙ ap (λ ls. value_after inner ls xs (length inner) t.proposal.root) same_leaves

-- ---- the table of words
-- values of no variable are false
padded_at : (xs : List Bool) (k i : ℕ) → get_or (xs ++ replicate k false) i false ≡ get_or xs i false
padded_at [] zero i = refl
padded_at [] (suc k) zero = refl
padded_at [] (suc k) (suc i) = padded_at [] k i
padded_at (x ∷ xs) k zero = refl
padded_at (x ∷ xs) k (suc i) = padded_at xs k i

no_minterm : (i k : ℕ) → minterm_of (take i (replicate k false)) ≡ 0
no_minterm zero k = refl
no_minterm (suc i) zero = refl
no_minterm (suc i) (suc k) = let rest : minterm_of (take i (replicate k false)) ≡ 0 = no_minterm i k in omega (arith, rest)

padded_minterm : (i : ℕ) (xs : List Bool) (k : ℕ) → minterm_of (take i (xs ++ replicate k false)) ≡ minterm_of (take i xs)
padded_minterm zero xs k = refl
padded_minterm (suc i) [] k = no_minterm (suc i) k
padded_minterm (suc i) (x ∷ xs) k = ap (λ m. digit x + 2 * m) (padded_minterm i xs k)

-- without a word there is no value, whatever the leaves have
pub none_tells : (vars : ℕ) (c : Cone) (steps n : ℕ) → IsNodeWord c steps n None → IsNodeTable vars c.leaves.now c.inner.now steps n None
none_tells vars c steps n node = record {
  values = λ xs e. is_none (value_after c.inner.now c.leaves.now xs steps n)
      (choice_free (row_among c.inner.now) c.leaves.now (leaf_value c.leaves.now xs) (leaf_value c.leaves.now ys) steps n
      ∙ none_is_none (value_after c.inner.now c.leaves.now ys steps n) (node.values ys refl refl));
}
  where
    ys : List Bool
    ys = false ∷ false ∷ false ∷ false ∷ false ∷ false ∷ false ∷ c.last ∷ []

-- of at most seven variables the word for a false eighth one has all values
pub low_tells : (vars : ℕ) (c : Cone) (steps n low high : ℕ) (f : Truth) → vars < 8 → length c.leaves.now ≤ vars → c.last ≡ false
    → AtEach vars (λ xs. value_of f xs ≡ value_in (cond (get_or xs 7 false) high low) (take 7 xs)) → IsNodeWord c steps n (Some low) → IsNodeTable vars c.leaves.now c.inner.now steps n (Some f)
low_tells vars c steps n low high f few within last is node = record {
  values = λ xs e.
      let chosen : get_or xs 7 false ≡ false = get_or_past xs 7 false (omega (arith, e)) in
      let none : get_or (xs ++ replicate (8 - vars) false) 7 false ≡ c.last = padded_at xs (8 - vars) 7 ∙ chosen ∙ sym last in
      let count : length (xs ++ replicate (8 - vars) false) ≡ 8 = omega (arith, length-append xs (replicate (8 - vars) false), length-replicate (8 - vars) false, e) in
      ap Some (is xs e ∙ ap (λ b. value_in (cond b high low) (take 7 xs)) chosen ∙ sym (ap (λ m. nat_eq (bit_at low m) 1) (padded_minterm 7 xs (8 - vars))))
      ∙ node.values (xs ++ replicate (8 - vars) false) count none
      ∙ value_more c.inner.now c.leaves.now xs (replicate (8 - vars) false) steps n (omega (arith, e));
}

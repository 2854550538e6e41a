-- What building adds to gates: the old literals keep their values, and the new one has the value that was asked.
use Rattle.std.proofs.Common.{◌≡◌, ℕ, ◌+◌, ◌-◌, ◌*◌, ◌/◌, ◌%◌, ◌<◌, ◌≤◌, Bool, true, false, not, ◌&&◌, cond, eqb, List, [], ◌∷◌, ◌++◌, length, get_or, refl, sym, ap, ap₂, ◌∙◌, inl, inr, arith, length-append}
use Rattle.std.proofs.lemmas.Bool.{cases_eq, cond-true, cond-false, eq-eqb, ne_eqb}
use Rattle.std.proofs.lemmas.List.{get_or_append_left, get_or_at}
use Rattle.syn_plan.specs.declared.PLit.{PLit}
use Rattle.syn_plan.specs.Gates.{index_of, literal_of, complement_of, literal_value, values_after}
use Rattle.syn_plan.specs.Factoring.{Built, with_gate, complemented, with_third, with_choice}
use Rattle.syn_plan.proofs.Chains.{values_after-append, length-values_after}

-- ---- literals
pub literal_value-even : (values : List Bool) (k : ℕ) → k % 2 ≡ 0 → literal_value values (record { 0 = k }) ≡ get_or values (k / 2) false
literal_value-even values k e = cond-true (eqb (k % 2) 0) (get_or values (k / 2) false) (not (get_or values (k / 2) false)) (eq-eqb (k % 2) 0 e)

pub literal_value-odd : (values : List Bool) (k : ℕ) → (k % 2 ≡ 0 → ⊥) → literal_value values (record { 0 = k }) ≡ not (get_or values (k / 2) false)
literal_value-odd values k e = cond-false (eqb (k % 2) 0) (get_or values (k / 2) false) (not (get_or values (k / 2) false)) (ne_eqb (k % 2) 0 e)

not-not : (b : Bool) → b ≡ not (not b)
not-not true = refl
not-not false = refl

module _ (values : List Bool) (l : PLit) where
  complement_even : l.0 % 2 ≡ 0 → (complement_of l).0 ≡ l.0 + 1
  complement_even e = cond-true (eqb (l.0 % 2) 0) (l.0 + 1) (l.0 - 1) (eq-eqb (l.0 % 2) 0 e)

  complement_odd : (l.0 % 2 ≡ 0 → ⊥) → (complement_of l).0 ≡ l.0 - 1
  complement_odd e = cond-false (eqb (l.0 % 2) 0) (l.0 + 1) (l.0 - 1) (ne_eqb (l.0 % 2) 0 e)

  pub index_of-complement_of : index_of (complement_of l) ≡ index_of l
  index_of-complement_of =
      elim (cases_eq (l.0 % 2) 0) [
        | inl e ↦ omega (arith, complement_even e)
        | inr e ↦ omega (arith, complement_odd e)
      ]

  pub literal_value-complement_of : literal_value values (complement_of l) ≡ not (literal_value values l)
  literal_value-complement_of =
      elim (cases_eq (l.0 % 2) 0) [
        | inl e ↦
            let odd : (complement_of l).0 % 2 ≡ 0 → ⊥ = omega (arith, complement_even e) in
            literal_value-odd values (complement_of l).0 odd
            ∙ ap (λ i. not (get_or values i false)) index_of-complement_of
            ∙ ap not (sym (literal_value-even values l.0 e))
        | inr e ↦
            let even : (complement_of l).0 % 2 ≡ 0 = omega (arith, complement_odd e) in
            literal_value-even values (complement_of l).0 even
            ∙ ap (λ i. get_or values i false) index_of-complement_of
            ∙ not-not (get_or values (index_of l) false)
            ∙ ap not (sym (literal_value-odd values l.0 e))
      ]

-- a literal sees only the value of its index
literal_value-at : (values others : List Bool) (l : PLit) → get_or values (index_of l) false ≡ get_or others (index_of l) false → literal_value values l ≡ literal_value others l
literal_value-at values others l e = ap (λ v. cond (eqb (l.0 % 2) 0) v (not v)) e

-- the first values stay
pub get_or-values_after : (values : List Bool) (gates : List (PLit × PLit)) (i : ℕ) → i < length values → get_or (values_after values gates) i false ≡ get_or values i false
get_or-values_after values [] i l = refl
get_or-values_after values (gate ∷ gates) i l =
    get_or-values_after (values ++ (literal_value values gate.0 && literal_value values gate.1) ∷ []) gates i
    (omega (arith, length-append values ((literal_value values gate.0 && literal_value values gate.1) ∷ [])))
    ∙ get_or_append_left values ((literal_value values gate.0 && literal_value values gate.1) ∷ []) false i l

-- ---- building
-- the value of a literal after some gates
abbrev pub after : List (PLit × PLit) → List Bool → PLit → Bool
after gates xs l = literal_value (values_after (false ∷ xs) gates) l

-- b is built from the gates by at most so many more, and computes f
pub record IsBuilt (n : ℕ) (gates : List (PLit × PLit)) (b : Built) (f : List Bool → Bool) (extra : ℕ) : Type 0 where
  pub longer : length gates ≤ length b.gates
  pub few : length b.gates ≤ length gates + extra
  pub there : index_of b.out < 1 + n + length b.gates
  pub kept : (l : PLit) → index_of l < 1 + n + length gates → (xs : List Bool) → length xs ≡ n → after b.gates xs l ≡ after gates xs l
  pub value : (xs : List Bool) → length xs ≡ n → after b.gates xs b.out ≡ f xs

module _ (n : ℕ) where
  pub literal_built : (gates : List (PLit × PLit)) (l : PLit) → index_of l < 1 + n + length gates → IsBuilt n gates (record { gates = gates; out = l }) (λ xs. after gates xs l) 0
  literal_built gates l h = record { longer = omega arith; few = omega arith; there = h; kept = λ k i xs e. refl; value = λ xs e. refl }

  pub complement_built : (gates : List (PLit × PLit)) (b : Built) (f : List Bool → Bool) (extra : ℕ) → IsBuilt n gates b f extra → IsBuilt n gates (complemented b) (λ xs. not (f xs)) extra
  complement_built gates b f extra h = record {
    longer = h.longer;
    few = h.few;
    there = omega (arith, h.there, index_of-complement_of [] b.out);
    kept = h.kept;
    value = λ xs e. literal_value-complement_of (values_after (false ∷ xs) b.gates) b.out ∙ ap not (h.value xs e);
  }

  pub built_then : (gates : List (PLit × PLit)) (b c : Built) (f g : List Bool → Bool) (extra more : ℕ) → IsBuilt n gates b f extra → IsBuilt n b.gates c g more → IsBuilt n gates c g (extra + more)
  built_then gates b c f g extra more h k = record {
    longer = omega (arith, h.longer, k.longer);
    few = omega (arith, h.few, k.few);
    there = k.there;
    kept = λ l i xs e. k.kept l (omega (arith, i, h.longer)) xs e ∙ h.kept l i xs e;
    value = k.value;
  }

  pub built_as : (gates : List (PLit × PLit)) (b : Built) (f g : List Bool → Bool) (extra more : ℕ) → IsBuilt n gates b f extra → ((xs : List Bool) → length xs ≡ n → f xs ≡ g xs) → extra ≤ more → IsBuilt n gates b g more
  built_as gates b f g extra more h e l = record {
    longer = h.longer;
    few = omega (arith, h.few, l);
    there = h.there;
    kept = h.kept;
    value = λ xs k. h.value xs k ∙ e xs k;
  }

  module _ (gates : List (PLit × PLit)) (a b : PLit) where
    one_more : (xs : List Bool) → values_after (false ∷ xs) (gates ++ (a, b) ∷ []) ≡ values_after (false ∷ xs) gates ++ (after gates xs a && after gates xs b) ∷ []
    one_more xs = values_after-append (false ∷ xs) gates ((a, b) ∷ [])

    width : (xs : List Bool) → length xs ≡ n → length (values_after (false ∷ xs) gates) ≡ 1 + n + length gates
    width xs e = length-values_after (false ∷ xs) gates ∙ omega (arith, e)

    pub gate_built : IsBuilt n gates (with_gate n gates a b) (λ xs. after gates xs a && after gates xs b) 1
    gate_built =
        let count : length (gates ++ (a, b) ∷ []) ≡ length gates + 1 = length-append gates ((a, b) ∷ []) in
        record {
          longer = omega (arith, count);
          few = omega (arith, count);
          there = omega (arith, count);
          kept = λ l i xs e.
              ap (λ values. literal_value values l) (one_more xs)
              ∙ literal_value-at (values_after (false ∷ xs) gates ++ (after gates xs a && after gates xs b) ∷ []) (values_after (false ∷ xs) gates) l
              (get_or_append_left (values_after (false ∷ xs) gates) ((after gates xs a && after gates xs b) ∷ []) false (index_of l) (omega (arith, width xs e, i)));
          value = λ xs e.
              ap (λ values. literal_value values (literal_of (1 + n + length gates))) (one_more xs)
              ∙ literal_value-even (values_after (false ∷ xs) gates ++ (after gates xs a && after gates xs b) ∷ []) (2 * (1 + n + length gates)) (omega arith)
              ∙ get_or_at (values_after (false ∷ xs) gates) (after gates xs a && after gates xs b) [] false ((2 * (1 + n + length gates)) / 2) (omega (arith, width xs e));
        }

-- ---- a choice by three gates
abbrev pub choice_of : Bool → Bool → Bool → Bool
choice_of x high low = not (not (x && high) && not (not x && low))

module _ (n : ℕ) (gates : List (PLit × PLit)) (x high low : PLit) (x_there : index_of x < 1 + n + length gates) (high_there : index_of high < 1 + n + length gates) (low_there : index_of low < 1 + n + length gates) where
  abbrev first : Built
  first = with_gate n gates x high

  abbrev second : Built
  second = with_gate n first.gates (complement_of x) low

  first_built : IsBuilt n gates first (λ xs. after gates xs x && after gates xs high) 1
  first_built = gate_built n gates x high

  second_built : IsBuilt n first.gates second (λ xs. after first.gates xs (complement_of x) && after first.gates xs low) 1
  second_built = gate_built n first.gates (complement_of x) low

  third_built : IsBuilt n second.gates (with_third n first second) (λ xs. not (after second.gates xs (complement_of first.out) && after second.gates xs (complement_of second.out))) 1
  third_built = complement_built n second.gates (with_gate n second.gates (complement_of first.out) (complement_of second.out)) _ 1 (gate_built n second.gates (complement_of first.out) (complement_of second.out))

  first_value : (xs : List Bool) → length xs ≡ n → after second.gates xs (complement_of first.out) ≡ not (after gates xs x && after gates xs high)
  first_value xs e =
      literal_value-complement_of (values_after (false ∷ xs) second.gates) first.out
      ∙ ap not (second_built.kept first.out first_built.there xs e ∙ first_built.value xs e)

  second_value : (xs : List Bool) → length xs ≡ n → after second.gates xs (complement_of second.out) ≡ not (not (after gates xs x) && after gates xs low)
  second_value xs e =
      literal_value-complement_of (values_after (false ∷ xs) second.gates) second.out
      ∙ ap not
      (second_built.value xs e
      ∙ ap₂ (λ a b. a && b)
      (literal_value-complement_of (values_after (false ∷ xs) first.gates) x ∙ ap not (first_built.kept x x_there xs e))
      (first_built.kept low low_there xs e))

  pub choice_built : IsBuilt n gates (with_choice n gates x high low) (λ xs. choice_of (after gates xs x) (after gates xs high) (after gates xs low)) 3
  choice_built =
      built_as n gates (with_choice n gates x high low) _ _ (1 + 1 + 1) 3
      (built_then n gates second (with_third n first second) _ _ (1 + 1) 1 (built_then n gates first second _ _ 1 1 first_built second_built) third_built)
      (λ xs e. ap₂ (λ a b. not (a && b)) (first_value xs e) (second_value xs e))
      (omega arith)

-- Which leaves fitted plans name.
use Rattle.std.proofs.Common.{ℕ, ◌+◌, ◌-◌, ◌<◌, ◌≤◌, ◌≡◌, ◌^◌, nat_lt, ◌&&◌, ◌||◌, Bool, true, false, eqb, List, [], ◌∷◌, map, get_or, refl, sym, ap, ◌∙◌, inl, inr, arith}
use Rattle.std.specs.Prelude.{◌==◌}
use Rattle.std.proofs.Math.ListN.{set}
use Rattle.std.proofs.lemmas.Bool.{cases_lt, and_parts, or_parts, or_from, ne_eqb, eqb-true, eqb-false, ltb-true, false≢true}
use Rattle.std.proofs.lemmas.List.{length-set, take-set-le}
use Rattle.syn_truth.specs.declared.Truth.{Truth}
use Rattle.syn_truth.specs.Truth.{AtEach, holds_at_each, minterm_of, value_of}
use Rattle.syn_truth.proofs.Each.{each_at}
use Rattle.syn_truth.proofs.Minterms.{minterm_below, values_at, length-values_at}
use Rattle.syn_plan.specs.declared.PLit.{PLit}
use Rattle.syn_plan.specs.declared.plan.Plan.{Plan}
use Rattle.syn_plan.specs.Gates.{index_of}
use Rattle.syn_plan.specs.Factoring.{Built, depends_on}
use Rattle.syn_plan.specs.Naming.{built_of, names, gates_name, built_names, NamesNeeded, DependsWithin, IsWithin}
use Rattle.syn_plan.proofs.Builds.{index_of-complement_of}
use Rattle.syn_plan.proofs.Covered.{unchanged, independent_from}
use Rattle.syn_plan.proofs.Named.{all_within}
use Rattle.syn_npn.specs.declared.Transform.{Transform}
use Rattle.syn_npn.specs.Images.{differ, inverse, is_permutation, read_at, value_at}
use Rattle.syn_npn.specs.Transforms.{IsCanon}
use Rattle.syn_npn.proofs.Computed.{every, every_at, permutation_at}
use Rattle.syn_npn.proofs.Imaging.{value_at-image_by}
use Rattle.syn_library.specs.Fitting.{fitted_built, fitted_gate, fitted_literal, fitted_out, leaf_literal}
use Rattle.syn_library.specs.Library.{function_of, IsNumberOf, NamesOwn}
use Rattle.syn_library.proofs.Leaves.{fitted_literal-above, fitted_literal-leaf, fitted_literal-zero}

-- ---- literals
-- the leaf that becomes leaf i is that of the variable at place i
abbrev comes_back : List ℕ → ℕ → Bool
comes_back perm k = get_or perm (get_or (inverse perm) k 0) 0 == k

comes_from : (perm : List ℕ) → is_permutation perm ≡ true → (k : ℕ) → k < 4 → get_or perm (get_or (inverse perm) k 0) 0 ≡ k
comes_from perm h k l = eqb-true _ k (every_at 4 (comes_back perm) (permutation_at (λ p. every 4 (comes_back p)) refl perm h) k l)

pub place-lt : (perm : List ℕ) → is_permutation perm ≡ true → (i : ℕ) → i < 4 → get_or perm i 0 < 4
place-lt perm h i l = ltb-true _ 4 (every_at 4 (λ i. nat_lt (get_or perm i 0) 4) (permutation_at (λ p. every 4 (λ i. nat_lt (get_or p i 0) 4)) refl perm h) i l)

module _ (perm : List ℕ) (flips : ℕ) (permutes : is_permutation perm ≡ true) (i : ℕ) (within : i < 4) where
  index_of-leaf : (l : PLit) (k : ℕ) → index_of (leaf_literal flips l k) ≡ 1 + k
  index_of-leaf l k = omega arith

  literal_spares : (l : PLit) → names (get_or perm i 0) l ≡ false → names i (fitted_literal perm flips l) ≡ false
  literal_spares l h =
      ne_eqb _ _ (λ e.
      elim (cases_lt (index_of l) 1) [
        | inl zero ↦ omega (arith, e, ap index_of (fitted_literal-zero perm flips l zero))
        | inr one ↦ elim (cases_lt 4 (index_of l)) [
          | inl above ↦ omega (arith, e, ap index_of (fitted_literal-above perm flips l above))
          | inr leaf ↦
              let back : ℕ = get_or (inverse perm) (index_of l - 1) 0 in
              let same : back ≡ i = omega (arith, e, ap index_of (fitted_literal-leaf perm flips l one leaf), index_of-leaf l back) in
              let from : get_or perm i 0 ≡ index_of l - 1 = ap (λ k. get_or perm k 0) (sym same) ∙ comes_from perm permutes (index_of l - 1) (omega arith) in
              eqb-false (index_of l) (1 + get_or perm i 0) h (omega (arith, from))
        ]
      ])

  gates_spare : (gates : List (PLit × PLit)) → gates_name (get_or perm i 0) gates ≡ false → gates_name i (map (fitted_gate perm flips) gates) ≡ false
  gates_spare [] h = refl
  gates_spare (gate ∷ gates) h =
      let parts = or_parts (names (get_or perm i 0) gate.0 || names (get_or perm i 0) gate.1) (gates_name (get_or perm i 0) gates) h in
      let both = or_parts (names (get_or perm i 0) gate.0) (names (get_or perm i 0) gate.1) parts.0 in
      or_from _ _ (or_from _ _ (literal_spares gate.0 both.0) (literal_spares gate.1 both.1)) (gates_spare gates parts.1)

  out_spares : (neg : Bool) (l : PLit) → names (get_or perm i 0) l ≡ false → names i (fitted_out perm flips neg l) ≡ false
  out_spares true l h = ap (λ k. eqb k (1 + i)) (index_of-complement_of [] (fitted_literal perm flips l)) ∙ literal_spares l h
  out_spares false l h = literal_spares l h

  pub built_spares : (neg : Bool) (b : Built) → built_names (get_or perm i 0) b ≡ false → (gates_name i (map (fitted_gate perm flips) b.gates) || names i (fitted_out perm flips neg b.out)) ≡ false
  built_spares neg b h =
      let parts = or_parts (gates_name (get_or perm i 0) b.gates) (names (get_or perm i 0) b.out) h in
      or_from _ _ (gates_spare b.gates parts.0) (out_spares neg b.out parts.1)

-- ---- the variable at place i of the class is variable i of the function
-- where the class's variable has the value v, the transform reads the function where variable i has the value v, or the other one where it is flipped
abbrev reads_one : List ℕ → ℕ → ℕ → Bool → List Bool → Bool
reads_one perm flips i v xs =
    read_at perm flips (minterm_of (set xs (get_or perm i 0) v)) == minterm_of (set (values_at 4 (read_at perm flips (minterm_of xs))) i (differ v (value_at flips i)))

abbrev reads_both : List ℕ → ℕ → ℕ → List Bool → Bool
reads_both perm flips i xs = reads_one perm flips i true xs && reads_one perm flips i false xs

reads_everywhere : (perm : List ℕ) → is_permutation perm ≡ true → every 16 (λ flips. every 4 (λ i. holds_at_each 4 (reads_both perm flips i))) ≡ true
unfolding read_at
reads_everywhere = permutation_at (λ perm. every 16 (λ flips. every 4 (λ i. holds_at_each 4 (reads_both perm flips i)))) refl

reads_at : (perm : List ℕ) (flips i : ℕ) → is_permutation perm ≡ true → flips < 16 → i < 4 → AtEach 4 (λ xs. reads_both perm flips i xs ≡ true)
reads_at perm flips i h k l =
    each_at 4 (reads_both perm flips i)
    (every_at 4 (λ j. holds_at_each 4 (reads_both perm flips j)) (every_at 16 (λ b. every 4 (λ j. holds_at_each 4 (reads_both perm b j))) (reads_everywhere perm h) flips k) i l)

either_way : (f : List Bool → Bool) (ys : List Bool) (i : ℕ) (b : Bool) → f (set ys i true) ≡ f (set ys i false) → f (set ys i (differ true b)) ≡ f (set ys i (differ false b))
either_way f ys i true e = sym e
either_way f ys i false e = e

class_value : (f class : ℕ) (t : Transform) → IsCanon f class t → AtEach 4 (λ xs. function_of class xs ≡ differ t.neg (value_at f (read_at t.perm t.flips (minterm_of xs))))
class_value f class t canon xs e =
    let below : minterm_of xs < 16 = omega (arith, minterm_below xs, ap (λ n. 2 ^ n) e) in
    ap (λ g. value_at g (minterm_of xs)) canon.image ∙ value_at-image_by t.perm t.flips t.neg f (minterm_of xs) below

pub class_free : (f class i : ℕ) (t : Transform) → IsCanon f class t → i < 4 → depends_on 4 (function_of f) i ≡ false → depends_on 4 (function_of class) (get_or t.perm i 0) ≡ false
class_free f class i t canon l d =
    independent_from 4 (function_of class) (get_or t.perm i 0)
    (λ xs e.
    let p : ℕ = get_or t.perm i 0 in
    let ys : List Bool = values_at 4 (read_at t.perm t.flips (minterm_of xs)) in
    let both = and_parts _ _ (reads_at t.perm t.flips i t.permutes t.few l xs e) in
    class_value f class t canon (set xs p true) (length-set xs p true ∙ e)
    ∙ ap (λ m. differ t.neg (value_at f m)) (eqb-true _ _ both.0)
    ∙ ap (differ t.neg) (either_way (function_of f) ys i (value_at t.flips i) (unchanged 4 (function_of f) i d ys (length-values_at 4 (read_at t.perm t.flips (minterm_of xs)))))
    ∙ sym (ap (λ m. differ t.neg (value_at f m)) (eqb-true _ _ both.1))
    ∙ sym (class_value f class t canon (set xs p false) (length-set xs p false ∙ e)))

pub fitted_own : (f class : ℕ) (t : Transform) (b : Built) → IsCanon f class t → NamesNeeded 4 (function_of class) b → NamesNeeded 4 (function_of f) (fitted_built t b)
fitted_own f class t b canon needed i l d =
    built_spares t.perm t.flips t.permutes i l t.neg b
    (needed (get_or t.perm i 0) (place-lt t.perm t.permutes i l) (class_free f class i t canon l d))

-- ---- the number of a table
number_free : (f : Truth) (function i : ℕ) → f.vars ≤ 4 → IsNumberOf function f → f.vars ≤ i → depends_on 4 (function_of function) i ≡ false
number_free f function i few is h =
    independent_from 4 (function_of function) i
    (λ xs e.
    is (set xs i true) (length-set xs i true ∙ e)
    ∙ ap (value_of f) (take-set-le f.vars xs i true h ∙ sym (take-set-le f.vars xs i false h))
    ∙ sym (is (set xs i false) (length-set xs i false ∙ e)))

number_depends : (f : Truth) (function : ℕ) → f.vars ≤ 4 → IsNumberOf function f → DependsWithin f.vars 4 (function_of function)
number_depends f function few is i l d =
    elim (cases_lt i f.vars) [
      | inl below ↦ below
      | inr behind ↦ absurd (false≢true (sym (number_free f function i few is behind) ∙ d))
    ]

pub own_within : (f : Truth) (function : ℕ) (p : Plan) → f.vars ≤ 4 → IsNumberOf function f → NamesOwn p function → IsWithin f.vars 4 (built_of p)
own_within f function p few is own = all_within f.vars 4 (function_of function) (built_of p) own (number_depends f function few is)

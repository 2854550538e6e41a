-- The deepest signal of a LUT net is observed.
use Rattle.std.proofs.Common.{replicate, ◌≡◌, ℕ, zero, suc, ◌+◌, ◌-◌, ◌<◌, ◌≤◌, max, nat_le, nat_lt, Bool, true, List, [], ◌∷◌, map, length, get_or, refl, sym, ap, ◌∙◌, inl, inr, arith}
use Rattle.std.specs.List.{list_all}
use Rattle.std.proofs.lemmas.Bool.{cases_lt, and_parts, and_from, leb-true, le-leb}
use Rattle.std.proofs.lemmas.List.{length-map, get_or-map}
use Rattle.syn_rows.specs.Rows.{node_of}
use Rattle.syn_rows.specs.Reach.{HasObserved}
use Rattle.syn_lutnet.specs.LutData.{lut_at, greatest, lut_depth, signal_depths, depth_in, is_input, IsClosed, DeepestIsObserved}
use Rattle.syn_lutnet.proofs.Folding.{below, In, IsLocal, length-luts, luts_kept, lut_step}
use Rattle.syn_lutnet.proofs.LutParts.{lut_parts}

-- the greatest of a list

pub greatest_map : (f : ℕ → ℕ) (xs : List ℕ) → greatest f xs ≡ greatest (λ d. d) (map f xs)
greatest_map f [] = refl
greatest_map f (x ∷ xs) = ap (max (f x)) (greatest_map f xs)

pub greatest_at : (f : ℕ → ℕ) (xs : List ℕ) (i d : ℕ) → i < length xs → f (get_or xs i d) ≤ greatest f xs
greatest_at f [] i d lt = absurd (omega arith)
greatest_at f (x ∷ xs) zero d lt = omega arith
greatest_at f (x ∷ xs) (suc i) d lt = omega (arith, greatest_at f xs i d (omega arith))

pub greatest_any : (xs : List ℕ) (i : ℕ) → get_or xs i 0 ≤ greatest (λ d. d) xs
greatest_any [] i = omega arith
greatest_any (x ∷ xs) zero = omega arith
greatest_any (x ∷ xs) (suc i) = omega (arith, greatest_any xs i)

pub greatest_le : (f : ℕ → ℕ) (xs : List ℕ) (bound : ℕ) → ((i : ℕ) → i < length xs → f (get_or xs i 0) ≤ bound) → greatest f xs ≤ bound
greatest_le f [] bound h = omega arith
greatest_le f (x ∷ xs) bound h = omega (arith, h 0 (omega arith), greatest_le f xs bound (λ i lt. h (suc i) (omega arith)))

abbrev pub all_zero : ℕ → List ℕ
all_zero n = replicate n 0

pub all_zero_at : (n m : ℕ) → get_or (all_zero n) m 0 ≡ 0
all_zero_at zero m = refl
all_zero_at (suc n) zero = refl
all_zero_at (suc n) (suc m) = all_zero_at n m

pub length-all_zero : (n : ℕ) → length (all_zero n) ≡ n
length-all_zero zero = refl
length-all_zero (suc n) = ap suc (length-all_zero n)

pub depth_local : IsLocal lut_depth
depth_local f g l e = ap (λ x. x + 1) (greatest_map f l.inputs ∙ ap (greatest (λ d. d)) e ∙ sym (greatest_map g l.inputs))

inputs_in : (n : ℕ) (is : List ℕ) → list_all (is_input n) is ≡ true → In n is
inputs_in n [] h = refl
inputs_in n (i ∷ is) h =
    let parts = and_parts (is_input n i) (list_all (is_input n) is) h in
    and_from (below n i) (list_all (below n) is) (and_parts (nat_le 1 i) (nat_lt i n) parts.0).1 (inputs_in n is parts.1)

pub deepest_is_observed : DeepestIsObserved
deepest_is_observed count luts lits net = omega (arith, low, high)
  where
    depths : List ℕ
    depths = signal_depths count luts

    top : ℕ
    top = greatest (depth_in depths) (map node_of lits)

    step_at : (j : ℕ) → j < length luts → depth_in depths (count + 1 + j) ≡ greatest (depth_in depths) (lut_at luts j).inputs + 1
    step_at j lt = lut_step lut_depth 0 depth_local (all_zero (suc count)) luts (count + 1 + j) j (omega (arith, length-all_zero count)) lt
        (inputs_in (count + 1 + j) (lut_at luts j).inputs (lut_parts (count + 1 + j) (lut_at luts j) (net.luts_fit j lt)).inside)

    set : ℕ → Bool
    set n = nat_le (depth_in depths n) top

    closed : IsClosed (count + 1) luts set
    closed j lt t i d inside =
        let whole = leb-true (depth_in depths (count + 1 + j)) top t in
        let here = step_at j lt in
        let leaf = greatest_at (depth_in depths) (lut_at luts j).inputs i d inside in
        le-leb (depth_in depths (get_or (lut_at luts j).inputs i d)) top (omega (arith, whole, here, leaf))

    seen : HasObserved lits set
    seen i d lt =
        let same = ap (depth_in depths) (get_or-map node_of lits i d 0 lt) in
        let high = greatest_at (depth_in depths) (map node_of lits) i 0 (omega (arith, lt, length-map lits node_of)) in
        le-leb (depth_in depths (node_of (get_or lits i d))) top (omega (arith, same, high))

    each_low : (i : ℕ) → i < length depths → get_or depths i 0 ≤ top
    each_low i lt = elim (cases_lt i (count + 1)) [
      | inl small ↦
          let here : get_or depths i 0 ≡ 0 = luts_kept lut_depth 0 (all_zero (suc count)) luts i 0 (omega (arith, small, length-all_zero count)) ∙ all_zero_at (suc count) i in
          omega (arith, here)
      | inr ge ↦
          let inside : i - (count + 1) < length luts = omega (arith, lt, ge, length-luts lut_depth 0 (all_zero (suc count)) luts, length-all_zero count) in
          let at : count + 1 + (i - (count + 1)) ≡ i = omega (arith, ge) in
          let same = ap (depth_in depths) at in
          let bounded = leb-true (depth_in depths (count + 1 + (i - (count + 1)))) top (net.reached (i - (count + 1)) inside set closed seen) in
          omega (arith, same, bounded)
    ]

    low : greatest (λ d. d) depths ≤ top
    low = greatest_le (λ d. d) depths top each_low

    high : top ≤ greatest (λ d. d) depths
    high = greatest_le (depth_in depths) (map node_of lits) (greatest (λ d. d) depths) (λ i lt. greatest_any depths (get_or (map node_of lits) i 0))

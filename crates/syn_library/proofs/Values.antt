-- The values of a fitted plan, gate by gate.
use Rattle.std.proofs.Common.{ℕ, suc, ◌+◌, ◌-◌, ◌*◌, ◌/◌, ◌%◌, ◌<◌, ◌≤◌, ◌≡◌, Bool, true, false, ◌&&◌, ltb, List, [], ◌∷◌, ◌++◌, map, refl, get_or, sym, ap, ap₂, ◌∙◌, arith, length, length-append, inl, inr, subst}
use Rattle.std.specs.Prelude.{◌==◌, if◌then◌else◌, not}
use Rattle.std.specs.Int.{bit_at}
use Rattle.std.proofs.lemmas.Bool.{and_parts, and_from, ltb-true, lt-ltb, cases_lt, cond-true, cond-false, cases_eq, eq-eqb, ne_eqb}
use Rattle.std.proofs.lemmas.Bool.Decides.{nat_tests}
use Rattle.std.proofs.lemmas.List.{get_or-map}
use Rattle.std.proofs.Math.ListN.{get_or-append}
use Rattle.std.proofs.Math.Seq.{get_or-append_seam}
use Rattle.std.proofs.lemmas.Nat.Bits.{bit_at-lt}
use Rattle.syn_plan.specs.declared.PLit.{PLit}
use Rattle.syn_plan.specs.Gates.{complement_of, in_order, index_of, literal_value, values_after}
use Rattle.syn_npn.specs.Images.{differ, inverse, is_permutation, value_at}
use Rattle.syn_library.specs.Fitting.{fitted_gate, fitted_leaves, fitted_literal}
use Rattle.syn_library.proofs.Leaves.{fitted_literal-above, fitted_literal-leaf, fitted_literal-zero, inverse-lt}

-- ---- signs
parity : (s b : ℕ) → b < 2 → ((s + b) % 2 == 0) ≡ (if b == 1 then not (s % 2 == 0) else (s % 2 == 0))
parity s b h = grind (arith, nat_tests)

signed_either : (even flip y : Bool) → (if (if flip then not even else even) then y else not y) ≡ (if even then differ flip y else not (differ flip y))
signed_either true true true = refl
signed_either true true false = refl
signed_either true false y = refl
signed_either false true true = refl
signed_either false true false = refl
signed_either false false y = refl

-- a flip of the sign is a flip of the value
signed : (s b : ℕ) (y : Bool) → b < 2 → (if (s + b) % 2 == 0 then y else not y) ≡ (if s % 2 == 0 then differ (b == 1) y else not (differ (b == 1) y))
signed s b y h = ap (λ t. if t then y else not y) (parity s b h) ∙ signed_either (s % 2 == 0) (b == 1) y

not_twice : (b : Bool) → not (not b) ≡ b
not_twice true = refl
not_twice false = refl

-- the value of the literal that is the number n
abbrev value_of_number : List Bool → ℕ → Bool
value_of_number vs n = if n % 2 == 0 then get_or vs (n / 2) false else not (get_or vs (n / 2) false)

value_of_number-even : (vs : List Bool) (n : ℕ) → n % 2 ≡ 0 → value_of_number vs n ≡ get_or vs (n / 2) false
value_of_number-even vs n h = cond-true (n % 2 == 0) _ _ (eq-eqb (n % 2) 0 h)

value_of_number-odd : (vs : List Bool) (n : ℕ) → n % 2 ≡ 1 → value_of_number vs n ≡ not (get_or vs (n / 2) false)
value_of_number-odd vs n h = cond-false (n % 2 == 0) _ _ (ne_eqb (n % 2) 0 (omega arith))

complement_value : (vs : List Bool) (n : ℕ) → value_of_number vs (if n % 2 == 0 then n + 1 else n - 1) ≡ not (value_of_number vs n)
complement_value vs n = elim (cases_eq (n % 2) 0) [
  | inl even ↦
      let up : (n + 1) / 2 ≡ n / 2 = omega arith in
      ap (value_of_number vs) (cond-true (n % 2 == 0) (n + 1) (n - 1) (eq-eqb (n % 2) 0 even))
      ∙ value_of_number-odd vs (n + 1) (omega arith)
      ∙ ap (λ k. not (get_or vs k false)) up
      ∙ sym (ap not (value_of_number-even vs n even))
  | inr odd ↦
      let down : (n - 1) / 2 ≡ n / 2 = omega arith in
      ap (value_of_number vs) (cond-false (n % 2 == 0) (n + 1) (n - 1) (ne_eqb (n % 2) 0 odd))
      ∙ value_of_number-even vs (n - 1) (omega arith)
      ∙ ap (λ k. get_or vs k false) down
      ∙ sym (ap not (value_of_number-odd vs n (omega arith)) ∙ not_twice (get_or vs (n / 2) false))
]

pub literal_value-complement : (vs : List Bool) (l : PLit) → literal_value vs (complement_of l) ≡ not (literal_value vs l)
literal_value-complement vs l = complement_value vs l.0

-- the value of a literal rests on its index alone
literal_value-along : (ws vs : List Bool) (l : PLit) → get_or ws (index_of l) false ≡ get_or vs (index_of l) false → literal_value ws l ≡ literal_value vs l
literal_value-along ws vs l e = ap (λ y. if l.0 % 2 == 0 then y else not y) e

literal_value-append : (vs : List Bool) (b : Bool) (l : PLit) → index_of l < length vs → literal_value (vs ++ b ∷ []) l ≡ literal_value vs l
literal_value-append vs b l h = literal_value-along (vs ++ b ∷ []) vs l (get_or-append vs (b ∷ []) false (index_of l) h)

-- the value of the literal of leaf i
leaf_value : (ys : List Bool) (i s b : ℕ) → value_of_number (false ∷ ys) (2 * (1 + i) + (s + b) % 2) ≡ (if (s + b) % 2 == 0 then get_or ys i false else not (get_or ys i false))
leaf_value ys i s b =
    let n = 2 * (1 + i) + (s + b) % 2 in
    let sign : n % 2 ≡ (s + b) % 2 = omega arith in
    let at : n / 2 ≡ suc i = omega arith in
    ap₂ (λ r k. if r == 0 then get_or (false ∷ ys) k false else not (get_or (false ∷ ys) k false)) sign at

module _ (perm : List ℕ) (flips : ℕ) (permutes : is_permutation perm ≡ true) where
  pub index_of-fitted : (n : ℕ) (l : PLit) → 5 ≤ n → index_of l < n → index_of (fitted_literal perm flips l) < n
  index_of-fitted n l h k = elim (cases_lt (index_of l) 1) [
    | inl zero ↦ omega (arith, ap index_of (fitted_literal-zero perm flips l zero))
    | inr one ↦ elim (cases_lt 4 (index_of l)) [
      | inl above ↦ omega (arith, ap index_of (fitted_literal-above perm flips l above))
      | inr leaf ↦
          let at = get_or (inverse perm) (index_of l - 1) 0 in
          omega (arith, ap index_of (fitted_literal-leaf perm flips l one leaf), inverse-lt perm permutes (index_of l - 1) (omega arith))
    ]
  ]

  pub in_order-fitted : (n : ℕ) (gates : List (PLit × PLit)) → 5 ≤ n → in_order n gates ≡ true → in_order n (map (fitted_gate perm flips) gates) ≡ true
  in_order-fitted n [] h o = refl
  in_order-fitted n (gate ∷ gates) h o =
      let parts = and_parts (ltb (index_of gate.0) n && ltb (index_of gate.1) n) (in_order (n + 1) gates) o in
      let both = and_parts (ltb (index_of gate.0) n) (ltb (index_of gate.1) n) parts.0 in
      let first = index_of-fitted n gate.0 h (ltb-true (index_of gate.0) n both.0) in
      let second = index_of-fitted n gate.1 h (ltb-true (index_of gate.1) n both.1) in
      and_from _ _ (and_from _ _ (lt-ltb _ n first) (lt-ltb _ n second)) (in_order-fitted (n + 1) gates (omega arith) parts.1)

  -- the values of the fitted plan and of the plan: each literal has its fitted one's value
  pub record IsAlike (ws vs : List Bool) : Type 0 where
    pub size : length ws ≡ length vs
    pub enough : 5 ≤ length vs
    pub each : (l : PLit) → index_of l < length vs → literal_value ws (fitted_literal perm flips l) ≡ literal_value vs l

  pub IsAlike-push : (ws vs : List Bool) (b : Bool) → IsAlike ws vs → IsAlike (ws ++ b ∷ []) (vs ++ b ∷ [])
  IsAlike-push ws vs b alike =
      let longer = length-append vs (b ∷ []) in
      record {
        size = omega (arith, length-append ws (b ∷ []), longer, alike.size);
        enough = omega (arith, longer, alike.enough);
        each = λ l h. elim (cases_lt (index_of l) (length vs)) [
          | inl old ↦
              literal_value-append ws b (fitted_literal perm flips l) (omega (arith, alike.size, index_of-fitted (length vs) l alike.enough old))
              ∙ alike.each l old
              ∙ sym (literal_value-append vs b l old)
          | inr new ↦
              let at : index_of l ≡ length vs = omega (arith, longer) in
              let there : index_of l ≡ length ws = omega (arith, at, alike.size) in
              ap (literal_value (ws ++ b ∷ [])) (fitted_literal-above perm flips l (omega (arith, at, alike.enough)))
              ∙ literal_value-along (ws ++ b ∷ []) (vs ++ b ∷ []) l
              (ap (λ k. get_or (ws ++ b ∷ []) k false) there ∙ get_or-append_seam ws b [] false
              ∙ sym (ap (λ k. get_or (vs ++ b ∷ []) k false) at ∙ get_or-append_seam vs b [] false))
        ];
      }

  pub values_after-fitted : (ws vs : List Bool) (gates : List (PLit × PLit)) → IsAlike ws vs → in_order (length vs) gates ≡ true → IsAlike (values_after ws (map (fitted_gate perm flips) gates)) (values_after vs gates)
  values_after-fitted ws vs [] alike o = alike
  values_after-fitted ws vs (gate ∷ gates) alike o =
      let parts = and_parts (ltb (index_of gate.0) (length vs) && ltb (index_of gate.1) (length vs)) (in_order (length vs + 1) gates) o in
      let both = and_parts (ltb (index_of gate.0) (length vs)) (ltb (index_of gate.1) (length vs)) parts.0 in
      let first = alike.each gate.0 (ltb-true (index_of gate.0) (length vs) both.0) in
      let second = alike.each gate.1 (ltb-true (index_of gate.1) (length vs) both.1) in
      let b = literal_value vs gate.0 && literal_value vs gate.1 in
      let same = ap₂ (λ x y. x && y) first second in
      let longer = length-append vs (b ∷ []) in
      let rest = values_after-fitted (ws ++ b ∷ []) (vs ++ b ∷ []) gates (IsAlike-push ws vs b alike) (ap (λ n. in_order n gates) longer ∙ parts.1) in
      subst (λ (x : Bool). IsAlike (values_after (ws ++ x ∷ []) (map (fitted_gate perm flips) gates)) (values_after (vs ++ b ∷ []) gates)) (sym same) rest

  -- four leaves, after the constant
  pub IsAlike-leaves : (ys : List Bool) → length ys ≡ 4 → IsAlike (false ∷ ys) (false ∷ fitted_leaves perm flips ys)
  IsAlike-leaves ys h = record {
    size = omega arith;
    enough = omega arith;
    each = λ l k. elim (cases_lt (index_of l) 1) [
      | inl zero ↦
          let at : index_of l ≡ 0 = omega arith in
          ap (literal_value (false ∷ ys)) (fitted_literal-zero perm flips l zero)
          ∙ literal_value-along (false ∷ ys) (false ∷ fitted_leaves perm flips ys) l
          (ap (λ n. get_or (false ∷ ys) n false) at ∙ sym (ap (λ n. get_or (false ∷ fitted_leaves perm flips ys) n false) at))
      | inr one ↦
          let i = get_or (inverse perm) (index_of l - 1) 0 in
          let at : index_of l ≡ suc (index_of l - 1) = omega arith in
          let leaf : index_of l ≤ 4 = omega arith in
          ap (literal_value (false ∷ ys)) (fitted_literal-leaf perm flips l one leaf)
          ∙ leaf_value ys i l.0 (bit_at flips i)
          ∙ signed l.0 (bit_at flips i) (get_or ys i false) (bit_at-lt flips i)
          ∙ sym (ap (λ y. if l.0 % 2 == 0 then y else not y)
          (ap (λ n. get_or (false ∷ fitted_leaves perm flips ys) n false) at
          ∙ get_or-map (λ j. differ (value_at flips j) (get_or ys j false)) (inverse perm) (index_of l - 1) 0 false (omega arith)))
    ];
  }

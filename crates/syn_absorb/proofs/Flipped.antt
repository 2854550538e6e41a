-- Values, literals and LUTs where some signals are complemented.
use Rattle.std.proofs.Common.{◌≡◌, ℕ, zero, suc, ◌+◌, ◌^◌, ◌<◌, ◌≤◌, nat_lt, not, Bool, true, false, List, [], ◌∷◌, ◌++◌, map, length, get_or, take, refl, sym, ap, ◌∙◌, subst, inl, inr, arith}
use Rattle.std.specs.List.{list_all}
use Rattle.std.proofs.lemmas.Bool.{cases_lt}
use Rattle.std.proofs.lemmas.List.{length-map, length-set, get_or_append_left, get_or_push, map-append}
use Rattle.syn_truth.specs.declared.Truth.{Truth}
use Rattle.syn_truth.specs.Truth.{AtEach, value_of}
use Rattle.syn_lutnet.specs.LutData.{Lut, lut_at, no_lut, lut_value, ones_of, ones_value}
use Rattle.syn_lutnet.proofs.Ones.{ones_give}
use Rattle.syn_lutnet.specs.declared.luts.Lut as code
use Rattle.syn_lutnet.specs.Data.{lut_data, luts_data}
use Rattle.syn_absorb.specs.Flips.{xor, xor_at, xor_list, IsFlipped}

pub xor_xor : (a b : Bool) → xor a (xor a b) ≡ b
xor_xor true true = refl
xor_xor true false = refl
xor_xor false b = refl

pub length-xor_at : (i : ℕ) (f : Bool) (xs : List Bool) → length (xor_at i f xs) ≡ length xs
length-xor_at i true xs = length-set xs i (not (get_or xs i false))
length-xor_at i false xs = refl

xor_first : (f x : Bool) (xs : List Bool) → xor_at 0 f (x ∷ xs) ≡ xor f x ∷ xs
xor_first true x xs = refl
xor_first false x xs = refl

xor_next : (i : ℕ) (f x : Bool) (xs : List Bool) → xor_at (suc i) f (x ∷ xs) ≡ x ∷ xor_at i f xs
xor_next i true x xs = refl
xor_next i false x xs = refl

-- one place more
pub xor_list_take : (i : ℕ) (fs xs : List Bool) → i < length fs → i < length xs → xor_list (take (suc i) fs) xs ≡ xor_list (take i fs) (xor_at i (get_or fs i false) xs)
xor_list_take i [] xs lt less = absurd (omega (arith, lt))
xor_list_take i (f ∷ fs) [] lt less = absurd (omega (arith, less))
xor_list_take zero (f ∷ fs) (x ∷ xs) lt less = sym (xor_first f x xs)
xor_list_take (suc i) (f ∷ fs) (x ∷ xs) lt less =
    ap (λ (ys : List Bool). xor f x ∷ ys) (xor_list_take i fs xs (omega (arith, lt)) (omega (arith, less)))
    ∙ sym (ap (xor_list (f ∷ take i fs)) (xor_next i (get_or fs i false) x xs))

pub xor_list_map : (f g : ℕ → Bool) (ns : List ℕ) → xor_list (map f ns) (map g ns) ≡ map (λ n. xor (f n) (g n)) ns
xor_list_map f g [] = refl
xor_list_map f g (n ∷ ns) = ap (λ (ys : List Bool). xor (f n) (g n) ∷ ys) (xor_list_map f g ns)

pub take_all : (fs : List Bool) (k : ℕ) → length fs ≤ k → take k fs ≡ fs
take_all [] zero le = refl
take_all [] (suc k) le = refl
take_all (f ∷ fs) zero le = absurd (omega (arith, le))
take_all (f ∷ fs) (suc k) le = ap (λ (ys : List Bool). f ∷ ys) (take_all fs k (omega (arith, le)))

-- one variable more
pub flips_step : (fs : List Bool) (t t1 t2 : Truth) (i place : ℕ) (f : Bool) → place ≡ i → f ≡ get_or fs i false → i < length fs → t.vars ≡ length fs → t1.vars ≡ t.vars
    → AtEach t1.vars (λ xs. value_of t2 xs ≡ value_of t1 (xor_at place f xs)) → AtEach t.vars (λ xs. value_of t1 xs ≡ value_of t (xor_list (take i fs) xs))
    → AtEach t.vars (λ xs. value_of t2 xs ≡ value_of t (xor_list (take (i + 1) fs) xs))
flips_step fs t t1 t2 i place f place_is at lt vars same step before xs e =
    let next : suc i ≡ i + 1 = omega arith in
    step xs (e ∙ sym same)
    ∙ ap (λ p. value_of t1 (xor_at p f xs)) place_is
    ∙ before (xor_at i f xs) (length-xor_at i f xs ∙ e)
    ∙ ap (λ b. value_of t (xor_list (take i fs) (xor_at i b xs))) at
    ∙ ap (value_of t) (sym (xor_list_take i fs xs lt (omega (arith, lt, vars, e))))
    ∙ ap (λ k. value_of t (xor_list (take k fs) xs)) next

abbrev lut : List ℕ → List ℕ → Lut
lut inputs ones = record { inputs = inputs; ones = ones }

-- the LUT of a table whose inputs are complemented, and it too
pub flipped_is : (flip : ℕ → Bool) (n : ℕ) (inputs copied : List ℕ) (t t1 t2 : Truth) → t.vars ≡ length inputs → copied ≡ inputs → t1.vars ≡ t.vars → AtEach t.vars (λ xs. value_of t1 xs ≡ value_of t (xor_list (map flip inputs) xs))
    → t2.vars ≡ t1.vars → AtEach t1.vars (λ xs. value_of t2 xs ≡ xor (flip n) (value_of t1 xs))
    → IsFlipped flip n (record { inputs = inputs; ones = ones_of t }) (record { inputs = copied; ones = ones_of t2 })
flipped_is flip n inputs copied t t1 t2 vars same vars1 inside vars2 outside = record {
  inputs = same;
  value = value;
  rise = (ones_give t2).rise;
  small = subst (λ k. list_all (λ m. nat_lt m (2 ^ k)) (ones_of t2) ≡ true) (vars2 ∙ vars1 ∙ vars ∙ sym (ap (λ (is : List ℕ). length is) same)) (ones_give t2).small;
}
  where
    value : (v : ℕ → Bool) → lut_value v (lut copied (ones_of t2)) ≡ xor (flip n) (lut_value (λ m. xor (flip m) (v m)) (lut inputs (ones_of t)))
    value v =
        let long = length-map inputs v in
        let longer = length-map inputs (λ m. xor (flip m) (v m)) in
        ap (λ (is : List ℕ). ones_value (ones_of t2) (map v is)) same
        ∙ (ones_give t2).values (map v inputs) (long ∙ sym (vars2 ∙ vars1 ∙ vars))
        ∙ outside (map v inputs) (long ∙ sym (vars1 ∙ vars))
        ∙ ap (xor (flip n)) (inside (map v inputs) (long ∙ sym vars)
        ∙ ap (value_of t) (xor_list_map flip v inputs)
        ∙ sym ((ones_give t).values (map (λ m. xor (flip m) (v m)) inputs) (longer ∙ sym vars)))

-- one LUT more
pub luts_pushed : (P : ℕ → Lut → Type 0) (done new : List code.Lut) (l : code.Lut) (i : ℕ) → new ≡ done ++ l ∷ [] → length done ≡ i → ((j : ℕ) → j < i → P j (lut_at (luts_data done) j)) → P i (lut_data l)
    → (j : ℕ) → j < i + 1 → P j (lut_at (luts_data new) j)
luts_pushed P done new l i e long each here j lt =
    subst (λ (ls : List code.Lut). P j (lut_at (luts_data ls) j)) (sym e)
    (subst (λ (ls : List Lut). P j (lut_at ls j)) (sym (map-append lut_data done (l ∷ [])))
    (elim (cases_lt j i) [
      | inl less ↦ subst (P j) (sym (get_or_append_left (luts_data done) (lut_data l ∷ []) no_lut j (omega (arith, less, long, length-map done lut_data)))) (each j less)
      | inr ge ↦
          let same : j ≡ i = omega (arith, lt, ge) in
          subst (P j) (sym (get_or_push (luts_data done) (lut_data l) no_lut j (omega (arith, same, long, length-map done lut_data)))) (subst (λ n. P n (lut_data l)) (sym same) here)
    ]))

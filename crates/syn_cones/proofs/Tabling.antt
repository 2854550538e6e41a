-- Tables of the nodes between a root and the leaves of a cut.
use Rattle.std.proofs.Common.{◌≡◌, ℕ, ◌<◌, nat_eq, Bool, true, false, List, [], ◌∷◌, ◌++◌, length, map, refl, sym, ◌∙◌, subst, inl, inr, arith}
use Rattle.std.proofs.lemmas.Bool.{and_parts, and_from, or_cases, both_ways, false_from_ne_true, cases_lt}
use Rattle.std.proofs.lemmas.List.{length-append, get_or_append_left, get_or_push}
use Rattle.syn_rows.specs.declared.Row.{Row}
use Rattle.syn_truth.specs.declared.Truth.{Truth}
use Rattle.syn_truth.specs.Truth.{value_of}
use Rattle.syn_rows.specs.Nodes.{has_node}
use Rattle.syn_cones.specs.Cones.{is_end, LeadsTo, IsCut, IsFunctionOf}
use Rattle.syn_cones.specs.Walk.{AreFunctions, FitsInside, TablesAgree, have_vars}
use Rattle.syn_rows.proofs.Nodes.{node_same}
use Rattle.syn_cones.proofs.Walking.{cut_led}

-- a node that is led to and isn't a leaf is no end of a path
no_end : (rows : List Row) (leaves : List ℕ) (root : ℕ) (path : List ℕ) (n : ℕ) → IsCut rows leaves root → LeadsTo rows leaves root path n → has_node leaves n ≡ false → is_end rows n ≡ false
no_end rows leaves root path n cut led f =
    false_from_ne_true (is_end rows n) (λ h. elim (or_cases (has_node leaves n) false (cut_led rows leaves root path n cut led [] h)) [
      | inl t ↦ both_ways (has_node leaves n) f t
      | inr z ↦ both_ways false refl z
    ])

pub function_from : (rows : List Row) (leaves : List ℕ) (root : ℕ) (nodes : List ℕ) (tables : List Truth) (n : ℕ) (t : Truth) (path : List ℕ) → AreFunctions rows leaves root nodes tables → IsCut rows leaves root → LeadsTo rows leaves root path n
    → t.vars ≡ length leaves → ((v : ℕ → Bool) (xs : List Bool) → map v leaves ≡ xs → TablesAgree v xs nodes tables → FitsInside rows leaves v n → v n ≡ value_of t xs) → IsFunctionOf rows leaves root n t
function_from rows leaves root nodes tables n t path f cut led vars values = record {
  vars = vars;
  values = λ xs len v fits at. values v xs at (λ i u lt e. (f.each i u lt e).values xs len v fits at) (λ leaf. (no_end rows leaves root path n cut led leaf, fits n path led leaf));
}

pub functions_on : (rows : List Row) (leaves : List ℕ) (root : ℕ) (nodes : List ℕ) (tables : List Truth) (n : ℕ) (t : Truth) → AreFunctions rows leaves root nodes tables → IsFunctionOf rows leaves root n t
    → AreFunctions rows leaves root (nodes ++ n ∷ []) (tables ++ t ∷ [])
functions_on rows leaves root nodes tables n t f new = record {
  count = let a = length-append tables (t ∷ []) in let b = length-append nodes (n ∷ []) in let c = f.count in omega (arith, a, b, c);
  each = λ i u lt e. let a = length-append nodes (n ∷ []) in let c = f.count in
      elim (cases_lt i (length nodes)) [
        | inl l ↦
            let inside : i < length tables = omega (arith, l, c) in
            subst (λ k. IsFunctionOf rows leaves root k u) (sym (get_or_append_left nodes (n ∷ []) 0 i l)) (f.each i u l (sym (get_or_append_left tables (t ∷ []) u i inside) ∙ e))
        | inr g ↦
            let at : length nodes ≡ i = omega (arith, a, g, lt) in
            let there : length tables ≡ i = omega (arith, at, c) in
            let same : t ≡ u = sym (get_or_push tables t u i there) ∙ e in
            subst (λ k. IsFunctionOf rows leaves root k u) (sym (get_or_push nodes n 0 i at)) (subst (IsFunctionOf rows leaves root n) same new)
      ];
}

pub vars_on : (vars : ℕ) (tables : List Truth) (t : Truth) → have_vars vars tables ≡ true → t.vars ≡ vars → have_vars vars (tables ++ t ∷ []) ≡ true
vars_on vars [] t h e = and_from (nat_eq t.vars vars) true (subst (λ k. nat_eq k vars ≡ true) (sym e) (node_same vars)) refl
vars_on vars (u ∷ us) t h e = let parts = and_parts (nat_eq u.vars vars) (have_vars vars us) h in and_from (nat_eq u.vars vars) (have_vars vars (us ++ t ∷ [])) parts.0 (vars_on vars us t parts.1 e)

-- Cuts by fan-ins.
use Rattle.std.proofs.Common.{◌≡◌, ◌≢◌, ℕ, zero, suc, nat_eq, Bool, true, false, List, [], ◌∷◌, refl, sym, ap, ◌∙◌, subst, inl, inr, ◌⊎◌}
use Rattle.std.specs.List.{list_any}
use Rattle.std.proofs.lemmas.Bool.{cases_eq, or_cases, or_left, or_right, both_ways}
use Rattle.syn_rows.specs.declared.Lit.{Lit}
use Rattle.syn_rows.specs.declared.Row.{Row}
use Rattle.syn_rows.specs.declared.Row.TheVariants.{And}
use Rattle.syn_rows.specs.Rows.{node_of, row_at, refs_of}
use Rattle.syn_rows.specs.Values.{Fits, is_open}
use Rattle.syn_rows.specs.Nodes.{has_node}
use Rattle.syn_cones.specs.Cones.{is_end, Refers, LeadsToSource, FitsAt}
use Rattle.syn_cones.specs.Laws.{FanInsAreCut, LeafMayBeReplaced, AllFitBetween}
use Rattle.syn_rows.proofs.Nodes.{has_here, has_one, same_node}
use Rattle.syn_cones.proofs.Walking.{refers_row}

-- an end's row is open
end_open : (rows : List Row) (n : ℕ) → is_end rows n ≡ true → is_open (row_at rows n) ≡ true
end_open rows zero h = absurd (both_ways false refl h)
end_open rows (suc n) h = h

-- an AND is no end of a path
pub and_no_end : (rows : List Row) (n : ℕ) (a b : Lit) → row_at rows n ≡ And a b → is_end rows n ≡ true → ⊥
and_no_end rows n a b e h = both_ways false refl (sym (ap is_open e) ∙ end_open rows n h)

-- what an AND refers to
pub and_refers : (rows : List Row) (n m : ℕ) (a b : Lit) → row_at rows n ≡ And a b → Refers rows n m → (node_of a ≡ m) ⊎ (node_of b ≡ m)
and_refers rows n m a b e r = elim (or_cases (nat_eq (node_of a) m) (has_node (node_of b ∷ []) m) (sym (ap (λ row. has_node (refs_of row) m) e) ∙ refers_row rows n m r)) [
  | inl s ↦ inl (same_node (node_of a) m s)
  | inr t ↦ inr (has_one (node_of b) m t)
]

-- a set of leaves that has those of a cut but one, and both fan-ins of that one
record Replaces (rows : List Row) (leaves after : List ℕ) (leaf : ℕ) (a b : Lit) : Type 0 where
  row : row_at rows leaf ≡ And a b
  keeps : (m : ℕ) → has_node leaves m ≡ true → m ≢ leaf → has_node after m ≡ true
  first : has_node after (node_of a) ≡ true
  second : has_node after (node_of b) ≡ true

-- a path from the replaced leaf meets a fan-in
fan_in_met : (rows : List Row) (leaves after : List ℕ) (leaf : ℕ) (a b : Lit) → Replaces rows leaves after leaf a b
    → (n : ℕ) (path : List ℕ) → LeadsToSource rows n path → row_at rows n ≡ And a b → list_any (has_node after) path ≡ true
fan_in_met rows leaves after leaf a b r n [] led row = absurd (and_no_end rows n a b row led)
fan_in_met rows leaves after leaf a b r n (m ∷ ms) led row = elim (and_refers rows n m a b row led.0) [
  | inl s ↦ or_left (has_node after m) (list_any (has_node after) ms) (subst (λ k. has_node after k ≡ true) s r.first)
  | inr t ↦ or_left (has_node after m) (list_any (has_node after) ms) (subst (λ k. has_node after k ≡ true) t r.second)
]

-- a path that begins at a leaf meets one of those afterwards
leaf_met : (rows : List Row) (leaves after : List ℕ) (leaf : ℕ) (a b : Lit) → Replaces rows leaves after leaf a b
    → (n : ℕ) (path : List ℕ) → LeadsToSource rows n path → has_node leaves n ≡ true → list_any (has_node after) (n ∷ path) ≡ true
leaf_met rows leaves after leaf a b r n path led here = elim (cases_eq n leaf) [
  | inr other ↦ or_left (has_node after n) (list_any (has_node after) path) (r.keeps n here other)
  | inl same ↦ or_right (has_node after n) (list_any (has_node after) path) (fan_in_met rows leaves after leaf a b r n path led (subst (λ k. row_at rows k ≡ And a b) (sym same) r.row))
]

-- a path that meets one of the leaves meets one of those afterwards
meets_on : (rows : List Row) (leaves after : List ℕ) (leaf : ℕ) (a b : Lit) → Replaces rows leaves after leaf a b
    → (n : ℕ) (path : List ℕ) → LeadsToSource rows n path → list_any (has_node leaves) (n ∷ path) ≡ true → list_any (has_node after) (n ∷ path) ≡ true
meets_on rows leaves after leaf a b r n [] led met = elim (or_cases (has_node leaves n) false met) [
  | inl here ↦ leaf_met rows leaves after leaf a b r n [] led here
  | inr none ↦ absurd (both_ways false refl none)
]
meets_on rows leaves after leaf a b r n (m ∷ ms) led met = elim (or_cases (has_node leaves n) (list_any (has_node leaves) (m ∷ ms)) met) [
  | inl here ↦ leaf_met rows leaves after leaf a b r n (m ∷ ms) led here
  | inr later ↦ or_right (has_node after n) (list_any (has_node after) (m ∷ ms)) (meets_on rows leaves after leaf a b r m ms led.1 later)
]

pub leaf_may_be_replaced : LeafMayBeReplaced
leaf_may_be_replaced rows leaves after root leaf a b cut e keeps first second path led =
    meets_on rows leaves after leaf a b (record { row = e; keeps = keeps; first = first; second = second }) root path led (cut path led)

pub fan_ins_are_cut : FanInsAreCut
fan_ins_are_cut rows n a b e path led = go path led
  where
    after : List ℕ
    after = node_of a ∷ node_of b ∷ []

    go : (path : List ℕ) → LeadsToSource rows n path → list_any (has_node after) (n ∷ path) ≡ true
    go [] led = absurd (and_no_end rows n a b e led)
    go (m ∷ ms) led = or_right (has_node after n) (list_any (has_node after) (m ∷ ms)) (or_left (has_node after m) (list_any (has_node after) ms) (elim (and_refers rows n m a b e led.0) [
      | inl s ↦ subst (λ k. has_node after k ≡ true) s (has_here (node_of a) (node_of b ∷ []))
      | inr t ↦ subst (λ k. has_node after k ≡ true) t (or_right (nat_eq (node_of a) (node_of b)) (has_node (node_of b ∷ []) (node_of b)) (has_here (node_of b) []))
    ]))

fits_at : (rows : List Row) (v : ℕ → Bool) → Fits rows v → (n : ℕ) → FitsAt rows v n
fits_at rows v fits zero = fits.constant
fits_at rows v fits (suc n) = fits.each (suc n)

pub all_fit_between : AllFitBetween
all_fit_between rows leaves root v fits n path led inner = fits_at rows v fits n

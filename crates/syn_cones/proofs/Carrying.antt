-- Functions over small cuts, carried from node to node.
use Rattle.std.proofs.Common.{◌≡◌, ℕ, ◌≤◌, Bool, true, false, List, [], ◌∷◌, length, map, refl, sym, ap, ◌∙◌, subst, inl, inr, arith}
use Rattle.std.proofs.lemmas.Bool.{both_ways, false_from_ne_true}
use Rattle.std.proofs.lemmas.List.{length-map}
use Rattle.syn_rows.specs.declared.Lit.{Lit}
use Rattle.syn_rows.specs.declared.Row.{Row}
use Rattle.syn_rows.specs.declared.Row.TheVariants.{And}
use Rattle.syn_rows.specs.Rows.{node_of, row_at, InOrder}
use Rattle.syn_rows.specs.Nodes.{has_node}
use Rattle.syn_truth.specs.Words.{value_in}
use Rattle.syn_cones.specs.CutTruth.{AreClear, IsCutFunction, IsFloor, IsMade}
use Rattle.syn_cones.specs.Cones.{LeadsTo}
use Rattle.syn_cones.specs.Laws.{FitsPastMore, HasNoInner}
use Rattle.syn_cones.specs.Walk.{has_all}
use Rattle.syn_cones.specs.Words.{IsWordOver}
use Rattle.syn_cones.specs.declared.carried.CutFunction.{CutFunction}
use Rattle.syn_cones.proofs.Swapping.{and_refers}
use Rattle.syn_cones.proofs.Walking.{all_has, led_below}

-- more leaves, none of them an inner node of the cone

-- a path past no leaf is one past none of more
led_past : (rows : List Row) (leaves more : List ℕ) (root : ℕ) (path : List ℕ) (n : ℕ) → HasNoInner rows leaves more root → LeadsTo rows leaves root path n → LeadsTo rows more root path n
led_past rows leaves more root [] n past led = led
led_past rows leaves more root (next ∷ path) n past led =
    (past root [] refl led.0, led.1, led_past rows leaves more next path n (λ m way on inner. past m (next ∷ way) (led.0, led.1, on) inner) led.2)

pub fits_past : FitsPastMore
fits_past rows leaves more root v past fits n path led inner = fits n path (led_past rows leaves more root path n past led) (past n path led inner)

-- leaves that are clear aren't inner nodes
clear_past : (rows : List Row) (leaves more : List ℕ) (root : ℕ) (f : CutFunction) → InOrder rows → IsFloor rows leaves root f.min_inner → AreClear f root leaves more → HasNoInner rows leaves more root
clear_past rows leaves more root f order min_inner clear n path led inner =
    false_from_ne_true (has_node more n) (λ has. elim (clear n has) [
      | inl leaf ↦ both_ways (has_node leaves n) inner leaf
      | inr other ↦ elim other [
        | inl low ↦ omega (arith, low, min_inner n path led inner)
        | inr high ↦ omega (arith, high, led_below rows leaves root path n order led)
      ]
    ])

no_leaf : (leaves more : List ℕ) (n : ℕ) → has_all more leaves ≡ true → has_node more n ≡ false → has_node leaves n ≡ false
no_leaf leaves more n has f = false_from_ne_true (has_node leaves n) (λ h. both_ways (has_node more n) f (all_has more leaves n has h))

-- fewer nodes are led to past more leaves
led_fewer : (rows : List Row) (leaves more : List ℕ) (root : ℕ) (path : List ℕ) (n : ℕ) → has_all more leaves ≡ true → LeadsTo rows more root path n → LeadsTo rows leaves root path n
led_fewer rows leaves more root [] n has led = led
led_fewer rows leaves more root (next ∷ path) n has led = (no_leaf leaves more root has led.0, led.1, led_fewer rows leaves more next path n has led.2)

-- the function over more leaves
pub over_more : (rows : List Row) (leaves more : List ℕ) (root : ℕ) (f g : CutFunction) → InOrder rows → IsMade f root leaves more g.word → g.min_inner ≡ f.min_inner → IsCutFunction rows leaves root f → IsCutFunction rows more root g
over_more rows leaves more root f g order made min_inner is = record {
  word = λ xs len v fits at.
      is.word (map v leaves) (length-map leaves v) v (fits_past rows leaves more root v (clear_past rows leaves more root f order is.min_inner made.clear) fits) refl
      ∙ sym (made.values v)
      ∙ ap (value_in g.word) at;
  min_inner = λ n path led inner. let low = is.min_inner n path (led_fewer rows leaves more root path n made.has led) (no_leaf leaves more n made.has inner) in omega (arith, low, min_inner);
}

-- the function of a leaf: no other node is led to
pub leaf_floor : (rows : List Row) (leaves : List ℕ) (n min_inner : ℕ) → has_node leaves n ≡ true → IsFloor rows leaves n min_inner
leaf_floor rows leaves n min_inner leaf m [] led inner = absurd (both_ways (has_node leaves m) inner (subst (λ k. has_node leaves k ≡ true) led leaf))
leaf_floor rows leaves n min_inner leaf m (next ∷ path) led inner = absurd (both_ways (has_node leaves n) led.0 leaf)

-- the floor of an AND
pub and_floor : (rows : List Row) (leaves : List ℕ) (n x y min_inner : ℕ) (a b : Lit) → row_at rows n ≡ And a b → IsFloor rows leaves (node_of a) x → IsFloor rows leaves (node_of b) y → min_inner ≤ n → min_inner ≤ x → min_inner ≤ y
    → IsFloor rows leaves n min_inner
and_floor rows leaves n x y min_inner a b row first second low left right m [] led inner = omega (arith, led, low)
and_floor rows leaves n x y min_inner a b row first second low left right m (next ∷ path) led inner = elim (and_refers rows n next a b row led.1) [
  | inl s ↦ let at = first m path (subst (λ k. LeadsTo rows leaves k path m) (sym s) led.2) inner in omega (arith, at, left)
  | inr t ↦ let at = second m path (subst (λ k. LeadsTo rows leaves k path m) (sym t) led.2) inner in omega (arith, at, right)
]

-- a word cut short
pub short_word : (rows : List Row) (leaves : List ℕ) (n word short : ℕ) → length leaves ≤ 4 → ((xs : List Bool) → length xs ≤ 4 → value_in short xs ≡ value_in word xs) → IsWordOver rows leaves n word → IsWordOver rows leaves n short
short_word rows leaves n word short few values is xs len v fits at = is xs len v fits at ∙ sym (values xs (omega (arith, few, len)))

-- No cut undercuts a label that paths bear out.
use Rattle.std.proofs.Common.{◌≡◌, ℕ, zero, suc, ◌+◌, ◌<◌, ◌≤◌, true, false, All, List, [], ◌∷◌, length, slice_index_or, refl, sym, subst, inl, inr, arith}
use Rattle.std.specs.List.{list_any}
use Rattle.std.proofs.lemmas.Bool.{both_ways, cases_Bool, false_from_ne_true, or_cases}
use Rattle.syn_rows.specs.declared.Row.{Row}
use Rattle.syn_rows.specs.Nodes.{has_node}
use Rattle.syn_rows.specs.Rows.{InOrder, refs_of, row_at}
use Rattle.syn_rows.specs.Reach.{is_and}
use Rattle.syn_cones.specs.Cones.{IsCut, LeadsTo, LeadsToSource, Refers}
use Rattle.syn_lutnet.specs.LutData.{greatest}
use Rattle.syn_paths.specs.Tops.{fan_in_label, IsInTop}
use Rattle.syn_flow.specs.Witness.{AreBorneOut, BorneOutBoundCuts, IsLabelOver, Shown}
use Rattle.syn_hashed.proofs.Orders.{hashed_in_order}
use Rattle.syn_cones.proofs.Walking.{refers_row}
use Rattle.syn_paths.proofs.Disjoint.{disjoint_meet}
use Rattle.syn_paths.proofs.Falling.{and_refs, cases_le, cut_below, greatest_is, greatest_over, path_meets, refers_below, way_falls}
use Rattle.syn_paths.proofs.Owned.{only_ands}

-- ANDs alone refer to other nodes
abbrev pub OnlyAndsRefer : List Row → Type 0
OnlyAndsRefer rows = (n m : ℕ) → Refers rows n m → is_and (row_at rows n) ≡ true

-- labels rise along references

pub fan_ins_low : (k : ℕ) (rows : List Row) (label : ℕ → ℕ) (shown : List Shown) (n p : ℕ) → IsLabelOver k rows label shown n p → p ≤ label n
fan_ins_low k rows label shown n zero h = omega arith
fan_ins_low k rows label shown n (suc p) (inl e) = omega (arith, e)
fan_ins_low k rows label shown n (suc p) (inr r) = omega (arith, r.0)

pub label_rises : (k : ℕ) (rows : List Row) (label : ℕ → ℕ) (shown : List Shown) → OnlyAndsRefer rows → AreBorneOut k rows label shown → (n m : ℕ) → Refers rows n m → label m ≤ label n
label_rises k rows label shown only out n m r =
    omega (arith, greatest_over label (refs_of (row_at rows n)) m (refers_row rows n m r), fan_ins_low k rows label shown n (fan_in_label rows label n) (out.ands n (only n m r)))

-- a path down

no_leaf : (label : ℕ → ℕ) (leaves : List ℕ) (level m : ℕ) → greatest label leaves < level → level ≤ label m → has_node leaves m ≡ false
no_leaf label leaves level m low high = false_from_ne_true (has_node leaves m) (λ t. absurd (omega (arith, low, high, greatest_over label leaves m t)))

-- a way down to a node of the level, and from there to a source: the whole leads to a source, and it meets no leaf before that node
way_on : (rows : List Row) (label : ℕ → ℕ) (leaves : List ℕ) (level : ℕ) → ((n m : ℕ) → Refers rows n m → label m ≤ label n) → greatest label leaves < level
    → (n : ℕ) (path : List ℕ) (m : ℕ) (rest : List ℕ) → level ≤ label m → LeadsTo rows [] n path m → LeadsToSource rows m rest
    → (whole : List ℕ) × LeadsToSource rows n whole × (list_any (has_node leaves) (n ∷ whole) ≡ true → list_any (has_node leaves) rest ≡ true)
way_on rows label leaves level rises low n [] m rest high e down = (
  rest,
  subst (λ x. LeadsToSource rows x rest) (sym e) down,
  λ met. elim (or_cases (has_node leaves n) (list_any (has_node leaves) rest) met) [
    | inl here ↦ absurd (both_ways (has_node leaves n) (no_leaf label leaves level n low (subst (λ x. level ≤ label x) (sym e) high)) here)
    | inr there ↦ there
  ],
)
way_on rows label leaves level rises low n (next ∷ path) m rest high way down =
    let on = way_on rows label leaves level rises low next path m rest high way.2 down in
    let top : level ≤ label n = omega (arith, high, way_falls rows label rises n (next ∷ path) m way) in (
      next ∷ on.0,
      (way.1, on.1),
      λ met. elim (or_cases (has_node leaves n) (list_any (has_node leaves) (next ∷ on.0)) met) [
        | inl here ↦ absurd (both_ways (has_node leaves n) (no_leaf label leaves level n low top) here)
        | inr there ↦ on.2 there
      ],
    )

-- each way down from the top of a node meets a leaf of a cut behind its first node, where the leaves have smaller labels
pub top_meets : (rows : List Row) (label : ℕ → ℕ) (leaves : List ℕ) (n level : ℕ) → ((x y : ℕ) → Refers rows x y → label y ≤ label x) → greatest label leaves < level → level ≤ label n → IsCut rows leaves n
    → (t : ℕ) (rest : List ℕ) → IsInTop rows label n level t → LeadsToSource rows t rest → list_any (has_node leaves) rest ≡ true
top_meets rows label leaves n level rises low high cut t rest (inl e) down =
    elim (or_cases (has_node leaves n) (list_any (has_node leaves) rest) (cut rest (subst (λ x. LeadsToSource rows x rest) e down))) [
      | inl here ↦ absurd (both_ways (has_node leaves n) (no_leaf label leaves level n low high) here)
      | inr there ↦ there
    ]
top_meets rows label leaves n level rises low high cut t rest (inr (at, (path, way))) down =
    let on = way_on rows label leaves level rises low n path t rest (omega (arith, at)) way down in
    on.2 (cut on.0 on.1)

abbrev Bound : List Row → (ℕ → ℕ) → ℕ → ℕ → Type 0
Bound rows label k n = (leaves : List ℕ) → is_and (row_at rows n) ≡ true → IsCut rows leaves n → length leaves ≤ k → label n ≤ greatest label leaves + 1

-- by what the label is over its fan-ins, where all smaller nodes are bound
step : (k : ℕ) (rows : List Row) (label : ℕ → ℕ) (shown : List Shown) → InOrder rows → OnlyAndsRefer rows → AreBorneOut k rows label shown
    → (n : ℕ) → ((m : ℕ) → m < n → Bound rows label k m) → (p : ℕ) → fan_in_label rows label n ≡ p → IsLabelOver k rows label shown n p → Bound rows label k n
step k rows label shown order only out n smaller zero is one leaves gate cut few = omega (arith, one)
step k rows label shown order only out n smaller (suc p) is (inl same) leaves gate cut few =
    elim (cases_Bool (has_node leaves n)) [
      | inl own ↦ omega (arith, greatest_over label leaves n own)
      | inr away ↦
          let found = greatest_is label (refs_of (row_at rows n)) p is in
          let r = and_refs rows n found.0 order gate found.1 in
          elim (cases_Bool (is_and (row_at rows found.0))) [
            | inl inner ↦ omega (arith, same, found.2, smaller found.0 (refers_below rows n found.0 order r) leaves inner (cut_below rows leaves n found.0 away r cut) few)
            | inr source ↦ absurd (omega (arith, found.2, out.others found.0 source))
          ]
    ]
step k rows label shown order only out n smaller (suc p) is (inr (rose, (lists, place, at, paths))) leaves gate cut few =
    elim (cases_le (suc p) (greatest label leaves)) [
      | inl high ↦ omega (arith, rose, high)
      | inr low ↦
          let rises = label_rises k rows label shown only out in
          let meets = top_meets rows label leaves n (suc p) rises low (omega (arith, rose)) cut in
          let all : All (λ path. list_any (has_node leaves) path ≡ true) lists = λ i d lt. path_meets rows leaves (IsInTop rows label n (suc p)) meets (slice_index_or lists i d) (paths.each i d lt) in
          absurd (omega (arith, few, paths.count_is, disjoint_meet lists leaves paths.once all))
    ]

bounded : (k : ℕ) (rows : List Row) (label : ℕ → ℕ) (shown : List Shown) → InOrder rows → OnlyAndsRefer rows → AreBorneOut k rows label shown → (limit n : ℕ) → n < limit → Bound rows label k n
bounded k rows label shown order only out zero n lt leaves gate cut few = absurd (omega (arith, lt))
bounded k rows label shown order only out (suc limit) n lt leaves gate cut few =
    step k rows label shown order only out n (λ m less. bounded k rows label shown order only out limit m (omega (arith, less, lt))) (fan_in_label rows label n) refl (out.ands n gate) leaves gate cut few

pub bound_cuts : BorneOutBoundCuts
bound_cuts k count rows label shown hashed out n leaves gate cut few =
    bounded k rows label shown (hashed_in_order count rows hashed) (only_ands count rows hashed) out (suc n) n (omega arith) leaves gate cut few

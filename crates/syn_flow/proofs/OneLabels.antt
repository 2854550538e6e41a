-- There is one labelling by flow.
use Rattle.std.proofs.Common.{◌≡◌, ℕ, zero, suc, ◌<◌, List, sym, ◌∙◌, subst, inl, inr, arith}
use Rattle.std.proofs.lemmas.Bool.{cases_Bool}
use Rattle.syn_rows.specs.declared.Row.{Row}
use Rattle.syn_rows.specs.Rows.{InOrder, row_at}
use Rattle.syn_rows.specs.Reach.{is_and}
use Rattle.syn_paths.specs.Tops.{fan_in_label}
use Rattle.syn_flow.specs.Labels.{AreFlowLabels, IsFlowLabel, OneFlowLabels}
use Rattle.syn_hashed.proofs.Orders.{hashed_in_order}
use Rattle.syn_flow.proofs.Agreeing.{agree_back, AgreeBelow, same_fan_in, same_outside}

same_by : (k : ℕ) (rows : List Row) (f g : ℕ → ℕ) (n p : ℕ) → InOrder rows → AgreeBelow n f g → IsFlowLabel k rows f n p → IsFlowLabel k rows g n p → f n ≡ g n
same_by k rows f g n zero order same a b = a ∙ sym b
same_by k rows f g n (suc p) order same (inl a) (inl b) = a.0 ∙ sym b.0
same_by k rows f g n (suc p) order same (inl (e, (leaves, cut, few))) (inr (d, none)) = absurd (omega (arith, few, none leaves (same_outside rows n (suc p) f g order same leaves cut)))
same_by k rows f g n (suc p) order same (inr (e, none)) (inl (d, (leaves, cut, few))) = absurd (omega (arith, few, none leaves (same_outside rows n (suc p) g f order (agree_back n f g same) leaves cut)))
same_by k rows f g n (suc p) order same (inr a) (inr b) = a.0 ∙ sym b.0

same_below : (k : ℕ) (rows : List Row) (f g : ℕ → ℕ) → InOrder rows → AreFlowLabels k rows f → AreFlowLabels k rows g → (limit n : ℕ) → n < limit → f n ≡ g n
same_below k rows f g order a b zero n lt = absurd (omega (arith, lt))
same_below k rows f g order a b (suc limit) n lt = elim (cases_Bool (is_and (row_at rows n))) [
  | inl gate ↦
      let same : AgreeBelow n f g = λ m less. same_below k rows f g order a b limit m (omega (arith, less, lt)) in
      same_by k rows f g n (fan_in_label rows f n) order same (a.ands n gate) (subst (IsFlowLabel k rows g n) (sym (same_fan_in rows n f g order gate same)) (b.ands n gate))
  | inr other ↦ a.others n other ∙ sym (b.others n other)
]

pub one_labels : OneFlowLabels
one_labels k count rows label other hashed a b n = same_below k rows label other (hashed_in_order count rows hashed) a b (suc n) n (omega arith)

-- The labels that are computed row by row are those that the rows give.
use Rattle.std.proofs.Common.{◌≡◌, ℕ, zero, suc, ◌+◌, ◌<◌, max, min, List, [], ◌∷◌, ◌++◌, length, get_or, refl, sym, ap, ap₂, ◌∙◌, subst, inl, inr, arith}
use Rattle.std.specs.List.{list_all, AllByRecursion}
use Rattle.std.proofs.lemmas.Bool.{cases_lt, and_parts, ltb-true}
use Rattle.std.proofs.lemmas.List.{length_push, get_or_append_left, get_or_push, get_or_past}
use Rattle.std.proofs.lemmas.List.Elements.{recursion_from_All}
use Rattle.syn_rows.specs.declared.Row.{Row}
use Rattle.syn_rows.specs.declared.Row.TheVariants.{Free, Source, And, Alias}
use Rattle.syn_rows.specs.Rows.{row_at, fold_rows}
use Rattle.syn_rows.proofs.Folds.{length-fold, fold_kept}
use Rattle.syn_lutnet.specs.LutData.{greatest}
use Rattle.syn_map.specs.Labels.{least, cuts_of, row_label, labels_of, label_of, LabelsAreLabels}
use Rattle.syn_map.proofs.Listed.{below, In, cuts_in}

-- a step that looks at smaller nodes alone
row_step : {A : Type 0} (step : (ℕ → A) → ℕ → Row → A) (d : A) (done : List A) (rows : List Row) (k i : ℕ) → k ≡ length done + i → i < length rows
    → ((f g : ℕ → A) → ((m : ℕ) → m < k → f m ≡ g m) → step f k (row_at rows i) ≡ step g k (row_at rows i))
    → get_or (fold_rows step d done rows) k d ≡ step (λ m. get_or (fold_rows step d done rows) m d) k (row_at rows i)
row_step step d done [] k i e lt local = absurd (omega arith)
row_step step d done (row ∷ rows) k zero e lt local =
    let x = step (λ n. get_or done n d) (length done) row in
    let long = length_push done x in
    let at : k ≡ length done = omega arith in
    fold_kept step d (done ++ x ∷ []) rows k d (omega (arith, long)) ∙ get_or_push done x d k (sym at)
    ∙ ap (λ n. step (λ m. get_or done m d) n row) (sym at)
    ∙ local (λ m. get_or done m d) (λ m. get_or (fold_rows step d (done ++ x ∷ []) rows) m d)
    (λ m l. sym (fold_kept step d (done ++ x ∷ []) rows m d (omega (arith, long)) ∙ get_or_append_left done (x ∷ []) d m (omega arith)))
row_step step d done (row ∷ rows) k (suc i) e lt local =
    let x = step (λ n. get_or done n d) (length done) row in
    row_step step d (done ++ x ∷ []) rows k i (omega (arith, length_push done x)) (omega arith) local

pub greatest_same : (f g : ℕ → ℕ) (n : ℕ) → ((m : ℕ) → m < n → f m ≡ g m) → (c : List ℕ) → In n c → greatest f c ≡ greatest g c
greatest_same f g n same [] h = refl
greatest_same f g n same (x ∷ xs) h =
    let parts = and_parts (below n x) (list_all (below n) xs) h in
    ap₂ max (same x (ltb-true x n parts.0)) (greatest_same f g n same xs parts.1)

least_same : (f g : ℕ → ℕ) (n : ℕ) → ((m : ℕ) → m < n → f m ≡ g m) → (cuts : List (List ℕ)) → AllByRecursion (In n) cuts → least f cuts ≡ least g cuts
least_same f g n same [] h = refl
least_same f g n same (c ∷ []) h = greatest_same f g n same c h.0
least_same f g n same (c ∷ d ∷ ds) h = ap₂ min (greatest_same f g n same c h.0) (least_same f g n same (d ∷ ds) h.1)

row_same : (cuts : ℕ → List (List ℕ)) (n : ℕ) → AllByRecursion (In n) (cuts n) → (row : Row) (f g : ℕ → ℕ) → ((m : ℕ) → m < n → f m ≡ g m) → row_label cuts f n row ≡ row_label cuts g n row
row_same cuts n h Free f g same = refl
row_same cuts n h Source f g same = refl
row_same cuts n h (And a b) f g same = ap (λ k. k + 1) (least_same f g n same (cuts n) h)
row_same cuts n h (Alias a) f g same = refl

pub labels_are : LabelsAreLabels
labels_are k count rows hashed n = elim (cases_lt n (length rows)) [
  | inl lt ↦ row_step (row_label (cuts_of k rows)) 0 [] rows n n (omega arith) lt
      (λ f g same. row_same (cuts_of k rows) n (recursion_from_All (In n) (cuts_of k rows n) (cuts_in count k rows hashed n lt)) (row_at rows n) f g same)
  | inr past ↦
      let long = length-fold (row_label (cuts_of k rows)) 0 [] rows in
      get_or_past (labels_of k rows) n 0 (omega (arith, long, past)) ∙ subst (λ r. 0 ≡ row_label (cuts_of k rows) (label_of k rows) n r) (sym (get_or_past rows n Free past)) refl
]

-- The least label and the first cut that gives it, cut by cut; labels row by row.
use Rattle.std.proofs.Common.{◌≡◌, ℕ, ◌+◌, ◌<◌, ◌≤◌, min, nat_eq, true, false, All, List, [], ◌∷◌, ◌++◌, length, get_or, drop, refl, sym, ap, ap₂, ◌∙◌, arith}
use Rattle.std.proofs.lemmas.Bool.{cond-true, cond-false}
use Rattle.arrayvec.specs.ArrayVec.{ArrayVec}
use Rattle.std.proofs.lemmas.List.{drop_more}
use Rattle.syn_rows.specs.declared.Row.{Row}
use Rattle.syn_rows.specs.declared.Row.TheVariants.{Free}
use Rattle.syn_rows.specs.Levels.{level_in}
use Rattle.syn_rows.specs.Rows.{fold_rows, row_at}
use Rattle.syn_rows.proofs.Folds.{length-fold}
use Rattle.syn_cuts.specs.Cuts.{listed_cuts, row_cuts}
use Rattle.syn_cuts.specs.Leaves.{leaves, leaves_of}
use Rattle.syn_cuts.specs.Lists.{nontrivial}
use Rattle.syn_cuts.proofs.Putting.{drop_leaves}
use Rattle.syn_lutnet.specs.LutData.{greatest}
use Rattle.syn_lutnet.proofs.LutDepths.{depths_low}
use Rattle.syn_map.specs.Labels.{choice, chosen, first_at, labels_of, least, row_label}

-- the least of a label and of what cuts give
abbrev pub least_after : (ℕ → ℕ) → ℕ → List (List ℕ) → ℕ
least_after label m [] = m
least_after label m (c ∷ cs) = least_after label (min m (greatest label c)) cs

min_after : (label : ℕ → ℕ) (m x : ℕ) (cs : List (List ℕ)) → min m (least_after label x cs) ≡ least_after label (min m x) cs
min_after label m x [] = refl
min_after label m x (c ∷ cs) =
    let same : min m (min x (greatest label c)) ≡ min (min m x) (greatest label c) = omega arith in
    min_after label m (min x (greatest label c)) cs ∙ ap (λ y. least_after label y cs) same

pub least_from : (label : ℕ → ℕ) (c : List ℕ) (cs : List (List ℕ)) → least_after label (greatest label c) cs ≡ least label (c ∷ cs)
least_from label c [] = refl
least_from label c (d ∷ ds) = sym (min_after label (greatest label c) (greatest label d) ds) ∙ ap (min (greatest label c)) (least_from label d ds)

-- one cut more
pub least_next : (label : ℕ → ℕ) (cuts : List (ArrayVec ℕ)) (i : ℕ) (c : ArrayVec ℕ) (m g n all : ℕ) → i < length cuts → c ≡ get_or cuts i c → g ≡ greatest label (leaves c) → n ≡ min m g
    → least_after label m (drop i (leaves_of cuts)) ≡ all → least_after label n (drop (i + 1) (leaves_of cuts)) ≡ all
least_next label cuts i c m g n all lt e is same h =
    ap (λ x. least_after label x (drop (i + 1) (leaves_of cuts))) (same ∙ ap (min m) is) ∙ sym (ap (least_after label m) (drop_leaves cuts i c lt e)) ∙ h

pub first_here : (level : ℕ) (label : ℕ → ℕ) (cuts : List (ArrayVec ℕ)) (i : ℕ) (c : ArrayVec ℕ) (all : List ℕ) → i < length cuts → c ≡ get_or cuts i c → nat_eq (greatest label (leaves c)) level ≡ true
    → first_at level label (drop i (leaves_of cuts)) ≡ all → leaves c ≡ all
first_here level label cuts i c all lt e same h =
    sym (ap (first_at level label) (drop_leaves cuts i c lt e) ∙ cond-true (nat_eq (greatest label (leaves c)) level) (leaves c) (first_at level label (drop (i + 1) (leaves_of cuts))) same) ∙ h

pub first_next : (level : ℕ) (label : ℕ → ℕ) (cuts : List (ArrayVec ℕ)) (i : ℕ) (c : ArrayVec ℕ) (all : List ℕ) → i < length cuts → c ≡ get_or cuts i c → nat_eq (greatest label (leaves c)) level ≡ false
    → first_at level label (drop i (leaves_of cuts)) ≡ all → first_at level label (drop (i + 1) (leaves_of cuts)) ≡ all
first_next level label cuts i c all lt e other h =
    sym (ap (first_at level label) (drop_leaves cuts i c lt e) ∙ cond-false (nat_eq (greatest label (leaves c)) level) (leaves c) (first_at level label (drop (i + 1) (leaves_of cuts))) other) ∙ h

-- no label is greater than the number of nodes that have one, and so the least over cuts is not
pub least_low : (labels : List ℕ) (cuts : List (List ℕ)) → All (λ d. d ≤ length labels) labels → least (level_in labels) cuts ≤ length labels
least_low labels [] low = omega arith
least_low labels (c ∷ []) low = depths_low labels c low
least_low labels (c ∷ d ∷ ds) low = omega (arith, depths_low labels c low)

-- one label more
pub label_next : (lists : List (List (List ℕ))) (rows : List Row) (done new : List ℕ) (i x : ℕ) (all : List ℕ) → new ≡ done ++ x ∷ [] → length done ≡ i → x ≡ row_label (nontrivial lists) (level_in done) i (row_at rows i) → i < length rows
    → fold_rows (row_label (nontrivial lists)) 0 done (drop i rows) ≡ all → fold_rows (row_label (nontrivial lists)) 0 new (drop (i + 1) rows) ≡ all
label_next lists rows done new i x all e long is lt h =
    ap (λ (ls : List ℕ). fold_rows (row_label (nontrivial lists)) 0 ls (drop (i + 1) rows))
    (e ∙ ap (λ y. done ++ y ∷ []) (is ∙ ap (λ n. row_label (nontrivial lists) (level_in done) n (row_at rows i)) (sym long)))
    ∙ sym (ap (fold_rows (row_label (nontrivial lists)) 0 done) (drop_more rows i Free lt)) ∙ h

-- the first cut of the least level, by lists and labels that are known
pub chosen_is : (k : ℕ) (rows : List Row) (lists : List (List (List ℕ))) (labels : List ℕ) (node : ℕ) (cuts : List (List ℕ)) (level : ℕ) (cut : List ℕ) → lists ≡ listed_cuts k rows → labels ≡ labels_of k rows
    → cuts ≡ nontrivial lists node → level ≡ least (level_in labels) cuts → cut ≡ first_at level (level_in labels) cuts → cut ≡ chosen k rows node
chosen_is k rows lists labels node cuts level cut lists_are labels_are cuts_are level_is cut_is =
    cut_is ∙ ap (λ x. first_at x (level_in labels) cuts) level_is
    ∙ ap₂ (λ (ls : List ℕ) (cs : List (List ℕ)). choice (level_in ls) cs) labels_are (cuts_are ∙ ap (λ (l : List (List (List ℕ))). nontrivial l node) lists_are)

-- there are as many lists as rows
pub length-listed : (k : ℕ) (rows : List Row) → length (listed_cuts k rows) ≡ length rows
length-listed k rows = omega (arith, length-fold (row_cuts k) [] [] rows)

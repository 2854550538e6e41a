-- The chosen cuts are such as LUTs may read, and the labels are the depths over them.
use Rattle.std.proofs.Common.{◌≡◌, ℕ, ◌+◌, ◌≤◌, Bool, true, false, List, [], ◌∷◌, refl, sym, ap, ◌∙◌, subst}
use Rattle.std.proofs.lemmas.Bool.{both_ways}
use Rattle.syn_rows.specs.declared.Row.{Row}
use Rattle.syn_rows.specs.declared.Row.TheVariants.{Free, Source, And, Alias}
use Rattle.syn_rows.specs.Rows.{row_at}
use Rattle.syn_rows.specs.Reach.{is_and}
use Rattle.syn_hashed.proofs.Orders.{and_inside}
use Rattle.syn_graph.specs.declared.Graph.{Graph}
use Rattle.syn_lutnet.specs.LutData.{greatest}
use Rattle.syn_covering.specs.Cuts.{AreDepths, AreLutCuts}
use Rattle.syn_map.specs.Labels.{least, choice, cuts_of, row_label, label_of, chosen}
use Rattle.syn_map.specs.Mappings.{ChosenAreLutCuts, LabelsAreDepths}
use Rattle.syn_map.proofs.Choices.{choice_is}
use Rattle.syn_map.proofs.Labelling.{labels_are}
use Rattle.syn_map.proofs.Listed.{chosen_is_cut, chosen_listed}

pub chosen_fit : ChosenAreLutCuts
chosen_fit k count rows two hashed n a =
    let there = (and_inside count rows hashed n a).1 in
    let listed = chosen_listed count k rows hashed two n there a in
    record { cut = chosen_is_cut count k rows hashed two n there a; rising = listed.rising; below = listed.below; two = listed.two; few = listed.few }

-- labels

abbrev is_filled : List (List ℕ) → Bool
is_filled [] = false
is_filled (c ∷ cs) = true

choice_level : (label : ℕ → ℕ) (cuts : List (List ℕ)) → greatest label (choice label cuts) ≡ least label cuts
choice_level label [] = refl
choice_level label (c ∷ cs) = (choice_is label (c ∷ cs) (λ e. both_ways true (ap is_filled e) refl)).1

other_label : (k : ℕ) (rows : List Row) (n : ℕ) (row : Row) → is_and row ≡ false → row_label (cuts_of k rows) (label_of k rows) n row ≡ 0
other_label k rows n Free h = refl
other_label k rows n Source h = refl
other_label k rows n (And a b) h = absurd (both_ways true h refl)
other_label k rows n (Alias a) h = refl

and_label : (k : ℕ) (rows : List Row) (n : ℕ) (row : Row) → is_and row ≡ true → row_label (cuts_of k rows) (label_of k rows) n row ≡ least (label_of k rows) (cuts_of k rows n) + 1
and_label k rows n Free h = absurd (both_ways false refl h)
and_label k rows n Source h = absurd (both_ways false refl h)
and_label k rows n (And a b) h = refl
and_label k rows n (Alias a) h = absurd (both_ways false refl h)

pub labels_deep : LabelsAreDepths
labels_deep k count rows hashed = record {
  others = λ n h. labels_are k count rows hashed n ∙ other_label k rows n (row_at rows n) h;
  ands = λ n h. labels_are k count rows hashed n ∙ and_label k rows n (row_at rows n) h ∙ ap (λ x. x + 1) (sym (choice_level (label_of k rows) (cuts_of k rows n)));
}

-- what holds of a graph's chosen cuts holds of those of equal rows
pub known : (P : (ℕ → List ℕ) → Type 0) (k k2 : ℕ) (rows rows2 : List Row) → k2 ≡ k → rows2 ≡ rows → P (chosen k rows) → P (chosen k2 rows2)
known P k k2 rows rows2 same_k same_rows h = subst (λ (rs : List Row). P (chosen k2 rs)) (sym same_rows) (subst (λ x. P (chosen x rows)) (sym same_k) h)

pub graph_fit : (gr : Graph) (k : ℕ) → 2 ≤ k → AreLutCuts k gr.rows (chosen k gr.rows)
graph_fit gr k two = chosen_fit k gr.source_count gr.rows two gr.graph.hashed

pub graph_deep : (gr : Graph) (k : ℕ) → AreDepths gr.rows (label_of k gr.rows) (chosen k gr.rows)
graph_deep gr k = labels_deep k gr.source_count gr.rows gr.graph.hashed

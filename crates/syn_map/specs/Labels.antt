-- Labels: how deep a node lies at best in LUTs over its listed cuts, and the cut that is chosen for it (Mishchenko, Cho, Chatterjee and Brayton, ICCAD 2007, "priority cuts"; which cut is chosen is this project's choice).
use Rattle.std.specs.Prelude.{◌≡◌, ◌≢◌, ℕ, ◌+◌, ◌<◌, ◌≤◌, ◌==◌, min, if◌then◌else◌, All, List, [], ◌∷◌, ◌++◌}
use Rattle.syn_rows.specs.declared.Row.{Row}
use Rattle.syn_rows.specs.declared.Row.TheVariants.{Free, Source, And, Alias}
use Rattle.syn_rows.specs.Rows.{row_at, fold_rows}
use Rattle.syn_rows.specs.Levels.{level_in}
use Rattle.syn_hashed.specs.Hashed.{IsHashed}
use Rattle.syn_cuts.specs.Cuts.{listed_cuts}
use Rattle.syn_cuts.specs.Lists.{nontrivial}
use Rattle.syn_lutnet.specs.LutData.{greatest}

-- the least, over cuts, of the greatest label of a leaf; 0 where there is no cut
abbrev pub least : (ℕ → ℕ) → List (List ℕ) → ℕ
least label [] = 0
least label (c ∷ []) = greatest label c
least label (c ∷ d ∷ ds) = min (greatest label c) (least label (d ∷ ds))

-- the first cut whose greatest label of a leaf is this one
abbrev pub first_at : ℕ → (ℕ → ℕ) → List (List ℕ) → List ℕ
first_at level label [] = []
first_at level label (c ∷ cs) = if greatest label c == level then c else first_at level label cs

-- the first cut that gives the least
abbrev pub choice : (ℕ → ℕ) → List (List ℕ) → List ℕ
choice label cuts = first_at (least label cuts) label cuts

-- the listed cuts of a node with at most k leaves, but the last, which is the node alone
abbrev pub cuts_of : ℕ → List Row → ℕ → List (List ℕ)
cuts_of k rows n = nontrivial (listed_cuts k rows) n

-- the label that a row gives its node: of an AND one more than the least over its cuts, of any other 0
abbrev pub row_label : (ℕ → List (List ℕ)) → (ℕ → ℕ) → ℕ → Row → ℕ
row_label cuts label n Free = 0
row_label cuts label n Source = 0
row_label cuts label n (And a b) = least label (cuts n) + 1
row_label cuts label n (Alias a) = 0

-- the labels of all nodes, computed row by row in order
abbrev pub labels_of : ℕ → List Row → List ℕ
labels_of k rows = fold_rows (row_label (cuts_of k rows)) 0 [] rows

-- the label of a node over its listed cuts with at most k leaves
abbrev pub label_of : ℕ → List Row → ℕ → ℕ
label_of k rows n = level_in (labels_of k rows) n

-- the chosen cut of a node
abbrev pub chosen : ℕ → List Row → ℕ → List ℕ
chosen k rows n = choice (label_of k rows) (cuts_of k rows n)

-- each node has the label that its row gives it
abbrev pub HasLabels : ℕ → List Row → (ℕ → ℕ) → Type 0
HasLabels k rows label = (n : ℕ) → label n ≡ row_label (cuts_of k rows) label n (row_at rows n)

-- The cut stands among the cuts, gives the level, which no cut undercuts, and each cut before it gives more.
pub record IsFirstLeast (label : ℕ → ℕ) (cuts : List (List ℕ)) (cut : List ℕ) : Type 0 where
  pub before : List (List ℕ)
  pub after : List (List ℕ)
  pub split : cuts ≡ before ++ cut ∷ after
  pub all : All (λ c. greatest label cut ≤ greatest label c) cuts
  pub earlier : All (λ c. greatest label cut < greatest label c) before

-- Where there are cuts, the choice is the first of those whose greatest label of a leaf is least, and the least is that of the choice.
abbrev pub ChoiceIsFirstLeast : Type 0
ChoiceIsFirstLeast = (label : ℕ → ℕ) (cuts : List (List ℕ)) → cuts ≢ [] → IsFirstLeast label cuts (choice label cuts) × (greatest label (choice label cuts) ≡ least label cuts)

-- For hashed rows the computed labels are the labels.
abbrev pub LabelsAreLabels : Type 0
LabelsAreLabels = (k count : ℕ) (rows : List Row) → IsHashed count rows → HasLabels k rows (label_of k rows)

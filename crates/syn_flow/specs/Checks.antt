-- What is looked at in a certificate: labels as numbers, and the paths that are shown.
use Rattle.std.specs.Prelude.{◌≡◌, ◌↔◌, ◌⊎◌, ℕ, zero, suc, ◌==◌, ◌<◌, ◌&&◌, ◌||◌, nat_lt, Bool, true, false, List, [], ◌∷◌, length, slice_index_or}
use Rattle.syn_rows.specs.declared.Row.{Row}
use Rattle.syn_rows.specs.declared.Row.TheVariants.{Free, Source, And, Alias}
use Rattle.syn_rows.specs.Rows.{node_of, row_at}
use Rattle.syn_rows.specs.Values.{value_in}
use Rattle.syn_lutnet.specs.LutData.{greatest}
use Rattle.syn_paths.specs.Tops.{fan_in_label, IsInTop}
use Rattle.syn_paths.specs.Paths.{ArePathsInto}
use Rattle.syn_flow.specs.Witness.{Shown}

-- the label may stand over this greatest label of a fan-in
abbrev pub is_over : ℕ → ℕ → Bool
is_over zero label = label == 1
is_over (suc p) label = label == suc p || label == suc (suc p)

-- and rises above it
abbrev pub rises_over : ℕ → ℕ → Bool
rises_over p label = nat_lt 0 p && label == suc p

-- the label that a row's node has is one by its fan-ins: of any other row but an AND it is 0
abbrev pub fits_row : (ℕ → ℕ) → ℕ → Row → Bool
fits_row label n Free = label n == 0
fits_row label n Source = label n == 0
fits_row label n (And a b) = is_over (greatest label (node_of a ∷ node_of b ∷ [])) (label n)
fits_row label n (Alias a) = label n == 0

-- the label of a row's node is above that of its fan-ins, which is above 0
abbrev pub rises_row : (ℕ → ℕ) → ℕ → Row → Bool
rises_row label n Free = false
rises_row label n Source = false
rises_row label n (And a b) = rises_over (greatest label (node_of a ∷ node_of b ∷ [])) (label n)
rises_row label n (Alias a) = false

-- what is shown bears out the label of its node
abbrev pub IsGood : ℕ → List Row → (ℕ → ℕ) → Shown → Type 0
IsGood k rows label x = (rises_row label x.node (row_at rows x.node) ≡ true) × ArePathsInto rows (IsInTop rows label x.node (fan_in_label rows label x.node)) (suc k) x.lists

-- all labels fit
abbrev pub AllFit : List Row → (ℕ → ℕ) → Type 0
AllFit rows label = (n : ℕ) → n < length rows → fits_row label n (row_at rows n) ≡ true

-- all nodes whose labels rise are marked
abbrev pub AllMarked : List Row → (ℕ → ℕ) → List Bool → Type 0
AllMarked rows label marks = (n : ℕ) → n < length rows → rises_row label n (row_at rows n) ≡ true → value_in marks n ≡ true

-- what is marked after an entry: what was, and its node where it bears out the label
abbrev pub IsNotedBy : ℕ → List Row → (ℕ → ℕ) → Shown → List Bool → List Bool → Type 0
IsNotedBy k rows label x marks after = (n : ℕ) → (value_in after n ≡ true) ↔ ((value_in marks n ≡ true) ⊎ ((x.node ≡ n) × IsGood k rows label x))

abbrev pub shown_at : List Shown → ℕ → Shown
shown_at shown i = slice_index_or shown i (record { node = 0; lists = [] })

-- The marked nodes are those that the first so many bear out.
pub record AreNoted (k : ℕ) (rows : List Row) (label : ℕ → ℕ) (shown : List Shown) (limit : ℕ) (marks : List Bool) : Type 0 where
  pub sound : (n : ℕ) → value_in marks n ≡ true → (i : ℕ) × (i < limit) × ((shown_at shown i).node ≡ n) × IsGood k rows label (shown_at shown i)
  pub all : (i : ℕ) → i < limit → IsGood k rows label (shown_at shown i) → value_in marks (shown_at shown i).node ≡ true

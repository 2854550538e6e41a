-- Labels and chosen cuts, node by node, with the paths that bear the labels out.
use Rattle.std.specs.Prelude.{◌≡◌, ◌⊎◌, ℕ, zero, suc, ◌+◌, ◌<◌, ◌≤◌, true, false, List, [], map, length, slice_index_or}
use Rattle.arrayvec.specs.ArrayVec.{ArrayVec}
use Rattle.syn_rows.specs.declared.Row.{Row}
use Rattle.syn_rows.specs.Nodes.{has_node}
use Rattle.syn_rows.specs.Rows.{row_at, refs_of}
use Rattle.syn_rows.specs.Reach.{is_and}
use Rattle.syn_covering.specs.Cuts.{IsLutCut}
use Rattle.syn_paths.specs.Tops.{fan_in_label, FallsBelow, IsInTop, label_in}
use Rattle.syn_paths.specs.Paths.{ArePathsInto}
use Rattle.syn_paths.specs.Outcomes.{IsOwnCut}
use Rattle.syn_flow.specs.declared.labels.Labelling.{Labelling}
use Rattle.syn_flow.specs.Witness.{IsLabelOver, Shown}
use Rattle.syn_flow.specs.Flows.{shown_of}
use Rattle.syn_flow.specs.Labels.{IsChosenCut, IsFlowLabel}

-- the cut of a node, by number
abbrev pub cut_at : List (List ℕ) → ℕ → List ℕ
cut_at cuts n = slice_index_or cuts n []

-- the leaves of each cut
abbrev pub leaves_of : List (ArrayVec ℕ) → List (List ℕ)
leaves_of cuts = map (λ (cut : ArrayVec ℕ). cut.items) cuts

-- What is chosen for an AND, by the greatest label of a fan-in: over 0 the label 1, and else that label with the least cut, or one more with k + 1 paths; where it rises, the fan-ins are the cut.
abbrev pub IsChoice : ℕ → List Row → List ℕ → ℕ → ℕ → List ℕ → List (List ℕ) → ℕ → Type 0
IsChoice k rows labels n label cut lists zero = (label ≡ 1) × (cut ≡ refs_of (row_at rows n))
IsChoice k rows labels n label cut lists (suc p) =
    ((label ≡ suc p) × IsOwnCut rows labels n (suc p) k cut) ⊎ ((label ≡ suc (suc p)) × (cut ≡ refs_of (row_at rows n)) × ArePathsInto rows (IsInTop rows (label_in labels) n (suc p)) (k + 1) lists)

-- label functions agree on the nodes up to one
abbrev pub AgreeTo : ℕ → (ℕ → ℕ) → (ℕ → ℕ) → Type 0
AgreeTo n f g = (m : ℕ) → m ≤ n → f m ≡ g m

-- The label of an AND is one by flow and borne out by what is shown; its cut is the chosen one, of smaller labels, and one that a LUT may read.
pub record IsNode (k : ℕ) (rows : List Row) (label : ℕ → ℕ) (shown : List Shown) (n : ℕ) (cut : List ℕ) : Type 0 where
  pub flow : IsFlowLabel k rows label n (fan_in_label rows label n)
  pub over : IsLabelOver k rows label shown n (fan_in_label rows label n)
  pub chosen : IsChosenCut rows label n cut
  pub lut : IsLutCut k rows n cut
  pub less : (v : ℕ) → has_node cut v ≡ true → label v < label n

-- The first so many nodes have labels and cuts, which stay right however labels go on.
pub record AreLabelled (k : ℕ) (rows : List Row) (n : ℕ) (labels : List ℕ) (cuts : List (List ℕ)) (shown : List Shown) : Type 0 where
  pub count : length labels ≡ n
  pub cuts_count : length cuts ≡ n
  pub falls : FallsBelow rows (label_in labels) n
  pub others : (m : ℕ) → is_and (row_at rows m) ≡ false → label_in labels m ≡ 0
  pub low : (m : ℕ) → label_in labels m ≤ m
  pub nodes : (m : ℕ) → m < n → is_and (row_at rows m) ≡ true → (label : ℕ → ℕ) → AgreeTo m (label_in labels) label → IsNode k rows label shown m (cut_at cuts m)

-- a labelling is right for so many nodes
abbrev pub IsLabelling : ℕ → List Row → ℕ → Labelling → Type 0
IsLabelling k rows n l = AreLabelled k rows n l.labels.items (leaves_of l.cuts.items) (map shown_of l.paths.items)

-- Coverings: LUT nets over a graph's sources whose LUTs stand for ANDs, over cuts of any kind.
use Rattle.std.specs.Prelude.{◌≡◌, ℕ, ◌+◌, ◌-◌, ◌*◌, ◌%◌, ◌<◌, ◌≤◌, nat_lt, if◌then◌else◌, true, List, length, map}
use Rattle.syn_rows.specs.declared.Lit.{Lit}
use Rattle.syn_rows.specs.declared.Row.{Row}
use Rattle.syn_rows.specs.Rows.{node_of, row_at}
use Rattle.syn_rows.specs.Reach.{is_and}
use Rattle.syn_hashed.specs.Hashed.{IsHashed, lit_at}
use Rattle.syn_graph.specs.Graphs.{IsGraph}
use Rattle.syn_cones.specs.Cones.{IsCut}
use Rattle.syn_lutnet.specs.LutData.{depth_in, IsLutNet, Lut, lut_at, net_depth, none_exceeds, signal_depths}
use Rattle.syn_covering.specs.Cuts.{AreLutCuts}
use Rattle.syn_covering.specs.Mappings.{IsMapping, node_at}
use Rattle.syn_flow.specs.Witness.{AreBorneOut, Shown}

-- the node that a signal stands for: the constant and the sources for themselves, a LUT for its node
abbrev pub stands_for : ℕ → List ℕ → ℕ → ℕ
stands_for count nodes signal = if nat_lt signal (count + 1) then signal else node_at nodes (signal - (count + 1))

-- the literal, of a node, that a literal of a signal stands for
abbrev pub lit_for : ℕ → List ℕ → Lit → Lit
lit_for count nodes l = record { 0 = 2 * stands_for count nodes (node_of l) + l.0 % 2 }

-- A covering of a graph by LUTs of at most k inputs, with the node that each LUT stands for: a LUT net over the graph's sources, of which there are so many. A LUT reads the leaves of some cut of its node, listed or not: a leaf that is a source as itself, any other as a LUT that stands for it; several LUTs may stand for one node. Each observed literal stands for the graph's. Which functions the LUTs have is open.
pub record IsCovering (k count : ℕ) (rows : List Row) (lits : List Lit) (nodes : List ℕ) (luts : List Lut) (outs : List Lit) : Type 0 where
  pub net : IsLutNet count luts outs
  pub few : none_exceeds k luts ≡ true
  pub long : length nodes ≡ length luts
  pub ands : (j : ℕ) → j < length luts → is_and (row_at rows (node_at nodes j)) ≡ true
  pub cuts : (j : ℕ) → j < length luts → IsCut rows (map (stands_for count nodes) (lut_at luts j).inputs) (node_at nodes j)
  pub stand : map (lit_for count nodes) outs ≡ lits

-- no covering is shallower
abbrev pub IsLeastDepth : ℕ → ℕ → List Row → List Lit → ℕ → Type 0
IsLeastDepth k count rows lits depth = (nodes : List ℕ) (luts : List Lut) (outs : List Lit) → IsCovering k count rows lits nodes luts outs → depth ≤ net_depth count luts

-- The LUTs of cuts of at most k leaves are a covering.
abbrev pub MappingIsCovering : Type 0
MappingIsCovering = (count k : ℕ) (cut : ℕ → List ℕ) (rows : List Row) (lits : List Lit) (nodes : List ℕ) (luts : List Lut) (outs : List Lit) → AreLutCuts k rows cut → IsGraph count rows lits
    → IsMapping cut count rows lits nodes luts outs → IsCovering k count rows lits nodes luts outs

-- Labels that paths bear out undercut no covering: no LUT of a covering lies less deep than the label of its node,
abbrev pub BorneOutBoundLuts : Type 0
BorneOutBoundLuts = (k count : ℕ) (rows : List Row) (lits : List Lit) (label : ℕ → ℕ) (shown : List Shown) → IsHashed count rows → AreBorneOut k rows label shown
    → (nodes : List ℕ) (luts : List Lut) (outs : List Lit) → IsCovering k count rows lits nodes luts outs → (j : ℕ) → j < length luts → label (node_at nodes j) ≤ depth_in (signal_depths count luts) (count + 1 + j)

-- and no covering is shallower than the label of an observed node.
abbrev pub BorneOutBoundCoverings : Type 0
BorneOutBoundCoverings = (k count : ℕ) (rows : List Row) (lits : List Lit) (label : ℕ → ℕ) (shown : List Shown) → IsHashed count rows → AreBorneOut k rows label shown
    → (nodes : List ℕ) (luts : List Lut) (outs : List Lit) → IsCovering k count rows lits nodes luts outs → (i : ℕ) → i < length lits → label (node_of (lit_at lits i)) ≤ net_depth count luts

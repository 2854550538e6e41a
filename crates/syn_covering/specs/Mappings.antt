-- LUT nets that are made of one cut for each AND.
use Rattle.std.specs.Prelude.{◌≡◌, ◌⊎◌, ℕ, suc, ◌+◌, ◌*◌, ◌%◌, ◌^◌, ◌<◌, ◌≤◌, ◌==◌, nat_lt, if◌then◌else◌, Bool, true, All, List, [], ◌∷◌, length, map, slice_index_or}
use Rattle.std.specs.List.{list_all}
use Rattle.syn_rows.specs.declared.Lit.{Lit}
use Rattle.syn_rows.specs.declared.Row.{Row}
use Rattle.syn_rows.specs.Rows.{node_of, row_at}
use Rattle.syn_rows.specs.Values.{rows_function}
use Rattle.syn_rows.specs.Reach.{is_and, Ands}
use Rattle.syn_graph.specs.Graphs.{IsGraph, SourcesStay}
use Rattle.syn_truth.specs.Truth.{AtEach}
use Rattle.syn_rows.specs.Nodes.{has_node}
use Rattle.syn_cones.specs.Cones.{FitsBetween}
use Rattle.syn_lutnet.specs.LutData.{Lut, ones_value, lut_at, rising, greatest, net_depth, luts_function, none_exceeds, IsLutNet}
use Rattle.syn_covering.specs.Cuts.{AreLutCuts, AreDepths}

-- The set has the observed ANDs,
abbrev pub HasObservedAnds : List Row → List Lit → (ℕ → Bool) → Type 0
HasObservedAnds rows lits set = All (λ l. is_and (row_at rows (node_of l)) ≡ true → set (node_of l) ≡ true) lits

-- and with each node the leaves of its cut that are ANDs.
abbrev pub HasLeaves : (ℕ → List ℕ) → List Row → (ℕ → Bool) → Type 0
HasLeaves cut rows set = (n : ℕ) → set n ≡ true → All (λ m. is_and (row_at rows m) ≡ true → set m ≡ true) (cut n)

-- a node needs a LUT: every such set has it
abbrev pub IsNeeded : (ℕ → List ℕ) → List Row → List Lit → ℕ → Type 0
IsNeeded cut rows lits n = (set : ℕ → Bool) → HasLeaves cut rows set → HasObservedAnds rows lits set → set n ≡ true

-- The nodes that need LUTs, each once, in order.
pub record AreNeeded (cut : ℕ → List ℕ) (rows : List Row) (lits : List Lit) (nodes : List ℕ) : Type 0 where
  pub rise : rising nodes ≡ true
  pub needed : (n : ℕ) → has_node nodes n ≡ true → IsNeeded cut rows lits n
  pub all : (n : ℕ) → IsNeeded cut rows lits n → has_node nodes n ≡ true

-- the node at a place
abbrev pub node_at : List ℕ → ℕ → ℕ
node_at nodes j = slice_index_or nodes j 0

-- the place of a node in a list, from 0
abbrev pub place_of : ℕ → List ℕ → ℕ
place_of n [] = 0
place_of n (m ∷ ms) = if m == n then 0 else suc (place_of n ms)

-- the signal of a node: node 0 and the sources keep their numbers, then come the nodes with LUTs
abbrev pub signal_of : ℕ → List ℕ → ℕ → ℕ
signal_of count nodes n = if nat_lt n (count + 1) then n else count + 1 + place_of n nodes

-- the node has a signal
abbrev pub HasSignal : ℕ → List ℕ → ℕ → Type 0
HasSignal count nodes m = (m < count + 1) ⊎ (has_node nodes m ≡ true)

-- the literal of a node as that of its signal
abbrev pub signal_lit : ℕ → List ℕ → Lit → Lit
signal_lit count nodes l = record { 0 = 2 * signal_of count nodes (node_of l) + l.0 % 2 }

-- the minterms are those of a node's function over leaves
abbrev pub AreOnesOver : List Row → List ℕ → ℕ → List ℕ → Type 0
AreOnesOver rows leaves node ones = AtEach (length leaves) (λ xs. (v : ℕ → Bool) → FitsBetween rows leaves node v → map v leaves ≡ xs → v node ≡ ones_value ones xs)

-- The LUTs of a graph over so many sources: one for each node that needs one, in node order, of the node's function over its cut.
pub record IsMapping (cut : ℕ → List ℕ) (count : ℕ) (rows : List Row) (lits : List Lit) (nodes : List ℕ) (luts : List Lut) (outs : List Lit) : Type 0 where
  pub nodes_are : AreNeeded cut rows lits nodes
  pub long : length luts ≡ length nodes
  pub inputs : (j : ℕ) → j < length nodes → (lut_at luts j).inputs ≡ map (signal_of count nodes) (cut (node_at nodes j))
  pub ones : (j : ℕ) → j < length nodes → AreOnesOver rows (cut (node_at nodes j)) (node_at nodes j) (lut_at luts j).ones
  pub rising_ones : (j : ℕ) → j < length nodes → rising (lut_at luts j).ones ≡ true
  pub small_ones : (j : ℕ) → j < length nodes → list_all (λ m. nat_lt m (2 ^ length (lut_at luts j).inputs)) (lut_at luts j).ones ≡ true
  pub outs_are : outs ≡ map (signal_lit count nodes) lits

-- Over cuts that LUTs may read there are nodes that need LUTs.
abbrev pub NeededExist : Type 0
NeededExist = (k : ℕ) (cut : ℕ → List ℕ) (rows : List Row) (lits : List Lit) → AreLutCuts k rows cut → (nodes : List ℕ) × AreNeeded cut rows lits nodes

-- An observed literal of a source stays.
abbrev pub MappingKeepsSources : Type 0
MappingKeepsSources = (cut : ℕ → List ℕ) (count : ℕ) (rows : List Row) (lits : List Lit) (nodes : List ℕ) (luts : List Lut) (outs : List Lit) → IsMapping cut count rows lits nodes luts outs → SourcesStay count lits outs

-- Of a graph, over cuts that LUTs may read, such LUTs have the graph's function,
abbrev pub MappingKeepsFunction : Type 0
MappingKeepsFunction = (count k : ℕ) (cut : ℕ → List ℕ) (rows : List Row) (lits : List Lit) (nodes : List ℕ) (luts : List Lut) (outs : List Lit) → AreLutCuts k rows cut → IsGraph count rows lits
    → IsMapping cut count rows lits nodes luts outs → (bits : List Bool) → length bits ≡ count → luts_function luts outs bits ≡ rows_function rows lits bits

-- their depth is the greatest label of an observed node, where the labels are the depths over the cuts,
abbrev pub MappingHasDepth : Type 0
MappingHasDepth = (count k : ℕ) (cut : ℕ → List ℕ) (rows : List Row) (lits : List Lit) (nodes : List ℕ) (luts : List Lut) (outs : List Lit) → AreLutCuts k rows cut → IsGraph count rows lits
    → IsMapping cut count rows lits nodes luts outs → (label : ℕ → ℕ) → AreDepths rows label cut → net_depth count luts ≡ greatest label (map node_of lits)

-- they are a LUT net over as many sources,
abbrev pub MappingIsNet : Type 0
MappingIsNet = (count k : ℕ) (cut : ℕ → List ℕ) (rows : List Row) (lits : List Lit) (nodes : List ℕ) (luts : List Lut) (outs : List Lit) → AreLutCuts k rows cut → IsGraph count rows lits
    → IsMapping cut count rows lits nodes luts outs → IsLutNet count luts outs

-- none of them has more than k inputs,
abbrev pub MappingFits : Type 0
MappingFits = (count k : ℕ) (cut : ℕ → List ℕ) (rows : List Row) (lits : List Lit) (nodes : List ℕ) (luts : List Lut) (outs : List Lit) → AreLutCuts k rows cut → IsGraph count rows lits
    → IsMapping cut count rows lits nodes luts outs → none_exceeds k luts ≡ true

-- and there are at most as many of them as reached ANDs.
abbrev pub MappingIsSmall : Type 0
MappingIsSmall = (count k : ℕ) (cut : ℕ → List ℕ) (rows : List Row) (lits : List Lit) (nodes : List ℕ) (luts : List Lut) (outs : List Lit) (ands : ℕ) → AreLutCuts k rows cut → IsGraph count rows lits
    → IsMapping cut count rows lits nodes luts outs → Ands rows lits ands → length luts ≤ ands

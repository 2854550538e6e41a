-- What recipes make of a network, as it is written.
use Rattle.std.specs.Prelude.{◌≡◌, ℕ, ◌+◌, ◌≤◌, ◌<◌, Bool, true, false, List, length, map, Option, None, Some, IfSome}
use Rattle.syn_rows.specs.declared.Row.{Row}
use Rattle.syn_rows.specs.Rows.{node_of}
use Rattle.syn_rows.specs.Levels.{level_in, levels_of}
use Rattle.syn_netlist.specs.Lists.{Netlist, sources}
use Rattle.syn_netlist.specs.Meaning.{SameMeaning}
use Rattle.syn_netlist.specs.Order.{Ordered}
use Rattle.syn_network.specs.GraphShape.{GraphShape, and_tables, observed_of, rows_of}
use Rattle.syn_network.specs.LutShape.{LutShape, count_of, depth_of, gates_of, luts_of}
use Rattle.syn_network.specs.LutShape as shape
use Rattle.syn_hashed.specs.Hashed.{lit_at}
use Rattle.syn_lutnet.specs.LutData.{greatest}
use Rattle.syn_absorb.specs.Flips.{AllShown, MostShown}
use Rattle.syn_absorb.specs.Needed.{AllDepend}
use Rattle.syn_map.specs.Labels.{label_of}
use Rattle.syn_area.specs.Areas.{CostAlike, luts_cost, nodes_cost}
use Rattle.syn_area.specs.Plain.{AreNeeded}
use Rattle.syn_levels.specs.Levels.{keeping}
use Rattle.syn_proposals.specs.Closing.{Closed}
use Rattle.syn_gain.specs.Replacements.{Replacement}
use Rattle.syn_flow.specs.Coverings.{IsLeastDepth}
use Rattle.syn_refactor.specs.Refactoring.{refactorings}
use Rattle.syn_resub.specs.Resubstitution.{resubstitutions}
use Rattle.syn_rewrite.specs.Rewriting.{rewritings}
use Rattle.syn_seq.specs.Sweeping.{IsSweepOf}
use Rattle.syn_words.specs.declared.inputs.LutSizes.{LutSizes}
use Rattle.syn_words.specs.Commands.{luts_alike}
use Rattle.syn_words.specs.declared.recipes.Recipe.{Recipe}
use Rattle.syn_words.specs.declared.recipes.Recipe.TheVariants as recipes
use Rattle.syn_shell.specs.Networks.{Written}

-- A netlist has no more ANDs than a network before it has, by the mark of that one: ANDs, or gates of factoring its LUTs.
abbrev pub NoMoreBy : Bool → Netlist → Netlist → Type 0
NoMoreBy false old new = length (and_tables new) ≤ length (and_tables old)
NoMoreBy true old new = length (and_tables new) ≤ gates_of old

-- What hashing makes of a network, a graph: it means the same, reads only earlier signals, has the shape of a graph, and no more ANDs than before.
pub record IsRemade (old new : Written) : Type 0 where
  pub same : SameMeaning old.netlist new.netlist
  pub ordered : Ordered new.netlist
  pub graph : new.mapped ≡ false
  pub shape : GraphShape new.netlist
  pub fewer : NoMoreBy old.mapped old.netlist new.netlist

-- the level of the observed signal in place i, by the rows that a netlist spells
abbrev pub level_at : Netlist → ℕ → ℕ
level_at m i = level_in (levels_of (rows_of m)) (node_of (lit_at (observed_of m) i))

-- No observed signal of the second netlist has a higher level than in the first.
abbrev pub NoDeeper : Netlist → Netlist → Type 0
NoDeeper old new = (i : ℕ) → i < length (observed_of new) → level_at new i ≤ level_at old i

-- The graph that stands for a network, by the mark: itself, or what hashing makes of a net of LUTs.
abbrev pub IsGraphFor : Bool → Written → Written → Type 0
IsGraphFor false net graph = graph ≡ net
IsGraphFor true net graph = IsRemade net graph

-- What balancing makes of a graph: it is remade, and no observed signal has a higher level than before.
pub record IsBalanced (old new : Written) : Type 0 where
  pub remade : IsRemade old new
  pub levels : NoDeeper old.netlist new.netlist

-- What merging, resubstitution by refutation and sharing of pairs make of a graph: it is remade, and where levels are kept no observed signal has a higher level than before.
pub record IsMerged (keeps : Bool) (old new : Written) : Type 0 where
  pub remade : IsRemade old new
  pub levels : keeps ≡ true → NoDeeper old.netlist new.netlist

-- What rewriting, refactoring and resubstitution make of a graph, each for its proposals: it is remade, and no proposal for any of its ANDs saves one, by the rows that it spells.
pub record IsClosedFor (proposals : List Row → ℕ → List Replacement) (old new : Written) : Type 0 where
  pub remade : IsRemade old new
  pub closed : Closed (rows_of new.netlist) (observed_of new.netlist) (proposals (rows_of new.netlist))

-- What they make of it where levels are kept: it is remade, no proposal that keeps its root's level saves, and no observed signal has a higher level than before.
pub record IsClosedKeepingLevels (proposals : List Row → ℕ → List Replacement) (old new : Written) : Type 0 where
  pub closed : IsClosedFor (keeping proposals) old new
  pub levels : NoDeeper old.netlist new.netlist

-- Either, by whether levels are kept.
abbrev pub IsPassed : Bool → (List Row → ℕ → List Replacement) → Written → Written → Type 0
IsPassed false proposals old new = IsClosedFor proposals old new
IsPassed true proposals old new = IsClosedKeepingLevels proposals old new

-- What any mapping makes of a graph, a net of LUTs: it means the same, reads only earlier signals, has the shape of LUTs of so many inputs at most, and has no more LUTs than the graph has ANDs.
pub record IsInLuts (inputs : ℕ) (old new : Written) : Type 0 where
  pub same : SameMeaning old.netlist new.netlist
  pub ordered : Ordered new.netlist
  pub mapped : new.mapped ≡ true
  pub shape : LutShape new.netlist inputs
  pub fewer : count_of new.netlist ≤ length (and_tables old.netlist)

-- What mapping makes of a graph: a net of LUTs that is as deep as the greatest label of an observed node, and has one LUT for each node that needs one over the chosen cuts, by the rows that the graph spells.
pub record IsMappedTo (inputs : ℕ) (old new : Written) : Type 0 where
  pub luts : IsInLuts inputs old new
  pub depth : depth_of new.netlist ≡ greatest (label_of inputs (rows_of old.netlist)) (map node_of (observed_of old.netlist))
  pub nodes : List ℕ
  pub needed : AreNeeded inputs (rows_of old.netlist) (observed_of old.netlist) nodes
  pub count : count_of new.netlist ≡ length nodes

-- LUTs as they are left behind mapping for few LUTs and by flow: each depends on each signal that it reads, no more literals observe one complemented than plain, and none is observed only complemented.
pub record AreSettled (net : Netlist) : Type 0 where
  pub depend : AllDepend (luts_of net)
  pub most : MostShown (length (sources net.frame) + 1) (shape.observed_of net)
  pub shown : AllShown (length (sources net.frame) + 1) (shape.observed_of net)

-- What mapping for few LUTs makes of a graph, by the LUTs that there are: a net of LUTs that is no deeper than what mapping makes, and costs no more than LUTs of the nodes that need one over the chosen cuts, by the rows that the graph spells; where LUTs all cost the same it has no more of them.
pub record IsMappedForArea (sizes : LutSizes) (old new : Written) : Type 0 where
  pub luts : IsInLuts sizes.most old new
  pub depth : depth_of new.netlist ≤ greatest (label_of sizes.most (rows_of old.netlist)) (map node_of (observed_of old.netlist))
  pub cost : (nodes : List ℕ) → AreNeeded sizes.most (rows_of old.netlist) (observed_of old.netlist) nodes → luts_cost sizes.areas (luts_of new.netlist) ≤ nodes_cost sizes.most (rows_of old.netlist) sizes.areas nodes
  pub fewest : CostAlike sizes.most sizes.areas → (nodes : List ℕ) → AreNeeded sizes.most (rows_of old.netlist) (observed_of old.netlist) nodes → count_of new.netlist ≤ length nodes
  pub settled : AreSettled new.netlist

-- What mapping for few LUTs makes of a graph whatever the depth: a net of LUTs that costs no more than one that mapping for few LUTs makes of it, has no more of them where all cost the same, and is at most so many levels deeper where a number is given.
pub record IsMappedLoosely (sizes : LutSizes) (slack : Option ℕ) (old new : Written) : Type 0 where
  pub luts : IsInLuts sizes.most old new
  pub few : Written
  pub for_area : IsMappedForArea sizes old few
  pub cost : luts_cost sizes.areas (luts_of new.netlist) ≤ luts_cost sizes.areas (luts_of few.netlist)
  pub fewest : CostAlike sizes.most sizes.areas → count_of new.netlist ≤ count_of few.netlist
  pub depth : IfSome slack (λ levels. depth_of new.netlist ≤ depth_of few.netlist + levels)
  pub settled : AreSettled new.netlist

-- What resubstitution makes of a net of LUTs: one that means the same and reads only earlier signals, of no more LUTs, at no more cost by whatever areas, no deeper, of no more inputs, and settled.
pub record IsResubstituted (old new : Written) : Type 0 where
  pub same : SameMeaning old.netlist new.netlist
  pub ordered : Ordered new.netlist
  pub mapped : new.mapped ≡ true
  pub inputs : (k : ℕ) → LutShape old.netlist k → LutShape new.netlist k
  pub fewer : count_of new.netlist ≤ count_of old.netlist
  pub cost : (areas : List ℕ) → luts_cost areas (luts_of new.netlist) ≤ luts_cost areas (luts_of old.netlist)
  pub depth : depth_of new.netlist ≤ depth_of old.netlist
  pub settled : AreSettled new.netlist

-- What it makes of a graph: a net of LUTs, which it makes of one that mapping for few LUTs makes of the graph.
pub record IsMappedAndResubstituted (sizes : LutSizes) (old new : Written) : Type 0 where
  pub luts : IsInLuts sizes.most old new
  pub few : Written
  pub for_area : IsMappedForArea sizes old few
  pub resubstituted : IsResubstituted few new

-- What mapping by flow makes of a graph: a net of LUTs, and no covering of the graph by LUTs of so many inputs at most is shallower, by the rows that it spells.
pub record IsLeastMappedTo (inputs : ℕ) (old new : Written) : Type 0 where
  pub luts : IsInLuts inputs old new
  pub least : IsLeastDepth inputs (length (sources old.netlist.frame)) (rows_of old.netlist) (observed_of old.netlist) (depth_of new.netlist)
  pub settled : AreSettled new.netlist

-- What sweeping makes of a graph: one with the same outputs over every sequence of inputs, in which no latch is left that no output needs, and no two that can be one.
pub record IsSweptTo (old new : Written) : Type 0 where
  pub graph : new.mapped ≡ false
  pub sweep : IsSweepOf old.netlist new.netlist

-- the most inputs of a LUT by what is named: six where nothing is
abbrev pub most_inputs : Option ℕ → ℕ
most_inputs None = 6
most_inputs (Some most) = most

-- the LUTs that are named: of six inputs at most, which all cost the same, where none are
abbrev pub luts_in : Option LutSizes → LutSizes
luts_in None = luts_alike 6
luts_in (Some sizes) = sizes

-- What a recipe makes of a graph.
abbrev pub MakesOfGraph : Recipe → Written → Written → Type 0
MakesOfGraph recipes.Strash = IsRemade
MakesOfGraph recipes.Balance = IsBalanced
MakesOfGraph recipes.BalanceShared = IsMerged false
MakesOfGraph (recipes.Rewrite options) = IsPassed options.levels rewritings
MakesOfGraph (recipes.Refactor options) = IsPassed options.levels refactorings
MakesOfGraph (recipes.Resubstitute options) = IsPassed options.levels resubstitutions
MakesOfGraph (recipes.Merge limits) = IsMerged limits.levels
MakesOfGraph (recipes.Replace limits) = IsMerged limits.levels
MakesOfGraph (recipes.Map false sizes) = IsMappedTo (luts_in sizes).most
MakesOfGraph (recipes.Map true sizes) = IsMappedForArea (luts_in sizes)
MakesOfGraph (recipes.MapLoosely slack sizes) = IsMappedLoosely (luts_in sizes) slack
MakesOfGraph (recipes.ResubstituteLuts window sizes) = IsMappedAndResubstituted (luts_in sizes)
MakesOfGraph (recipes.MapByFlow inputs) = IsLeastMappedTo (most_inputs inputs)
MakesOfGraph recipes.Sweep = IsSweptTo

-- What a recipe for graphs makes of a network by its mark: of a net of LUTs what it makes of the graph that hashing made of that before.
abbrev pub OnGraph : (Written → Written → Type 0) → Bool → Written → Written → Type 0
OnGraph makes false old new = makes old new
OnGraph makes true old new = (graph : Written) × IsRemade old graph × makes graph new

-- What resubstitution of LUTs makes of a network by its mark: of a net of LUTs what it makes of them as they are.
abbrev pub OnLuts : (Written → Written → Type 0) → Bool → Written → Written → Type 0
OnLuts makes false old new = makes old new
OnLuts makes true old new = IsResubstituted old new

-- the most LUTs of a window, where a recipe resubstitutes LUTs; each other recipe is one for graphs
abbrev pub window_in : Recipe → Option ℕ
window_in (recipes.ResubstituteLuts window sizes) = Some window
window_in other = None

-- What a recipe makes of a network.
abbrev pub Makes : Recipe → Written → Written → Type 0
Makes recipes.Strash old new = IsRemade old new
Makes (recipes.ResubstituteLuts window sizes) old new = OnLuts (IsMappedAndResubstituted (luts_in sizes)) old.mapped old new
Makes other old new = OnGraph (MakesOfGraph other) old.mapped old new

-- Where few LUTs are looked for they are never deeper than those that plain mapping makes of the same graph, and where all cost the same there are never more of them. All cost the same where a command names how many inputs they have.
pub record AreaIsNoWorse : Type 0 where
  pub named : (inputs : ℕ) → inputs ≤ 8 → CostAlike inputs (luts_alike inputs).areas
  pub depth : (sizes : LutSizes) (graph plain few : Written) → IsMappedTo sizes.most graph plain → IsMappedForArea sizes graph few → depth_of few.netlist ≤ depth_of plain.netlist
  pub count : (sizes : LutSizes) (graph plain few : Written) → CostAlike sizes.most sizes.areas → IsMappedTo sizes.most graph plain → IsMappedForArea sizes graph few → count_of few.netlist ≤ count_of plain.netlist

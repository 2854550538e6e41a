-- What a recipe makes of a graph, of the graph of a net of LUTs, and of a small network; what it keeps.
use Rattle.std.proofs.Common.{◌≡◌, ℕ, ◌≤◌, Bool, true, false, List, length, refl, sym, ap, subst, arith, Option, None, Some}
use Rattle.syn_netlist.specs.Lists.{Frame, Netlist, sources}
use Rattle.syn_netlist.specs.Meaning.{SameIsTransitive}
use Rattle.syn_netlist.specs.Order.{Ordered}
use Rattle.syn_network.specs.GraphShape.{and_tables}
use Rattle.syn_build.specs.BuildFaults.{most_gates}
use Rattle.syn_refactor.specs.Refactoring.{refactorings}
use Rattle.syn_resub.specs.Resubstitution.{resubstitutions}
use Rattle.syn_rewrite.specs.Rewriting.{rewritings}
use Rattle.syn_seq.proofs.Fewer.{fewer_sources}
use Rattle.syn_words.specs.declared.inputs.LutSizes.{LutSizes}
use Rattle.syn_words.specs.declared.recipes.Recipe.{Recipe}
use Rattle.syn_words.specs.declared.recipes.Recipe.TheVariants as recipes
use Rattle.syn_shell.specs.Networks.{IsSmall, Written, ands_by, gates_by, gates_in, graph_network, mapped_network}
use Rattle.syn_shell.specs.declared.refusal.Refusal.{Refusal}
use Rattle.syn_shell.specs.Makes.{IsInLuts, IsMappedAndResubstituted, IsRemade, IsResubstituted, IsSweptTo, Makes, MakesOfGraph, NoMoreBy, OnGraph, OnLuts, luts_in, most_inputs, window_in}
use Rattle.syn_shell.specs.Steps.{MakingRefused, gates_for, with_luts}
use Rattle.syn_shell.specs.Origins.{IsSameBy}
use Rattle.syn_shell.proofs.RemadeGraphs.{passed_remade}

-- what this recipe makes another name of it makes
pub made_by : (r s : Recipe) (old new : Written) → r ≡ s → MakesOfGraph s old new → MakesOfGraph r old new
made_by r s old new is made = subst (λ (x : Recipe). MakesOfGraph x old new) (sym is) made

-- a recipe doesn't have a window and have none
no_window : (window : ℕ) → ◌≡◌ {A = Option ℕ} (Some window) None → ⊥
no_window window is = cc

-- what a recipe makes of a graph it makes of the network that the graph is
pub makes_of_graph : (r : Recipe) (m : Netlist) (new : Written) → MakesOfGraph r (graph_network m) new → Makes r (graph_network m) new
makes_of_graph recipes.Strash m new made = made
makes_of_graph other m new made = made

-- what a recipe for graphs makes of the graph of a net of LUTs it makes of the net
pub behind_hashing : SameIsTransitive → (r : Recipe) (m graph : Netlist) (new : Written) → window_in r ≡ None → IsRemade (mapped_network m) (graph_network graph) → MakesOfGraph r (graph_network graph) new
    → Makes r (mapped_network m) new
behind_hashing transitive recipes.Strash m graph new none is made = record {
  same = transitive m graph new.netlist is.same made.same;
  ordered = made.ordered;
  graph = made.graph;
  shape = made.shape;
  fewer = omega (arith, is.fewer, made.fewer);
}
behind_hashing transitive (recipes.ResubstituteLuts window sizes) m graph new none is made = absurd (no_window window none)
behind_hashing transitive other m graph new none is made = (graph_network graph, is, made)

-- such a recipe is refused as making the graph is
pub refused_for : (r : Recipe) (m : Option Written) (cause : Refusal) → window_in r ≡ None → MakingRefused gates_in m cause → MakingRefused (gates_for r) m cause
refused_for (recipes.ResubstituteLuts window sizes) m cause none why = absurd (no_window window none)
refused_for other m cause none why = why

-- what resubstitution makes of LUTs the recipe for it makes of them, and before it no gates
pub makes_of_luts : (r : Recipe) (window : ℕ) (m : Netlist) (new : Written) → window_in r ≡ Some window → IsResubstituted (mapped_network m) new → Makes r (mapped_network m) new
makes_of_luts (recipes.ResubstituteLuts most sizes) window m new is made = made
makes_of_luts other window m new is made = absurd (no_window window (sym is))

pub gates_for_luts : (r : Recipe) (window : ℕ) (net : Written) → window_in r ≡ Some window → gates_for r net ≤ most_gates
gates_for_luts (recipes.ResubstituteLuts most sizes) window net is = omega arith
gates_for_luts other window net is = absurd (no_window window (sym is))

-- no recipe makes more gates before than those that make the network a graph
pub few_for : (r : Recipe) (net : Written) → gates_in net ≤ most_gates → gates_for r net ≤ most_gates
few_for (recipes.ResubstituteLuts window sizes) net few = omega arith
few_for other net few = few

-- LUTs that it doesn't name change nothing of these
pub filled_gates : (sizes : LutSizes) (r : Recipe) → gates_for (with_luts sizes r) ≡ gates_for r
filled_gates sizes (recipes.Map area named) = refl
filled_gates sizes (recipes.MapLoosely slack named) = refl
filled_gates sizes (recipes.ResubstituteLuts window named) = refl
filled_gates sizes (recipes.MapByFlow named) = refl
filled_gates sizes other = refl

-- a graph is made of no gates
pub no_gates : (net : Written) → net.mapped ≡ false → gates_in net ≤ most_gates
no_gates net graph = omega (arith, ap (λ (b : Bool). gates_by b net.netlist) graph)

few_by : (mark : Bool) (m n : Netlist) → NoMoreBy mark m n → ands_by mark m ≤ most_gates → gates_by mark m ≤ most_gates → length (and_tables n) ≤ most_gates
few_by false m n fewer ands gates = omega (arith, fewer, ands)
few_by true m n fewer ands gates = omega (arith, fewer, gates)

-- of the same frame, with this many ANDs
same_small : (old new : Written) (n : ℕ) → old.netlist.frame ≡ new.netlist.frame → ands_by new.mapped new.netlist ≡ n → n ≤ most_gates → IsSmall old → IsSmall new
same_small old new n frame ands few small = record {
  sources = omega (arith, small.sources, ap (λ (f : Frame). length (sources f)) frame);
  outputs = omega (arith, small.outputs, ap (λ (f : Frame). length f.outputs) frame);
  ands = omega (arith, ands, few);
}

pub remade_small : (old new : Written) → IsRemade old new → gates_in old ≤ most_gates → IsSmall old → IsSmall new
remade_small old new made gates small =
    same_small old new (length (and_tables new.netlist)) made.same.frame (ap (λ (b : Bool). ands_by b new.netlist) made.graph) (few_by old.mapped old.netlist new.netlist made.fewer small.ands gates) small

swept_small : (old new : Written) → old.mapped ≡ false → IsSweptTo old new → IsSmall old → IsSmall new
swept_small old new graph made small =
    let many : ands_by old.mapped old.netlist ≡ length (and_tables old.netlist) = ap (λ (b : Bool). ands_by b old.netlist) graph in
    let few : ands_by new.mapped new.netlist ≡ length (and_tables new.netlist) = ap (λ (b : Bool). ands_by b new.netlist) made.graph in
    record {
      sources = omega (arith, small.sources, fewer_sources old.netlist new.netlist made.sweep.same);
      outputs = omega (arith, small.outputs, ap (λ (ws : List (List ℕ)). length ws) made.sweep.same.outputs);
      ands = omega (arith, small.ands, many, few, made.sweep.fewer);
    }

-- whether a recipe sweeps latches
abbrev pub sweeps : Recipe → Bool
sweeps recipes.Sweep = true
sweeps other = false

-- what stays of a graph that is made anew: by whether latches are swept, what it means; and what is made reads only earlier signals, and is small where the graph is
pub record IsKeptOf (swept : Bool) (old new : Written) : Type 0 where
  pub same : IsSameBy swept old.netlist new.netlist
  pub ordered : Ordered new.netlist
  pub small : IsSmall old → IsSmall new

remade_of_it : (old new : Written) → old.mapped ≡ false → IsRemade old new → IsKeptOf false old new
remade_of_it old new graph made = record { same = made.same; ordered = made.ordered; small = remade_small old new made (no_gates old graph) }

luts_of_it : (inputs : ℕ) (old new : Written) → IsInLuts inputs old new → IsKeptOf false old new
luts_of_it inputs old new made = record {
  same = made.same;
  ordered = made.ordered;
  small = same_small old new 0 made.same.frame (ap (λ (b : Bool). ands_by b new.netlist) made.mapped) (omega arith);
}

pub kept_of : (r : Recipe) (old new : Written) → old.mapped ≡ false → MakesOfGraph r old new → IsKeptOf (sweeps r) old new
kept_of recipes.Strash old new graph made = remade_of_it old new graph made
kept_of recipes.Balance old new graph made = remade_of_it old new graph made.remade
kept_of recipes.BalanceShared old new graph made = remade_of_it old new graph made.remade
kept_of (recipes.Rewrite options) old new graph made = remade_of_it old new graph (passed_remade options.levels rewritings old new made)
kept_of (recipes.Refactor options) old new graph made = remade_of_it old new graph (passed_remade options.levels refactorings old new made)
kept_of (recipes.Resubstitute options) old new graph made = remade_of_it old new graph (passed_remade options.levels resubstitutions old new made)
kept_of (recipes.Merge limits) old new graph made = remade_of_it old new graph made.remade
kept_of (recipes.Replace limits) old new graph made = remade_of_it old new graph made.remade
kept_of (recipes.Map false sizes) old new graph made = luts_of_it (luts_in sizes).most old new made.luts
kept_of (recipes.Map true sizes) old new graph made = luts_of_it (luts_in sizes).most old new made.luts
kept_of (recipes.MapLoosely slack sizes) old new graph made = luts_of_it (luts_in sizes).most old new made.luts
kept_of (recipes.ResubstituteLuts window sizes) old new graph made = luts_of_it (luts_in sizes).most old new made.luts
kept_of (recipes.MapByFlow inputs) old new graph made = luts_of_it (most_inputs inputs) old new made.luts
kept_of recipes.Sweep old new graph made = record { same = made.sweep.same; ordered = made.sweep.ordered; small = swept_small old new graph made }

-- what a recipe makes of a small network is small

small_on_graph : (r : Recipe) (mark : Bool) (old new : Written) → old.mapped ≡ mark → OnGraph (MakesOfGraph r) mark old new → gates_in old ≤ most_gates → IsSmall old → IsSmall new
small_on_graph r false old new is made gates small = (kept_of r old new is made).small small
small_on_graph r true old new is (graph, remade, made) gates small = (kept_of r graph new remade.graph made).small (remade_small old graph remade gates small)

small_on_luts : (sizes : LutSizes) (mark : Bool) (old new : Written) → OnLuts (IsMappedAndResubstituted sizes) mark old new → IsSmall old → IsSmall new
small_on_luts sizes false old new made small = (luts_of_it sizes.most old new made.luts).small small
small_on_luts sizes true old new made small = same_small old new 0 made.same.frame (ap (λ (b : Bool). ands_by b new.netlist) made.mapped) (omega arith) small

pub small_kept : (r : Recipe) (old new : Written) → Makes r old new → gates_for r old ≤ most_gates → IsSmall old → IsSmall new
small_kept recipes.Strash old new made gates small = remade_small old new made gates small
small_kept (recipes.ResubstituteLuts window sizes) old new made gates small = small_on_luts (luts_in sizes) old.mapped old new made small
small_kept other old new made gates small = small_on_graph other old.mapped old new refl made gates small

-- Names that fit a graph.
use Rattle.std.proofs.Common.{◌≡◌, ℕ, ◌<◌, List, length, ◌∙◌, subst, arith}
use Rattle.syn_rows.specs.declared.Lit.{Lit}
use Rattle.syn_hashed.specs.Hashed.{IsHashed}
use Rattle.syn_netlist.specs.Lists.{Frame, sources, observed}
use Rattle.syn_netlist.specs.Numbers.{word_at}
use Rattle.syn_network.specs.GraphShape.{place}
use Rattle.syn_network.specs.NamedGraphs.{IsNamedGraph, source_lit}
use Rattle.syn_network.proofs.Spelled.{place_lt}
use Rattle.syn_graph.specs.declared.Graph.{Graph}
use Rattle.syn_graph.specs.Graphs.{SourcesStay}
use Rattle.syn_network.specs.Networks.{HasOwnSources, IsNamed}
use Rattle.syn_network.specs.Laws.{NamesStay}

pub own_stays : (frame : Frame) (count : ℕ) (lits new_lits : List Lit) → count ≡ length (sources frame) → length new_lits ≡ length lits → SourcesStay count lits new_lits → HasOwnSources frame lits → HasOwnSources frame new_lits
own_stays frame count lits new_lits same_count same_length stay own i lt known =
    let inside : i < length lits = omega (arith, lt, same_length) in
    let low = place_lt (sources frame) (word_at (observed frame) i) known in
    stay i (source_lit (place (word_at (observed frame) i) (sources frame))) inside (omega (arith, low, same_count)) (own i inside known)

pub names_stay : NamesStay
names_stay frame was now same n = record {
  sources_are = same.sources ∙ n.sources_are;
  observed_are = same.count ∙ n.observed_are;
  own = own_stays frame was.source_count was.observed now.observed n.sources_are same.count same.stay n.own;
}

pub named_graph : (frame : Frame) (g : Graph) → IsNamed frame g.source_count g.observed → IsNamedGraph frame g.rows g.observed
named_graph frame g n = record {
  hashed = subst (λ (k : ℕ). IsHashed k g.rows) n.sources_are g.graph.hashed;
  count = n.observed_are;
  within = g.graph.within;
  own = n.own;
  reached = λ k above lt. g.graph.reached k (omega (arith, above, n.sources_are)) lt;
}

-- the names of rows that were compacted
pub named_compaction : (frame : Frame) (count : ℕ) (lits : List Lit) (g : Graph) → count ≡ length (sources frame) → length lits ≡ length (observed frame) → HasOwnSources frame lits
    → g.source_count ≡ count → length g.observed ≡ length lits → SourcesStay count lits g.observed → IsNamed frame g.source_count g.observed
named_compaction frame count lits g sources observed own same same_count stay = record {
  sources_are = same ∙ sources;
  observed_are = same_count ∙ observed;
  own = own_stays frame count lits g.observed sources same_count stay own;
}

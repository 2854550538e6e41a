use Rattle.std.proofs.Common.{◌≡◌, ℕ, Bool, List, length, sym, ap, ◌∙◌, subst, arith}
use Rattle.syn_rows.specs.declared.Lit.{Lit}
use Rattle.syn_rows.specs.declared.Row.{Row}
use Rattle.syn_rows.specs.Values.{rows_function}
use Rattle.syn_netlist.specs.Frames.{frame_in}
use Rattle.syn_netlist.specs.Lists as lists
use Rattle.syn_network.specs.NamedGraphs.{IsNamedGraph}
use Rattle.syn_network.specs.Spelling.{network}
use Rattle.syn_network.specs.Networks.{HasOwnSources}
use Rattle.syn_lutnet.specs.Data.{luts_data}
use Rattle.syn_network.specs.WrittenLuts.{network_of}
use Rattle.syn_build.specs.GraphOfLuts.{IsGraphOfLuts}
use Rattle.syn_lut_rows.specs.LutLiterals.{AllThere}
use Rattle.syn_lutnet.specs.LutData.{Lut, luts_function}
use Rattle.syn_lutnet.proofs.LutParts.{eight_exceeded_by_none}
use Rattle.syn_network.proofs.Naming.{own_stays}
use Rattle.syn_build.proofs.LutValues.{graph_of_luts}
use Rattle.syn_build.proofs.luts.build_luts.Goals as goal

pub finish-requires-clause-sources : goal.finish-requires-clause-sources
finish-requires-clause-sources c = c.in_ok-built.ensures.sources ∙ c.args.net.now.named.sources_are ∙ ap (λ (f : lists.Frame). length (lists.sources f)) (sym c.in_ok-frame.ensures.same)

pub finish-requires-clause-count : goal.finish-requires-clause-count
finish-requires-clause-count c = ap (λ (ls : List Lit). length ls) c.as_slice.ensures.value ∙ c.in_ok-built.ensures.count ∙ c.args.net.now.named.observed_are ∙ ap (λ (f : lists.Frame). length (lists.observed f)) (sym c.in_ok-frame.ensures.same)

pub finish-requires-clause-within : goal.finish-requires-clause-within
finish-requires-clause-within c = subst (AllThere c.in_ok-built.built.hashed.rows.items) (sym c.as_slice.ensures.value) c.in_ok-built.ensures.within

pub finish-requires-clause-own : goal.finish-requires-clause-own
finish-requires-clause-own c =
    let net = c.args.net.now in
    let outs = c.in_ok-built.built.observed.items in
    let own = own_stays (frame_in net.frame) net.body.source_count net.body.observed outs net.named.sources_are c.in_ok-built.ensures.count c.in_ok-built.ensures.stay net.named.own in
    subst (λ (f : lists.Frame). HasOwnSources f c.as_slice.result.now) (sym c.in_ok-frame.ensures.same) (subst (HasOwnSources (frame_in net.frame)) (sym c.as_slice.ensures.value) own)

pub returns-clause-frame : goal.returns-clause-frame
returns-clause-frame c = ap frame_in c.in_ok-graph.ensures.frame ∙ c.in_ok-frame.ensures.same

pub returns-clause-few : goal.returns-clause-few
returns-clause-few c = omega (arith, c.in_ok-graph.ensures.fewer, c.in_ok-built.ensures.few, c.args.net.now.named.sources_are)

-- the rows that are kept have the function of the LUTs
same_function : (rows : List Row) (outs lits : List Lit) (luts : List Lut) {count sources : ℕ} {kept : List Lit} {new : List Bool → List Bool} → count ≡ sources → ((bits : List Bool) → new bits ≡ rows_function rows kept bits) → kept ≡ outs
    → ((bits : List Bool) → length bits ≡ count → rows_function rows outs bits ≡ luts_function luts lits bits) → (bits : List Bool) → length bits ≡ sources → new bits ≡ luts_function luts lits bits
same_function rows outs lits luts counted values is same bits long = values bits ∙ ap (λ (ls : List Lit). rows_function rows ls bits) is ∙ same bits (long ∙ sym counted)

pub returns-clause-function : goal.returns-clause-function
returns-clause-function c =
    same_function c.in_ok-built.built.hashed.rows.items c.in_ok-built.built.observed.items c.args.net.now.body.observed (luts_data c.args.net.now.body.luts) c.args.net.now.named.sources_are c.in_ok-graph.ensures.values c.as_slice.ensures.value c.in_ok-built.ensures.function

pub returns-clause-network : goal.returns-clause-network
returns-clause-network c =
    let net = c.args.net.now in
    let g = c.in_ok-graph.graph in
    let framed : frame_in g.frame ≡ frame_in net.frame = ap frame_in c.in_ok-graph.ensures.frame ∙ c.in_ok-frame.ensures.same in
    subst (λ (f : lists.Frame). IsGraphOfLuts (network_of net) (network f g.body.rows g.body.observed)) (sym framed)
    (graph_of_luts c.network_of_luts.ensures c.luts_have_function.ensures c.network_of_graph.ensures c.graph_has_function.ensures c.same_from_function.ensures (frame_in net.frame) (luts_data net.body.luts) net.body.observed g.body.rows g.body.observed
    net.frame.clocks_once net.frame.sources_once net.net 8 (eight_exceeded_by_none net.body.luts) (subst (λ (f : lists.Frame). IsNamedGraph f g.body.rows g.body.observed) framed g.graph)
    (same_function c.in_ok-built.built.hashed.rows.items c.in_ok-built.built.observed.items net.body.observed (luts_data net.body.luts) net.named.sources_are c.in_ok-graph.ensures.values c.as_slice.ensures.value c.in_ok-built.ensures.function) (omega (arith, c.in_ok-graph.ensures.fewer, c.in_ok-built.ensures.few, net.named.sources_are)))

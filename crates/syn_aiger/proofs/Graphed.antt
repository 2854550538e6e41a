-- The graph that is made of a file.
use Rattle.std.specs.List.{list_all}
use Rattle.std.proofs.Common.{◌≡◌, ℕ, ◌+◌, ◌<◌, ◌≤◌, ◌^◌, Bool, true, List, [], length, map, get_or, sym, ap, ◌∙◌, subst, arith, length-drop}
use Rattle.std.proofs.lemmas.List.{get_or-map, length-map}
use Rattle.syn_rows.specs.declared.Lit.{Lit}
use Rattle.syn_rows.specs.declared.Row.{Row}
use Rattle.syn_rows.specs.Values.{rows_function}
use Rattle.syn_hashed.specs.Compacting.{CanCompact, IsCompacted}
use Rattle.syn_netlist.specs.Frames.{frame_in}
use Rattle.syn_netlist.specs.Lists.{Frame, observed, sources}
use Rattle.syn_netlist.specs.Numbers.{word_at}
use Rattle.syn_netlist.specs.Values.{Consistent, HasFunction}
use Rattle.syn_netlist.specs.Words.{has_word}
use Rattle.syn_network.specs.GraphShape.{GraphHasFunction, place, rows_of}
use Rattle.syn_network.specs.NamedGraphs.{source_lit}
use Rattle.syn_hashed.specs.Hashed.{lit_at}
use Rattle.syn_network.specs.Spelling.{NetworkOfGraph, NetworkSpells}
use Rattle.syn_network.specs.declared.networks.Network.{Network}
use Rattle.syn_network.specs.Networks.{HasOwnSources, IsNamed}
use Rattle.syn_network.specs.Written.{network_of}
use Rattle.syn_network.proofs.Naming.{own_stays}
use Rattle.syn_graph.specs.declared.Graph.{Graph}
use Rattle.syn_aiger_files.specs.declared.files.Aig.{Aig}
use Rattle.syn_aiger_files.specs.Spelling.{most_variables}
use Rattle.syn_aiger.specs.Faults.{Within, most_ands}
use Rattle.syn_aiger.specs.Framing.{IsBodyOf}
use Rattle.syn_aiger.specs.Naming.{literal_named, name_of, outputs_of, sources_of}
use Rattle.syn_aiger.specs.Networks.{IsGraphOfAig, frame_of, observed_literals}
use Rattle.syn_aiger.specs.Placing.{IsSound, ReadsDefined, is_defined, lit_in, rows_in}
use Rattle.syn_aiger.specs.Ranks.{HasRank}
use Rattle.syn_aiger.specs.Values.{FitsAig, defined_variables, source_literals, source_variables, value_of}
use Rattle.syn_aiger.proofs.Giving.{literal_of}
use Rattle.syn_aiger.proofs.Rowed.{can_compact, few_ands, fits, has_sources, literal_values, many_defined, many_rows, total}
use Rattle.syn_aiger.proofs.Slicing.{frame_sources, many_outputs, source_lit_is, source_literals_are}

module _ (g : Aig) (sound : IsSound g) (defined : ReadsDefined g) (rank : HasRank g) (all : list_all (is_defined g) (observed_literals g) ≡ true) where
  abbrev lits : List Lit
  lits = map (lit_in g) (observed_literals g)

  pub many_sources_of : length (sources (frame_of g)) ≡ length (source_literals g)
  many_sources_of = ap length (frame_sources g) ∙ length-map (sources_of g) name_of ∙ sym (length-map (sources_of g) literal_of) ∙ ap length (source_literals_are g)

  pub few_rows : length (rows_in g) ≤ 2 ^ 28
  few_rows = omega (arith, many_rows g, many_defined g, sound.few)

  compacts : CanCompact (length (source_literals g)) (rows_in g) lits
  compacts = can_compact g defined rank (observed_literals g) all

  pub as_many : length lits ≡ length (observed (frame_of g))
  as_many = length-map (observed_literals g) (lit_in g) ∙ length-map (observed (frame_of g)) (literal_named g)

  lit_there : (i : ℕ) → i < length lits → lit_at lits i ≡ lit_in g (literal_named g (word_at (observed (frame_of g)) i))
  lit_there i l =
      let inside : i < length (observed (frame_of g)) = omega (arith, as_many) in
      get_or-map (lit_in g) (observed_literals g) i 0 (record { 0 = 0 }) (omega (arith, length-map (observed (frame_of g)) (literal_named g)))
      ∙ ap (lit_in g) (get_or-map (literal_named g) (observed (frame_of g)) i [] 0 inside)

  pub owns : HasOwnSources (frame_of g) lits
  owns i l h =
      lit_there i l
      ∙ source_lit_is g sound (word_at (observed (frame_of g)) i) (subst (λ (ws : List (List ℕ)). has_word ws (word_at (observed (frame_of g)) i) ≡ true) (frame_sources g) h)
      ∙ ap (λ (ws : List (List ℕ)). source_lit (place (word_at (observed (frame_of g)) i) ws)) (sym (frame_sources g))

  -- of what the code makes

  module _ (count : ℕ) (rows : List Row) (ls : List Lit) (e : count ≡ length (source_literals g)) (f : rows ≡ rows_in g) (h : ls ≡ lits) where
    pub can_with : CanCompact count rows ls
    can_with =
        subst (λ (k : ℕ). CanCompact k rows ls) (sym e)
        (subst (λ (x : List Row). CanCompact (length (source_literals g)) x ls) (sym f)
        (subst (λ (x : List Lit). CanCompact (length (source_literals g)) (rows_in g) x) (sym h) compacts))

    pub few_with : length rows ≤ 2 ^ 28
    few_with = subst (λ (x : List Row). length x ≤ 2 ^ 28) (sym f) few_rows

    pub body_with : (new_rows : List Row) (new_lits : List Lit) → IsCompacted count rows ls new_rows new_lits → IsBodyOf g new_rows new_lits
    body_with new_rows new_lits c =
        subst (λ (x : List Lit). IsCompacted (length (source_literals g)) (rows_in g) x new_rows new_lits) h
        (subst (λ (x : List Row). IsCompacted (length (source_literals g)) x ls new_rows new_lits) f
        (subst (λ (k : ℕ). IsCompacted k rows ls new_rows new_lits) e c))

  pub named_with : (frame : Frame) (body : Graph) → frame ≡ frame_of g → body.source_count ≡ length (source_literals g) → IsBodyOf g body.rows body.observed → IsNamed frame body.source_count body.observed
  named_with frame body e s b = subst (λ (x : Frame). IsNamed x body.source_count body.observed) (sym e) (record {
    sources_are = s ∙ sym many_sources_of;
    observed_are = b.same_count ∙ as_many;
    own = own_stays (frame_of g) (length (source_literals g)) lits body.observed (sym many_sources_of) b.same_count b.sources_stay owns;
  })

  -- the network

  module _ (of_graph : NetworkOfGraph) (functions : GraphHasFunction) (graph : Network) (framed : frame_in graph.frame ≡ frame_of g) (body : IsBodyOf g graph.body.rows graph.body.observed) where
    spells : NetworkSpells (frame_in graph.frame) graph.body.rows graph.body.observed
    spells = of_graph (frame_in graph.frame) graph.body.rows graph.body.observed graph.frame.clocks_once graph.frame.sources_once graph.graph

    function : HasFunction (network_of graph) (rows_function graph.body.rows graph.body.observed)
    function =
        subst (λ (rows : List Row). HasFunction (network_of graph) (rows_function rows graph.body.observed)) spells.same_rows
        (subst (λ (ls : List Lit). HasFunction (network_of graph) (rows_function (rows_of (network_of graph)) ls)) spells.same_lits (functions (network_of graph) spells.shape spells.ordered).1)

    few_graph : length graph.body.rows ≤ length (sources (frame_of g)) + 1 + length g.ands
    few_graph = let k = few_ands g defined (observed_literals g) all in let le = body.ands k.0 k.1 in let lt = k.2 in omega (arith, many_sources_of)

    same_values : (v : ℕ → Bool) (w : List ℕ → Bool) → FitsAig g v → Consistent (network_of graph) w → map w (sources (network_of graph).frame) ≡ map v (source_variables g) → map w (observed (network_of graph).frame) ≡ map (value_of v) (observed_literals g)
    same_values v w fit c same =
        let n : ℕ → Bool = λ n. v (get_or (defined_variables g) n 0) in
        function.value w c
        ∙ ap (rows_function graph.body.rows graph.body.observed) same
        ∙ sym (body.same_values (map v (source_variables g)) n (fits g defined v fit) (has_sources g defined v fit))
        ∙ literal_values g defined v fit (observed_literals g) all

    pub is_graph : IsGraphOfAig g (network_of graph)
    is_graph = record {
      frame = framed;
      ordered = spells.ordered;
      shape = spells.shape;
      total = total g defined sound rank;
      values = same_values;
      fewer = omega (arith, spells.ands, length-drop (length (sources (frame_in graph.frame)) + 1) graph.body.rows, few_graph, ap (λ (f : Frame). length (sources f)) framed);
    }

    pub few_nodes : Within g → length graph.body.rows ≤ graph.body.source_count + 1 + most_ands
    few_nodes w = omega (arith, few_graph, w.gates, graph.named.sources_are, ap (λ (f : Frame). length (sources f)) framed)

    pub few_outputs : length graph.frame.outputs ≤ most_variables
    few_outputs = omega (arith, sound.outputs, length-map graph.frame.outputs (word_at graph.frame.names), ap (λ (f : Frame). length f.outputs) framed, length-map (outputs_of g) name_of, many_outputs g)

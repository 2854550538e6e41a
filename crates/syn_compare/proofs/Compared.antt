-- What a comparison of ordered graphs says of the netlists.
use Rattle.std.proofs.Common.{◌≡◌, ℕ, ◌+◌, ◌<◌, Bool, true, false, List, [], length, map, get_or, sym, ap, ap₂, ◌∙◌, inl, arith}
use Rattle.std.specs.List.{list_all}
use Rattle.std.proofs.lemmas.List.{ext_get_or, get_or-map, length-append, length-map}
use Rattle.syn_rows.specs.Values.{rows_function}
use Rattle.syn_graph.specs.declared.Graph.{Graph}
use Rattle.syn_netlist.specs.declared.frames.Frame as code
use Rattle.syn_netlist.specs.Frames.{frame_in}
use Rattle.syn_netlist.specs.Kept.{latch_in}
use Rattle.syn_netlist.specs.Lists.{Frame, Netlist, latch_output, sources}
use Rattle.syn_netlist.specs.Numbers.{word_at, words_at}
use Rattle.syn_netlist.specs.Values.{Consistent, IsTotal}
use Rattle.syn_netlist.specs.Words.{distinct, has_word}
use Rattle.syn_netlist.proofs.Sets.{map_within}
use Rattle.syn_network.specs.GraphShape.{place}
use Rattle.syn_network.proofs.Gates.{place_back}
use Rattle.syn_cec.specs.declared.equality.Equality.{Equality}
use Rattle.syn_cec.specs.declared.equality.Equality.TheVariants as graphs
use Rattle.syn_cec.specs.Compared.{IsCompared}
use Rattle.syn_compare.specs.declared.answers.Comparison.{Comparison}
use Rattle.syn_compare.specs.declared.answers.Comparison.TheVariants as networks
use Rattle.syn_compare.specs.Comparing.{Compares, compared, signals}
use Rattle.syn_compare.specs.Matching.{latch_names}
use Rattle.syn_compare.specs.Ordering.{IsOrderedBy}
use Rattle.syn_compare.specs.Telling.{IsInside, IsTold}
use Rattle.syn_compare.proofs.Ordered.{length-signals}

-- the names by which signals are compared are as many as the outputs and the latches
pub length-compared : (f : code.Frame) → length (compared (frame_in f)) ≡ length f.outputs + length f.latches
length-compared f =
    length-append (words_at f.names f.outputs) (latch_names (frame_in f))
    ∙ ap₂ (λ (a b : ℕ). a + b) (length-map f.outputs (word_at f.names)) (length-map (map (latch_in f.names) f.latches) latch_output ∙ length-map f.latches (latch_in f.names))

-- distinct words can be given any values
assigned : List (List ℕ) → List Bool → List ℕ → Bool
assigned words bits word = get_or bits (place word words) false

assigned_are : (words : List (List ℕ)) (bits : List Bool) → distinct words ≡ true → length bits ≡ length words → map (assigned words bits) words ≡ bits
unfolding assigned
assigned_are words bits d long = ext_get_or false (map (λ word. get_or bits (place word words) false) words) bits (length-map words (λ word. get_or bits (place word words) false) ∙ sym long) (λ j lt.
    let inside : j < length words = omega (arith, lt, length-map words (λ word. get_or bits (place word words) false)) in
    get_or-map (λ word. get_or bits (place word words) false) words j [] false inside ∙ ap (λ (k : ℕ). get_or bits k false) (place_back words d j inside))

-- the value of a signal, by the graph
signal_value : (order : Frame) (n : Netlist) (g : Graph) → IsOrderedBy order n g → (v : List ℕ → Bool) → Consistent n v → (bits : List Bool) → map v (sources order) ≡ bits → (i : ℕ) → i < length (compared order)
    → v (word_at (signals order n.frame) i) ≡ get_or (rows_function g.rows g.observed bits) i false
signal_value order n g is v c bits at i lt =
    sym (get_or-map v (signals order n.frame) i [] false (omega (arith, lt, length-signals order n.frame)))
    ∙ ap (λ (bs : List Bool). get_or bs i false) (is.values v c ∙ ap (rows_function g.rows g.observed) at)

pub inside : (order : Frame) (n : Netlist) (g h : Graph) → IsOrderedBy order n g → (e : Equality) → IsCompared g h e → IsInside (length (compared order)) e
inside order n g h is graphs.Equivalent c = tt
inside order n g h is (graphs.Different signal values) c = (let lt = c.1.0 in omega (arith, lt, is.count))
inside order n g h is (graphs.Undecided signals) c = tt

pub compares : (n m : Netlist) (g h : Graph) → IsTotal n → IsTotal m → distinct (sources n.frame) ≡ true → list_all (has_word (sources m.frame)) (sources n.frame) ≡ true
    → IsOrderedBy n.frame n g → IsOrderedBy n.frame m h → (e : Equality) (c : Comparison) → IsCompared g h e → IsTold (compared n.frame) e c → Compares n m c
compares n m g h total_n total_m d within is_g is_h graphs.Equivalent networks.Equivalent same told = λ v w cv cw agree.
    is_g.values v cv ∙ ap (rows_function g.rows g.observed) agree ∙ same (map w (sources n.frame)) ∙ sym (is_h.values w cw)
compares n m g h total_n total_m d within is_g is_h (graphs.Different signal values) (networks.Different name given) differs told =
    let long : length values.items ≡ length (sources n.frame) = differs.0 ∙ is_g.sources_are in
    let bits = assigned (sources n.frame) values.items in
    let are : map bits (sources n.frame) ≡ given.items = assigned_are (sources n.frame) values.items d long ∙ ap (λ x. x.items) (sym told.1) in
    let (v, cv, at_v) = total_n bits in
    let (w, cw, at_w) = total_m bits in
    let v_is : map v (sources n.frame) ≡ given.items = at_v ∙ are in
    let w_is : map w (sources n.frame) ≡ given.items = map_within w bits (sources m.frame) (sources n.frame) within at_w ∙ are in
    let low : signal < length (compared n.frame) = (let lt = differs.1.0 in omega (arith, lt, is_g.count)) in (
      v,
      w,
      cv,
      cw,
      v_is,
      w_is,
      signal,
      low,
      sym told.0,
      λ e. differs.1.1 (
          sym (signal_value n.frame n g is_g v cv values.items (v_is ∙ ap (λ x. x.items) told.1) signal low) ∙ e ∙ signal_value n.frame m h is_h w cw values.items (w_is ∙ ap (λ x. x.items) told.1) signal low),
    )
compares n m g h total_n total_m d within is_g is_h (graphs.Undecided signals) (networks.Undecided left of) many told =
    (omega (arith, many.0, told.0), omega (arith, many.1, told.0, told.1, is_g.count), told.1, inl (omega (arith, many.2, is_g.sources_are)))
compares n m g h total_n total_m d within is_g is_h graphs.Equivalent (networks.Different name given) same told = absurd told
compares n m g h total_n total_m d within is_g is_h graphs.Equivalent (networks.Undecided left of) same told = absurd told
compares n m g h total_n total_m d within is_g is_h (graphs.Different signal values) networks.Equivalent same told = absurd told
compares n m g h total_n total_m d within is_g is_h (graphs.Different signal values) (networks.Undecided left of) same told = absurd told
compares n m g h total_n total_m d within is_g is_h (graphs.Undecided signals) networks.Equivalent same told = absurd told
compares n m g h total_n total_m d within is_g is_h (graphs.Undecided signals) (networks.Different name given) same told = absurd told

-- An AIGER file of a network's graph as one of the network; how large the graph of a file is.
use Rattle.std.proofs.Common.{◌≡◌, ◌⊎◌, ℕ, suc, ◌≤◌, ◌<◌, ◌^◌, Bool, true, false, List, [], ◌∷◌, ◌++◌, length, map, flat_map, refl, sym, ap, ap₂, ◌∙◌, subst, arith, IfOk, Result, Ok, Err, Vec, Global}
use Rattle.std.proofs.lemmas.List.{length-append, length-map}
use Rattle.syn_netlist.specs.Lists.{Frame, Latch, Netlist, control_of, latch_output, latch_reads, observed, sources}
use Rattle.syn_netlist.specs.Meaning.{SameMeaning}
use Rattle.syn_netlist.specs.Values.{Consistent}
use Rattle.syn_netlist.specs.Words.{has_word, without}
use Rattle.syn_netlist.proofs.Sets.{has_head, has_left, has_right}
use Rattle.syn_seq.proofs.Alike.{outputs_alike, reads_alike}
use Rattle.syn_build.specs.BuildFaults.{most_gates}
use Rattle.syn_aiger_files.specs.declared.files.Aig.{Aig}
use Rattle.syn_aiger_files.specs.declared.files.AigLatch.{AigLatch}
use Rattle.syn_aiger_files.specs.declared.files.Place.{Place}
use Rattle.syn_aiger_files.specs.declared.files.Place.TheVariants.{Input as OfInput, Latch as OfLatch}
use Rattle.syn_aiger_files.specs.declared.files.Symbol.{Symbol}
use Rattle.syn_aiger_files.specs.Files.{latch_literal}
use Rattle.syn_aiger.specs.Faults as aiger
use Rattle.syn_aiger.specs.Naming.{Named, feeds_named, feeds_of, inputs_of, latches_of, name_of, outputs_of, sources_named, sources_of}
use Rattle.syn_aiger.specs.Networks.{IsGraphOfAig, frame_of, latches_from}
use Rattle.syn_aiger.specs.Values.{source_literals, source_variables}
use Rattle.syn_aiger.specs.Writing.{IsWrittenAs, feed_of, first_typed, free_signals, init_again, untyped_latch, without_types}
use Rattle.syn_shell.specs.declared.refusal.Refusal.{Refusal}
use Rattle.syn_shell.specs.Networks.{IsSmall, Written, gates_in, graph_network, mapped_network}
use Rattle.syn_shell.specs.Makes.{IsRemade}
use Rattle.syn_shell.specs.Steps.{IsAigerOf, kept_by}

-- what latches load has the same values where observed signals have

feeds_same : (w w' : List ℕ → Bool) (ls : List Latch) → ((c : List ℕ) → has_word (flat_map latch_reads ls) c ≡ true → w c ≡ w' c) → map w (map feed_of ls) ≡ map w' (map feed_of ls)
feeds_same w w' [] h = refl
feeds_same w w' (l ∷ ls) h =
    ap₂ (λ (b : Bool) (bs : List Bool). b ∷ bs)
    (h l.feed (has_left (latch_reads l) (flat_map latch_reads ls) l.feed (has_head l.feed (control_of l.kind))))
    (feeds_same w w' ls (λ c t. h c (has_right (latch_reads l) (flat_map latch_reads ls) c t)))

-- observed signals have the same values where the sources do
observed_alike : (old graph : Netlist) → SameMeaning old graph → (w w' : List ℕ → Bool) → Consistent old w → Consistent graph w' → map w' (sources graph.frame) ≡ map w (sources graph.frame)
    → map w (observed old.frame) ≡ map w' (observed old.frame)
observed_alike old graph same w w' consistent there agrees = same.agree w w' consistent there (subst (λ (f : Frame). map w (sources f) ≡ map w' (sources f)) (sym same.frame) (sym agrees))

-- a file that keeps what a netlist means keeps what another one of the same meaning does
written_alike : (old graph : Netlist) (g : Aig) → SameMeaning old graph → IsWrittenAs graph g → IsWrittenAs old g
written_alike old graph g same h = record {
  untyped = ap first_typed e ∙ h.untyped;
  inputs = h.inputs ∙ sym (ap free_signals e);
  outputs = h.outputs ∙ sym (ap (λ (f : Frame). f.outputs) e);
  latches = h.latches ∙ sym (ap (λ (f : Frame). map latch_output f.latches) e);
  inits = h.inits ∙ sym (ap (λ (f : Frame). map init_again f.latches) e);
  values = λ v w fits consistent agrees.
      let there = same.right w in
      outputs_alike old.frame w there.0 (observed_alike old graph same w there.0 consistent there.1 there.2)
      ∙ ap (λ (f : Frame). map there.0 f.outputs) e
      ∙ h.values v there.0 fits there.1 (there.2 ∙ subst (λ (f : Frame). map w (sources f) ≡ map v (source_variables g)) e agrees);
  next = λ v w fits consistent agrees.
      let there = same.right w in
      feeds_same w there.0 old.frame.latches (reads_alike old.frame w there.0 (observed_alike old graph same w there.0 consistent there.1 there.2))
      ∙ ap (λ (f : Frame). map there.0 (map feed_of f.latches)) e
      ∙ h.next v there.0 fits there.1 (there.2 ∙ subst (λ (f : Frame). map w (sources f) ≡ map v (source_variables g)) e agrees);
}
  where
    e : old.frame ≡ graph.frame
    e = same.frame

-- the same of types left out

-- a frame without the types of its latches
abbrev bare_frame : Frame → Frame
bare_frame f = record { model = f.model; inputs = f.inputs; clocks = f.clocks; outputs = f.outputs; latches = map untyped_latch f.latches }

bare_outputs : (ls : List Latch) → map latch_output (map untyped_latch ls) ≡ map latch_output ls
bare_outputs [] = refl
bare_outputs (l ∷ ls) = ap (λ (ws : List (List ℕ)). l.output ∷ ws) (bare_outputs ls)

bare_feeds : (ls : List Latch) → map feed_of (map untyped_latch ls) ≡ map feed_of ls
bare_feeds [] = refl
bare_feeds (l ∷ ls) = ap (λ (ws : List (List ℕ)). l.feed ∷ ws) (bare_feeds ls)

bare_sources : (f : Frame) → sources (bare_frame f) ≡ sources f
bare_sources f = ap (λ (ws : List (List ℕ)). f.inputs ++ (without f.inputs f.clocks ++ ws)) (bare_outputs f.latches)

bare_alike : (old graph : Netlist) (g : Aig) → SameMeaning old graph → IsWrittenAs (without_types graph) g → IsWrittenAs (without_types old) g
bare_alike old graph g same h = record {
  untyped = ap (λ (f : Frame). first_typed (bare_frame f)) e ∙ h.untyped;
  inputs = h.inputs ∙ sym (ap (λ (f : Frame). free_signals (bare_frame f)) e);
  outputs = h.outputs ∙ sym (ap (λ (f : Frame). f.outputs) e);
  latches = h.latches ∙ sym (ap (λ (f : Frame). map latch_output (bare_frame f).latches) e);
  inits = h.inits ∙ sym (ap (λ (f : Frame). map init_again (bare_frame f).latches) e);
  values = λ v w fits consistent agrees.
      let there = same.right w in
      outputs_alike old.frame w there.0 (observed_alike old graph same w there.0 consistent there.1 there.2)
      ∙ ap (λ (f : Frame). map there.0 f.outputs) e
      ∙ h.values v there.0 fits there.1 (at_sources w there.0 v there.2 agrees);
  next = λ v w fits consistent agrees.
      let there = same.right w in
      ap (map w) (bare_feeds old.frame.latches)
      ∙ feeds_same w there.0 old.frame.latches (reads_alike old.frame w there.0 (observed_alike old graph same w there.0 consistent there.1 there.2))
      ∙ ap (λ (f : Frame). map there.0 (map feed_of f.latches)) e
      ∙ sym (ap (map there.0) (bare_feeds graph.frame.latches))
      ∙ h.next v there.0 fits there.1 (at_sources w there.0 v there.2 agrees);
}
  where
    e : old.frame ≡ graph.frame
    e = same.frame

    at_sources : (w w' : List ℕ → Bool) (v : ℕ → Bool) → map w' (sources graph.frame) ≡ map w (sources graph.frame) → map w (sources (bare_frame old.frame)) ≡ map v (source_variables g)
        → map w' (sources (bare_frame graph.frame)) ≡ map v (source_variables g)
    at_sources w w' v there agrees =
        ap (map w') (bare_sources graph.frame) ∙ there ∙ ap (λ (f : Frame). map w (sources f)) (sym e) ∙ sym (ap (map w) (bare_sources old.frame)) ∙ agrees

-- by whether they are left out
kept_alike : (bare : Bool) (old graph : Netlist) (g : Aig) → SameMeaning old graph → IsWrittenAs (kept_by bare graph) g → IsWrittenAs (kept_by bare old) g
kept_alike false old graph g same h = written_alike old graph g same h
kept_alike true old graph g same h = bare_alike old graph g same h

-- the file of a net's graph is one of the net
aiger_of_luts : (ascii bare : Bool) (old graph : Netlist) (bytes : List ℕ) → IsRemade (mapped_network old) (graph_network graph) → gates_in (mapped_network old) ≤ most_gates
    → IsAigerOf ascii bare (graph_network graph) bytes → IsAigerOf ascii bare (mapped_network old) bytes
aiger_of_luts ascii bare old graph bytes made few are = record {
  graph = are.graph;
  made = subst (IsRemade (mapped_network old)) (sym are.made) made;
  gates = few;
  typeless = λ left. ap first_typed made.same.frame ∙ are.typeless left;
  is = are.is;
  spells = are.spells;
  keeps = kept_alike bare old graph _ made.same are.keeps;
}

pub aiger_of_network : (ascii bare : Bool) (network : Written) (old graph : Netlist) (r : Result (Vec ℕ Global) Refusal) → network ≡ mapped_network old → IsRemade (mapped_network old) (graph_network graph) → gates_in (mapped_network old) ≤ most_gates
    → IfOk r (λ (bytes : Vec ℕ Global). IsAigerOf ascii bare (graph_network graph) bytes.items) → IfOk r (λ (bytes : Vec ℕ Global). IsAigerOf ascii bare network bytes.items)
aiger_of_network ascii bare network old graph (Ok bytes) is made few are = subst (λ (n : Written). IsAigerOf ascii bare n bytes.items) (sym is) (aiger_of_luts ascii bare old graph bytes.items made few are)
aiger_of_network ascii bare network old graph (Err cause) is made few are = tt

-- the graph of a file has as many sources as the file

named_count : (symbols : List Symbol) (place : Place) (index : ℕ) (ls : List ℕ) (given : List Named) → length (sources_named symbols place index ls given) ≡ length ls
named_count symbols place index [] given = refl
named_count symbols place index (l ∷ ls) given = ap suc (named_count symbols place (suc index) ls _)

feeds_count : (sources : List Named) (index : ℕ) (ls : List AigLatch) (given : List Named) → length (feeds_named sources index ls given) ≡ length ls
feeds_count sources index [] given = refl
feeds_count sources index (l ∷ ls) given = ap suc (feeds_count sources (suc index) ls _)

latches_count : (ls : List AigLatch) (outputs feeds : List Named) → length outputs ≡ length ls → length feeds ≡ length ls → length (latches_from ls outputs feeds) ≡ length ls
latches_count [] outputs feeds e h = refl
latches_count (l ∷ ls) [] feeds e h = absurd (omega (arith, e))
latches_count (l ∷ ls) (o ∷ outputs) [] e h = absurd (omega (arith, h))
latches_count (l ∷ ls) (o ∷ outputs) (f ∷ feeds) e h = ap suc (latches_count ls outputs feeds (omega (arith, e)) (omega (arith, h)))

sources_count : (g : Aig) → length (sources (frame_of g)) ≡ length (source_literals g)
sources_count g =
    let inputs = length-map (inputs_of g) name_of ∙ named_count g.symbols OfInput 0 g.inputs [] in
    let literals = length-map g.latches latch_literal in
    let outputs = named_count g.symbols OfLatch 0 (map latch_literal g.latches) (inputs_of g) in
    let latches = latches_count g.latches (latches_of g) (feeds_of g) (outputs ∙ literals) (feeds_count (sources_of g) 0 g.latches (sources_of g ++ outputs_of g)) in
    let held = length-map (frame_of g).latches latch_output in
    let all = length-append (map name_of (inputs_of g)) (map latch_output (frame_of g).latches) in
    let every = length-append g.inputs (map latch_literal g.latches) in
    omega (arith, inputs, literals, latches, held, all, every)

pub aiger_small : (g : Aig) (m : Netlist) → IsGraphOfAig g m → aiger.Within g → length m.frame.outputs < 2 ^ 28 → IsSmall (graph_network m)
aiger_small g m graph within few = record {
  sources = omega (arith, ap (λ (f : Frame). length (sources f)) graph.frame, sources_count g, within.sources);
  outputs = few;
  ands = omega (arith, graph.fewer, within.gates);
}

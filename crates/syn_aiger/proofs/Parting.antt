-- The numbers of names in four parts, and the frame of them.
use Rattle.std.proofs.Common.{◌≡◌, ℕ, ◌+◌, true, List, [], ◌++◌, length, map, take, drop, codes, sym, refl, ap, ap₂, ◌∙◌, append_assoc, arith, length-append}
use Rattle.std.proofs.lemmas.List.{length-map}
use Rattle.syn_netlist.specs.declared.Latch as code
use Rattle.syn_netlist.specs.Kept.{latch_in, latches_below, no_nil_control, frame_of as frame_by}
use Rattle.syn_netlist.specs.Lists.{Frame, Latch, sources}
use Rattle.syn_netlist.specs.Numbers.{all_below, word_at, words_at}
use Rattle.syn_netlist.specs.Words.{distinct, is_word}
use Rattle.syn_aiger_files.specs.declared.files.Aig.{Aig}
use Rattle.syn_aiger_files.specs.declared.files.AigLatch.{AigLatch}
use Rattle.syn_aiger.specs.Framing.{AreParts}
use Rattle.syn_aiger.specs.Keeping.{Keeps}
use Rattle.syn_aiger.specs.Naming.{Named, feeds_of, inputs_of, latches_of, name_of, named_of, outputs_of, sources_of}
use Rattle.syn_aiger.specs.Networks.{frame_of, latches_from}
use Rattle.syn_aiger.specs.declared.given.Given.{Given}
use Rattle.syn_aiger.proofs.Slicing.{below_drop, below_take, frame_sources, many_feeds, many_inputs, many_latches, many_outputs, sources_distinct, words_back, words_front}

-- The four parts of numbers, and of what they are.
pub record Parted (g : Aig) (names : List (List ℕ)) (a b o f : List ℕ) : Type 0 where
  pub inputs : words_at names a ≡ map name_of (inputs_of g)
  pub held : words_at names b ≡ map name_of (latches_of g)
  pub outputs : words_at names o ≡ map name_of (outputs_of g)
  pub feeds : words_at names f ≡ map name_of (feeds_of g)
  pub inputs_below : all_below (length names) a ≡ true
  pub held_below : all_below (length names) b ≡ true
  pub outputs_below : all_below (length names) o ≡ true
  pub feeds_below : all_below (length names) f ≡ true

module _ (g : Aig) (s : Given) (k : Keeps s (named_of g)) where
  pub many_numbers : length s.numbers.items ≡ length g.inputs + length g.latches + (length g.outputs + length g.latches)
  many_numbers =
      omega (
        arith,
        ap length k.words,
        length-map s.numbers.items (word_at s.names),
        length-map (named_of g) name_of,
        length-append (sources_of g) (outputs_of g ++ feeds_of g),
        length-append (inputs_of g) (latches_of g),
        length-append (outputs_of g) (feeds_of g),
        many_inputs g,
        many_latches g,
        many_outputs g,
        many_feeds g,
      )

  pub parted : (ns a r b t o f : List ℕ) (i j n : ℕ) → ns ≡ s.numbers.items → i ≡ length g.inputs → j ≡ length g.latches → n ≡ length g.outputs
      → a ≡ take i ns → r ≡ drop i ns → b ≡ take j r → t ≡ drop j r → o ≡ take n t → f ≡ drop n t → Parted g s.names a b o f
  parted ns a r b t o f i j n e ei ej en ea er eb et eo ef =
      let w : List ℕ → List (List ℕ) = words_at s.names in
      let back : List Named = outputs_of g ++ feeds_of g in
      let whole : w ns ≡ map name_of (inputs_of g ++ (latches_of g ++ back)) = ap w e ∙ k.words ∙ ap (map name_of) (append_assoc (inputs_of g) (latches_of g) back) in
      let li : length (inputs_of g) ≡ i = many_inputs g ∙ sym ei in
      let lj : length (latches_of g) ≡ j = many_latches g ∙ sym ej in
      let ln : length (outputs_of g) ≡ n = many_outputs g ∙ sym en in
      let wa : w a ≡ map name_of (inputs_of g) = ap w (ea ∙ ap (λ (m : ℕ). take m ns) (sym li)) ∙ words_front (word_at s.names) ns (inputs_of g) (latches_of g ++ back) whole in
      let wr : w r ≡ map name_of (latches_of g ++ back) = ap w (er ∙ ap (λ (m : ℕ). drop m ns) (sym li)) ∙ words_back (word_at s.names) ns (inputs_of g) (latches_of g ++ back) whole in
      let wb : w b ≡ map name_of (latches_of g) = ap w (eb ∙ ap (λ (m : ℕ). take m r) (sym lj)) ∙ words_front (word_at s.names) r (latches_of g) back wr in
      let wt : w t ≡ map name_of back = ap w (et ∙ ap (λ (m : ℕ). drop m r) (sym lj)) ∙ words_back (word_at s.names) r (latches_of g) back wr in
      let wo : w o ≡ map name_of (outputs_of g) = ap w (eo ∙ ap (λ (m : ℕ). take m t) (sym ln)) ∙ words_front (word_at s.names) t (outputs_of g) (feeds_of g) wt in
      let wf : w f ≡ map name_of (feeds_of g) = ap w (ef ∙ ap (λ (m : ℕ). drop m t) (sym ln)) ∙ words_back (word_at s.names) t (outputs_of g) (feeds_of g) wt in
      let c : ℕ = length s.names in
      let low : all_below c ns ≡ true = ap (all_below c) e ∙ k.below in
      let low_r : all_below c r ≡ true = ap (all_below c) er ∙ below_drop c i ns low in
      let low_t : all_below c t ≡ true = ap (all_below c) et ∙ below_drop c j r low_r in
      record {
        inputs = wa;
        held = wb;
        outputs = wo;
        feeds = wf;
        inputs_below = ap (all_below c) ea ∙ below_take c i ns low;
        held_below = ap (all_below c) eb ∙ below_take c j r low_r;
        outputs_below = ap (all_below c) eo ∙ below_take c n t low_t;
        feeds_below = ap (all_below c) ef ∙ below_drop c n t low_t;
      }

pub frame_made : (g : Aig) (names : List (List ℕ)) (model inputs clocks outputs : List ℕ) (latches : List code.Latch) → model ≡ codes "top" → words_at names inputs ≡ map name_of (inputs_of g) → clocks ≡ [] → words_at names outputs ≡ map name_of (outputs_of g)
    → map (latch_in names) latches ≡ latches_from g.latches (latches_of g) (feeds_of g) → frame_by names model inputs clocks outputs latches ≡ frame_of g
frame_made g names model inputs clocks outputs latches m i c o l =
    ap₂ (λ (x y : List ℕ). record { model = x; inputs = words_at names inputs; clocks = words_at names y; outputs = words_at names outputs; latches = map (latch_in names) latches }) m c
    ∙ ap₂ (λ (x y : List (List ℕ)). record { model = codes "top"; inputs = x; clocks = []; outputs = y; latches = map (latch_in names) latches }) i o
    ∙ ap (λ (ls : List Latch). record { model = codes "top"; inputs = map name_of (inputs_of g); clocks = []; outputs = map name_of (outputs_of g); latches = ls }) l

pub frame_apart : (g : Aig) (frame : Frame) → frame ≡ frame_of g → distinct (sources frame) ≡ true
frame_apart g frame e = ap (λ (f : Frame). distinct (sources f)) e ∙ ap distinct (frame_sources g) ∙ sources_distinct g

pub parts_of : (g : Aig) (names : List (List ℕ)) (a b o f model inputs outputs : List ℕ) (states : List AigLatch) (found latches : List code.Latch) → Parted g names a b o f → model ≡ codes "top" → inputs ≡ a → outputs ≡ o → latches ≡ found → states ≡ g.latches
    → ((ws : List (List ℕ)) (os fs : List Named) → words_at ws b ≡ map name_of os → words_at ws f ≡ map name_of fs → map (latch_in ws) found ≡ latches_from states os fs)
    → ((count : ℕ) → all_below count b ≡ true → all_below count f ≡ true → latches_below count found ≡ true)
    → ((ws : List (List ℕ)) → no_nil_control ws found ≡ true) → AreParts g names model inputs outputs latches
parts_of g names a b o f model inputs outputs states found latches p em ei eo el es made low none = record {
  model_is_word = ap is_word em;
  inputs_below = ap (all_below (length names)) ei ∙ p.inputs_below;
  outputs_below = ap (all_below (length names)) eo ∙ p.outputs_below;
  latches_low = ap (latches_below (length names)) el ∙ low (length names) p.held_below p.feeds_below;
  controls = ap (no_nil_control names) el ∙ none names;
  frame = ap (frame_by names model inputs [] outputs) el
      ∙ frame_made g names model inputs [] outputs found em (ap (words_at names) ei ∙ p.inputs) refl (ap (words_at names) eo ∙ p.outputs)
      (made names (latches_of g) (feeds_of g) p.held p.feeds ∙ ap (λ (ls : List AigLatch). latches_from ls (latches_of g) (feeds_of g)) es);
}

-- the frame of names, a model's name, numbers and latches that equal such parts
pub frame_is : (g : Aig) (names words : List (List ℕ)) (model inputs clocks outputs : List ℕ) (latches : List code.Latch) → AreParts g words model inputs outputs latches → names ≡ words → clocks ≡ []
    → frame_by names model inputs clocks outputs latches ≡ frame_of g
frame_is g names words model inputs clocks outputs latches p en ec = ap₂ (λ (ws : List (List ℕ)) (ns : List ℕ). frame_by ws model inputs ns outputs latches) en ec ∙ p.frame

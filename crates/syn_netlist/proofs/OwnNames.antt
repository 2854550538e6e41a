-- The names of a frame: all that it refers to are among them.
use Rattle.std.proofs.Common.{◌≡◌, ℕ, ◌&&◌, not, Bool, true, List, [], ◌∷◌, ◌++◌, map, flat_map, refl, sym, ap, ◌∙◌, inl, inr}
use Rattle.std.specs.List.{list_all}
use Rattle.std.proofs.lemmas.Bool.{and_parts, and_from, cases_Bool, cond-true, cond-false, not_from_false, not_from_true}
use Rattle.syn_netlist.specs.declared.frames.Frame.{Frame}
use Rattle.syn_netlist.specs.declared.Latch.{Latch}
use Rattle.syn_netlist.specs.Frames.{frame_in}
use Rattle.syn_netlist.specs.Kept.{control_number, latch_in, latch_numbers}
use Rattle.syn_netlist.specs.Lists.{control_of, latch_output, latch_reads, observed, own_names, sources}
use Rattle.syn_netlist.specs.Lists as lists
use Rattle.syn_netlist.specs.Numbers.{kind_at, word_at, words_at}
use Rattle.syn_netlist.specs.Words.{firsts, has_word, without}
use Rattle.syn_netlist.proofs.Arranging.{all_left, all_right}
use Rattle.syn_netlist.proofs.Places.{words_at-control}
use Rattle.syn_netlist.proofs.Sets.{all_at, all_each}

-- what holds of some words, and of the others that are none of them, holds of all
without_all : (test : List ℕ → Bool) (others ws : List (List ℕ)) → list_all test others ≡ true → list_all test (without others ws) ≡ true → list_all test ws ≡ true
without_all test others [] h k = refl
without_all test others (w ∷ ws) h k = elim (cases_Bool (has_word others w)) [
  | inl e ↦ and_from (test w) (list_all test ws) (all_at test others w h e)
      (without_all test others ws h (sym (ap (list_all test) (cond-false (not (has_word others w)) (w ∷ without others ws) (without others ws) (not_from_true (has_word others w) e))) ∙ k))
  | inr e ↦
      let parts = and_parts (test w) (list_all test (without others ws)) (sym (ap (list_all test) (cond-true (not (has_word others w)) (w ∷ without others ws) (without others ws) (not_from_false (has_word others w) e))) ∙ k) in
      and_from (test w) (list_all test ws) parts.0 (without_all test others ws h parts.1)
]

-- what holds of the first ones of a list holds of all of it
firsts_all : (test : List ℕ → Bool) (ws : List (List ℕ)) → list_all test (firsts ws) ≡ true → list_all test ws ≡ true
firsts_all test [] h = refl
firsts_all test (w ∷ ws) h =
    let parts = and_parts (test w) (list_all test (without (w ∷ []) (firsts ws))) h in
    and_from (test w) (list_all test ws) parts.0 (firsts_all test ws (without_all test (w ∷ []) (firsts ws) (and_from (test w) true parts.0 refl) parts.1))

-- each name of a latch is its output, or what it reads
latches_all : (test : List ℕ → Bool) (names : List (List ℕ)) (latches : List Latch) → list_all test (map latch_output (map (latch_in names) latches)) ≡ true → list_all test (flat_map latch_reads (map (latch_in names) latches)) ≡ true
    → list_all (λ latch. list_all test (words_at names (latch_numbers latch))) latches ≡ true
latches_all test names [] h k = refl
latches_all test names (l ∷ ls) h k =
    let outputs = and_parts (test (word_at names l.output)) (list_all test (map latch_output (map (latch_in names) ls))) h in
    let here : list_all test (latch_reads (latch_in names l)) ≡ true = all_left test (latch_reads (latch_in names l)) (flat_map latch_reads (map (latch_in names) ls)) k in
    let below : list_all test (flat_map latch_reads (map (latch_in names) ls)) ≡ true = all_right test (latch_reads (latch_in names l)) (flat_map latch_reads (map (latch_in names) ls)) k in
    let parts = and_parts (test (word_at names l.feed)) (list_all test (control_of (kind_at names l.kind))) here in
    and_from (list_all test (words_at names (latch_numbers l))) (list_all (λ latch. list_all test (words_at names (latch_numbers latch))) ls)
    (and_from (test (word_at names l.feed)) (test (word_at names l.output) && list_all test (words_at names (control_number l.kind))) parts.0
    (and_from (test (word_at names l.output)) (list_all test (words_at names (control_number l.kind))) outputs.0 (ap (list_all test) (words_at-control names l.kind) ∙ parts.1)))
    (latches_all test names ls outputs.1 below)

-- All names that the frame refers to are among these.
pub record AreAmong (f : Frame) (own : List (List ℕ)) : Type 0 where
  pub inputs : list_all (has_word own) (words_at f.names f.inputs) ≡ true
  pub clocks : list_all (has_word own) (words_at f.names f.clocks) ≡ true
  pub outputs : list_all (has_word own) (words_at f.names f.outputs) ≡ true
  pub latches : list_all (λ latch. list_all (has_word own) (words_at f.names (latch_numbers latch))) f.latches ≡ true

pub own_has_all : (f : Frame) → AreAmong f (own_names (frame_in f))
own_has_all f = record {
  inputs = inputs;
  clocks = without_all test g.inputs g.clocks inputs (all_left test (without g.inputs g.clocks) (map latch_output g.latches) behind);
  outputs = all_left test g.outputs (flat_map latch_reads g.latches) read;
  latches = latches_all test f.names f.latches (all_right test (without g.inputs g.clocks) (map latch_output g.latches) behind) (all_right test g.outputs (flat_map latch_reads g.latches) read);
}
  where
    g : lists.Frame
    g = frame_in f

    test : List ℕ → Bool
    test = has_word (own_names g)

    all : list_all test (sources g ++ observed g) ≡ true
    all = firsts_all test (sources g ++ observed g) (all_each test (own_names g) (λ w h. h))

    inputs : list_all test g.inputs ≡ true
    inputs = all_left test g.inputs (without g.inputs g.clocks ++ map latch_output g.latches) (all_left test (sources g) (observed g) all)

    behind : list_all test (without g.inputs g.clocks ++ map latch_output g.latches) ≡ true
    behind = all_right test g.inputs (without g.inputs g.clocks ++ map latch_output g.latches) (all_left test (sources g) (observed g) all)

    read : list_all test (g.outputs ++ flat_map latch_reads g.latches) ≡ true
    read = firsts_all test (g.outputs ++ flat_map latch_reads g.latches) (all_right test (sources g) (observed g) all)

-- the same of equal lists
pub among : (own names : List (List ℕ)) (numbers : List ℕ) (f : Frame) (given : List ℕ) → own ≡ own_names (frame_in f) → names ≡ f.names → numbers ≡ given → list_all (has_word (own_names (frame_in f))) (words_at f.names given) ≡ true → list_all (has_word own) (words_at names numbers) ≡ true
among own names numbers f given e g h all =
    ap (λ (ws : List (List ℕ)). list_all (has_word ws) (words_at names numbers)) e
    ∙ ap (λ (ws : List (List ℕ)). list_all (has_word (own_names (frame_in f))) (words_at ws numbers)) g
    ∙ ap (λ (ns : List ℕ). list_all (has_word (own_names (frame_in f))) (words_at f.names ns)) h
    ∙ all

pub latches_among : (own names : List (List ℕ)) (latches : List Latch) (f : Frame) → own ≡ own_names (frame_in f) → names ≡ f.names → latches ≡ f.latches → list_all (λ latch. list_all (has_word own) (words_at names (latch_numbers latch))) latches ≡ true
latches_among own names latches f e g h =
    ap (λ (ws : List (List ℕ)). list_all (λ latch. list_all (has_word ws) (words_at names (latch_numbers latch))) latches) e
    ∙ ap (λ (ws : List (List ℕ)). list_all (λ latch. list_all (has_word (own_names (frame_in f))) (words_at ws (latch_numbers latch))) latches) g
    ∙ ap (λ (ls : List Latch). list_all (λ latch. list_all (has_word (own_names (frame_in f))) (words_at f.names (latch_numbers latch))) ls) h
    ∙ (own_has_all f).latches

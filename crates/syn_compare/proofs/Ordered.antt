-- Values at the places of sources, and of signals by their literals.
use Rattle.std.proofs.Common.{◌≡◌, ℕ, zero, suc, ◌+◌, ◌<◌, Bool, true, false, All, List, [], ◌∷◌, ◌++◌, length, map, flat_map, get_or, bytes_eq, Result, Ok, Err, IfOk, refl, sym, ap, ap₂, ◌∙◌, subst, inl, inr, arith}
use Rattle.std.specs.List.{list_all}
use Rattle.std.proofs.lemmas.Bool.{and_parts, and_from, both_ways, cases_Bool, cond-true, cond-false, or_from}
use Rattle.std.proofs.lemmas.List.{get_or-map, length-append, length-map}
use Rattle.syn_rows.specs.declared.Lit.{Lit}
use Rattle.syn_rows.specs.Rows.{node_of}
use Rattle.syn_rows.specs.Values.{given_by, lit_value, rows_function, value_in, values_of}
use Rattle.syn_rows.proofs.Folds.{one_valuation_is}
use Rattle.syn_graph.specs.declared.Graph.{Graph}
use Rattle.syn_netlist.specs.declared.Latch as code
use Rattle.syn_netlist.specs.Frames.{frame_in}
use Rattle.syn_netlist.specs.Kept.{control_number, latch_in, latch_numbers, latches_below}
use Rattle.syn_netlist.specs.Lists.{Frame, Latch, control_of, latch_output, latch_reads, observed, sources}
use Rattle.syn_netlist.specs.Numbers.{all_below, word_at}
use Rattle.syn_netlist.specs.Values.{HasFunction}
use Rattle.syn_netlist.specs.Words.{firsts, has_word, without}
use Rattle.syn_netlist.proofs.Evaluation.{ordered_has_one}
use Rattle.syn_netlist.proofs.Places.{below_from, below_parts, has_word_at}
use Rattle.syn_netlist.proofs.Sets.{all_at, all_each, has_head, has_left, has_right, has_tail, same_word}
use Rattle.syn_network.specs.GraphShape.{place}
use Rattle.syn_network.proofs.Spelled.{graph_has_function_is, has_without, in_rest, map_through, place_lt, place_value}
use Rattle.syn_network.specs.Written.{network_of}
use Rattle.syn_network.specs.declared.networks.Network.{Network}
use Rattle.syn_network.proofs.Meaning.{network_has_function}
use Rattle.syn_network.proofs.SpelledNetworks.{network_spells}
use Rattle.syn_compare.specs.Comparing.{compared, feed_of, signals}
use Rattle.syn_compare.specs.Matching.{latch_names}
use Rattle.syn_compare.specs.Ordering.{IsOrderedBy, Suits, lit_of}
use Rattle.syn_compare.specs.Places.{places_in}
use Rattle.syn_compare.specs.Renaming.{values_at}

-- sources

pub sources_at : (v : List ℕ → Bool) (all own : List (List ℕ)) → list_all (has_word all) own ≡ true → values_at (places_in all own) (map v all) ≡ map v own
sources_at v all [] h = refl
sources_at v all (w ∷ ws) h =
    let parts = and_parts (has_word all w) (list_all (has_word all) ws) h in
    ap₂ (λ (b : Bool) (bs : List Bool). b ∷ bs) (place_value v all w parts.0) (sources_at v all ws parts.1)

pub places_below : (all own : List (List ℕ)) → list_all (has_word all) own ≡ true → all_below (length all) (places_in all own) ≡ true
places_below all [] h = refl
places_below all (w ∷ ws) h =
    let parts = and_parts (has_word all w) (list_all (has_word all) ws) h in
    below_from (length all) (place w all) (places_in all ws) (place_lt all w parts.0) (places_below all ws parts.1)

-- signals

firsts_has : (ws : List (List ℕ)) (w : List ℕ) → has_word ws w ≡ true → has_word (firsts ws) w ≡ true
firsts_has [] w h = h
firsts_has (x ∷ xs) w h = elim (cases_Bool (bytes_eq x w)) [
  | inl e ↦ subst (λ (k : List ℕ). has_word (firsts (x ∷ xs)) k ≡ true) (same_word x w e) (has_head x (without (x ∷ []) (firsts xs)))
  | inr e ↦ has_tail x w (without (x ∷ []) (firsts xs)) (has_without (x ∷ []) (firsts xs) w (firsts_has xs w (in_rest x xs w e h)) (or_from (bytes_eq x w) false e refl))
]

feed_read : (latches : List Latch) (word : List ℕ) → has_word (map latch_output latches) word ≡ true → has_word (flat_map latch_reads latches) (feed_of latches word) ≡ true
feed_read [] word h = absurd (both_ways false refl h)
feed_read (l ∷ ls) word h = elim (cases_Bool (bytes_eq l.output word)) [
  | inl e ↦ subst (λ (k : List ℕ). has_word (flat_map latch_reads (l ∷ ls)) k ≡ true) (sym (cond-true (bytes_eq l.output word) l.feed (feed_of ls word) e))
      (has_left (latch_reads l) (flat_map latch_reads ls) l.feed (has_head l.feed (control_of l.kind)))
  | inr e ↦ subst (λ (k : List ℕ). has_word (flat_map latch_reads (l ∷ ls)) k ≡ true) (sym (cond-false (bytes_eq l.output word) l.feed (feed_of ls word) e))
      (has_right (latch_reads l) (flat_map latch_reads ls) (feed_of ls word) (feed_read ls word (in_rest l.output (map latch_output ls) word e h)))
]

outputs_observed : (f : Frame) (words : List (List ℕ)) → list_all (has_word f.outputs) words ≡ true → list_all (has_word (observed f)) words ≡ true
outputs_observed f words h = all_each (has_word (observed f)) words (λ w t.
    firsts_has (f.outputs ++ flat_map latch_reads f.latches) w (has_left f.outputs (flat_map latch_reads f.latches) w (all_at (has_word f.outputs) words w h t)))

feeds_observed : (f : Frame) (words : List (List ℕ)) → list_all (has_word (latch_names f)) words ≡ true → list_all (has_word (observed f)) (map (feed_of f.latches) words) ≡ true
feeds_observed f [] h = refl
feeds_observed f (w ∷ ws) h =
    let parts = and_parts (has_word (latch_names f) w) (list_all (has_word (latch_names f)) ws) h in
    and_from (has_word (observed f) (feed_of f.latches w)) (list_all (has_word (observed f)) (map (feed_of f.latches) ws))
    (firsts_has (f.outputs ++ flat_map latch_reads f.latches) (feed_of f.latches w) (has_right f.outputs (flat_map latch_reads f.latches) (feed_of f.latches w) (feed_read f.latches w parts.0)))
    (feeds_observed f ws parts.1)

list_all_both : (test : List ℕ → Bool) (xs ys : List (List ℕ)) → list_all test xs ≡ true → list_all test ys ≡ true → list_all test (xs ++ ys) ≡ true
list_all_both test [] ys first second = second
list_all_both test (x ∷ xs) ys first second =
    let parts = and_parts (test x) (list_all test xs) first in and_from (test x) (list_all test (xs ++ ys)) parts.0 (list_all_both test xs ys parts.1 second)

pub signals_observed : (order frame : Frame) → Suits order frame → list_all (has_word (observed frame)) (signals order frame) ≡ true
signals_observed order frame h =
    list_all_both (has_word (observed frame)) order.outputs (map (feed_of frame.latches) (latch_names order)) (outputs_observed frame order.outputs h.outputs_are) (feeds_observed frame (latch_names order) h.latches_are)

pub length-signals : (order frame : Frame) → length (signals order frame) ≡ length (compared order)
length-signals order frame =
    length-append order.outputs (map (feed_of frame.latches) (latch_names order)) ∙ ap (λ k. length order.outputs + k) (length-map (latch_names order) (feed_of frame.latches))
    ∙ sym (length-append order.outputs (latch_names order))

-- the place of a latch has its feed
pub feed_at : (latches : List Latch) (word : List ℕ) (d : Latch) → has_word (map latch_output latches) word ≡ true → (get_or latches (place word (map latch_output latches)) d).feed ≡ feed_of latches word
feed_at [] word d h = absurd (both_ways false refl h)
feed_at (l ∷ ls) word d h = elim (cases_Bool (bytes_eq l.output word)) [
  | inl e ↦ ap (λ (k : ℕ). (get_or (l ∷ ls) k d).feed) (cond-true (bytes_eq l.output word) 0 (suc (place word (map latch_output ls))) e) ∙ sym (cond-true (bytes_eq l.output word) l.feed (feed_of ls word) e)
  | inr e ↦ ap (λ (k : ℕ). (get_or (l ∷ ls) k d).feed) (cond-false (bytes_eq l.output word) 0 (suc (place word (map latch_output ls))) e)
      ∙ feed_at ls word d (in_rest l.output (map latch_output ls) word e h) ∙ sym (cond-false (bytes_eq l.output word) l.feed (feed_of ls word) e)
]

-- what the latch at the place of a name loads is a name, and is its feed
pub feed_is : (names : List (List ℕ)) (latches : List code.Latch) (word : List ℕ) (p n : ℕ) (d : code.Latch) → has_word (map latch_output (map (latch_in names) latches)) word ≡ true
    → p ≡ place word (map latch_output (map (latch_in names) latches)) → p < length latches → n ≡ (get_or latches p d).feed → word_at names n ≡ feed_of (map (latch_in names) latches) word
feed_is names latches word p n d h at lt is =
    ap (word_at names) is
    ∙ sym (ap (λ (l : Latch). l.feed) (get_or-map (latch_in names) latches p d (latch_in names d) lt))
    ∙ ap (λ (k : ℕ). (get_or (map (latch_in names) latches) k (latch_in names d)).feed) at ∙ feed_at (map (latch_in names) latches) word (latch_in names d) h

pub feed_below : (count : ℕ) (latches : List code.Latch) (p : ℕ) (d : code.Latch) → latches_below count latches ≡ true → p < length latches → (get_or latches p d).feed < count
feed_below count [] p d h lt = absurd (omega arith)
feed_below count (l ∷ ls) zero d h lt = (below_parts count l.feed (l.output ∷ control_number l.kind) (and_parts (all_below count (latch_numbers l)) (latches_below count ls) h).0).0
feed_below count (l ∷ ls) (suc p) d h lt = feed_below count ls p d (and_parts (all_below count (latch_numbers l)) (latches_below count ls) h).1 (omega arith)

-- the values of words by the literals of all observed ones
pub words_read : (v : List ℕ → Bool) (u : Lit → Bool) (all : List (List ℕ)) (lits : List Lit) (words : List (List ℕ)) → map v all ≡ map u lits → length lits ≡ length all → list_all (has_word all) words ≡ true
    → map v words ≡ map u (map (lit_of all lits) words)
words_read v u all lits words same long within = map_through v u (lit_of all lits) words (λ w t. read w (all_at (has_word all) words w within t))
  where
    read : (w : List ℕ) → has_word all w ≡ true → v w ≡ u (lit_of all lits w)
    read w h =
        sym (place_value v all w h) ∙ ap (λ (bs : List Bool). get_or bs (place w all) false) same
        ∙ get_or-map u lits (place w all) (record { 0 = 0 }) false (let lt = place_lt all w h in omega (arith, lt, long))

-- the literals of observed words are there
pub lits_within : (count : ℕ) (all : List (List ℕ)) (lits : List Lit) (words : List (List ℕ)) → length lits ≡ length all → All (λ l. node_of l < count) lits → list_all (has_word all) words ≡ true
    → All (λ l. node_of l < count) (map (lit_of all lits) words)
lits_within count all lits words long within inside i d lt =
    let low : i < length words = omega (arith, lt, length-map words (lit_of all lits)) in
    let word : List ℕ = get_or words i [] in
    let there : has_word all word ≡ true = all_at (has_word all) words word inside (has_word_at words i low) in
    subst (λ (l : Lit). node_of l < count) (sym (get_or-map (lit_of all lits) words i [] d low))
    (within (place word all) (record { 0 = 0 }) (let at = place_lt all word there in omega (arith, at, long)))

-- the netlist that a network is written as has the graph's function
pub network_function : (x : Network) → HasFunction (network_of x) (rows_function x.body.rows x.body.observed)
network_function x =
    network_has_function network_spells (graph_has_function_is one_valuation_is ordered_has_one) (frame_in x.frame) x.body x.frame.clocks_once x.frame.sources_once x.named (rows_function x.body.rows x.body.observed) (λ bits. refl)

-- from three facts of a result to another
pub three_ok : {T E : Type 0} {P Q R S : T → Type 0} (r : Result T E) → ((x : T) → P x → Q x → R x → S x) → IfOk r P → IfOk r Q → IfOk r R → IfOk r S
three_ok (Ok x) f p q h = f x p q h
three_ok (Err e) f p q h = p

-- a graph of the literals of the signals, its sources at their places, is ordered
pub ordered_is : (order : Frame) (x : Network) (places : List ℕ) (lits : List Lit) (g : Graph) → Suits order (frame_in x.frame) → places ≡ places_in (sources order) (sources (frame_in x.frame))
    → lits ≡ map (lit_of (observed (frame_in x.frame)) x.body.observed) (signals order (frame_in x.frame)) → g.source_count ≡ x.body.source_count → length g.observed ≡ length lits
    → ((bits : List Bool) → rows_function g.rows g.observed bits ≡ rows_function x.body.rows lits (values_at places bits)) → IsOrderedBy order (network_of x) g
ordered_is order x places lits g suits places_are lits_are same_sources count values = record {
  sources_are = same_sources ∙ x.named.sources_are ∙ suits.count;
  count = count ∙ ap (λ (ls : List Lit). length ls) lits_are ∙ length-map (signals order frame) (lit_of (observed frame) x.body.observed) ∙ length-signals order frame;
  values = λ v c.
      words_read v (lit_value (value_in (values_of (given_by (map v (sources frame))) x.body.rows))) (observed frame) x.body.observed (signals order frame)
      ((network_function x).value v c) x.named.observed_are (signals_observed order frame suits)
      ∙ ap₂ (λ (ls : List Lit) (bits : List Bool). rows_function x.body.rows ls bits) (sym lits_are)
      (sym (sources_at v (sources order) (sources frame) suits.sources_are) ∙ ap (λ (ps : List ℕ). values_at ps (map v (sources order))) (sym places_are))
      ∙ sym (values (map v (sources order)));
}
  where
    frame : Frame
    frame = frame_in x.frame

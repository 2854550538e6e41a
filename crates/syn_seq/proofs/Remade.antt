-- The graph with the kept latches alone: what it is made of, and the values of its observed signals.
use Rattle.std.proofs.Common.{◌≡◌, ℕ, zero, suc, ◌+◌, ◌-◌, ◌*◌, ◌%◌, ◌<◌, ◌≤◌, nat_lt, if◌then◌else◌, not, ◌⊎◌, Bool, true, false, List, [], ◌∷◌, ◌++◌, length, map, flat_map, get_or, bytes_eq, refl, sym, ap, ap₂, ◌∙◌, subst, inl, inr, arith}
use Rattle.std.specs.List.{All}
use Rattle.std.proofs.lemmas.Bool.{both_ways, cases_lt, cases_Bool, cond-true, cond-false, lt-ltb, or_cases, or_left}
use Rattle.std.proofs.lemmas.List.{get_or_append_left, get_or-append-add, get_or-map, length-append, length-drop, length-map, map-append}
use Rattle.std.proofs.lemmas.Simd.{map-map}
use Rattle.std.proofs.lemmas.List.Elements.{All-from_get_or}
use Rattle.syn_rows.specs.declared.Lit.{Lit}
use Rattle.syn_rows.specs.declared.Row.{Row}
use Rattle.syn_rows.specs.declared.Row.TheVariants.{Source}
use Rattle.syn_rows.specs.Reach.{Ands}
use Rattle.syn_rows.specs.Rows.{InOrder, node_of, row_at}
use Rattle.syn_rows.specs.Values.{Fits, OneValuation, given_by, is_open, lit_value, rows_function, value_in, values_of}
use Rattle.syn_rows.proofs.Folds.{one_valuation_is}
use Rattle.syn_hashed.specs.Hashed.{IsHashed}
use Rattle.syn_hashed.specs.Compacting.{CanCompact, SameValues}
use Rattle.syn_netlist.specs.declared.frames.Frame as frames
use Rattle.syn_netlist.specs.Frames.{frame_in}
use Rattle.syn_netlist.specs.Kept.{latch_in}
use Rattle.syn_netlist.specs.Lists.{Frame, Latch, Netlist, latch_output, latch_reads, observed, output_of, sources}
use Rattle.syn_netlist.specs.Numbers.{all_below, word_at, words_at}
use Rattle.syn_netlist.specs.Values.{Consistent}
use Rattle.syn_netlist.specs.Words.{firsts, has_word, without}
use Rattle.syn_netlist.proofs.Sets.{has_head, has_left, has_right, has_tail, has_word-append, same_word}
use Rattle.syn_network.specs.GraphShape.{and_tables, lit_of, node_names, observed_of, place, rows_of, shown}
use Rattle.syn_network.specs.NamedGraphs.{source_lit}
use Rattle.syn_network.specs.Spelling.{NetworkOfGraph}
use Rattle.syn_network.proofs.Gates.{has_at, place_back}
use Rattle.syn_network.proofs.Spelled.{in_rest, place_in_front, place_lt}
use Rattle.syn_network.specs.declared.networks.Network.{Network}
use Rattle.syn_network.specs.Networks.{HasOwnSources}
use Rattle.syn_network.specs.Written.{network_of}
use Rattle.syn_seq.specs.Code.{AreLits, HasValues, SmallTargets, first_of, left_of, lit_in, lits_left, lits_of, moved, place_after, place_list, places_of, rows_left, rows_of_left, swept_of}
use Rattle.syn_seq.specs.Rounds.{AreFates, Dropped, Fate, HasFate, IsFate, Kept, Merged, fate_at, kept_by, latch_at, no_latch, swept_frame}
use Rattle.syn_seq.specs.Runs.{free_signals}
use Rattle.syn_seq.proofs.Alike.{among_firsts, sources_are}
use Rattle.syn_seq.proofs.Observed.{observed_value}
use Rattle.syn_seq.proofs.Moving.{CanMove, ands_left, can_compact, fits_left, has_sources, moved_value, values_left}
use Rattle.syn_seq.proofs.Named.{each_lit}
use Rattle.syn_seq.proofs.Placed.{count_places, kept_at, kept_before, kept_place, place_free, place_latch, place_low}
use Rattle.syn_seq.proofs.Sweeps.{graphs_have_functions, spells}
use Rattle.syn_seq.proofs.Targets.{fates_few, moved_count, is_merged, kept_by_most, targets_small}
use Rattle.syn_seq.proofs.Within.{lit_within}

pub many_sources : (f : Frame) → length (sources f) ≡ length (free_signals f) + length f.latches
many_sources f =
    ap length (sym (sources_are f)) ∙ length-append (free_signals f) (map latch_output f.latches) ∙ ap (λ (k : ℕ). length (free_signals f) + k) (length-map f.latches latch_output)

first_is : (g : Network) (fates : List Fate) → AreFates (network_of g) fates → first_of g fates ≡ length (free_signals (network_of g).frame) + 1
first_is g fates f = omega (arith, many_sources (network_of g).frame, g.named.sources_are, f.count)

pub sources_left : (g : Network) (fates : List Fate) → AreFates (network_of g) fates → length (sources (swept_of g fates)) ≡ left_of g fates
sources_left g fates f =
    let many : length (sources (swept_of g fates)) ≡ length (free_signals (network_of g).frame) + length (kept_by fates (network_of g).frame.latches) = many_sources (swept_of g fates) in
    omega (arith, many, first_is g fates f)

target_kept : (n : Netlist) (fates : List Fate) (f : AreFates n fates) (j i : ℕ) → fate_at fates j ≡ Merged i → fate_at fates i ≡ Kept
target_kept n fates f j i e = elim (cases_lt j (length fates)) [
  | inl lt ↦ (subst (λ (x : Fate). IsFate n fates f.needed j x) e (f.right j lt)).1
  | inr past ↦ absurd (none_past fates j i past e)
]
  where
    none_past : (fates : List Fate) (j i : ℕ) → length fates ≤ j → fate_at fates j ≡ Merged i → ⊥
    none_past [] j i le e = both_ways false refl (ap is_merged e)
    none_past (x ∷ xs) zero i le e = omega (arith, le)
    none_past (x ∷ xs) (suc j) i le e = none_past xs j i (omega (arith, le)) e

pub can_move : (g : Network) (fates : List Fate) → AreFates (network_of g) fates → CanMove g.body.source_count (left_of g fates) g.body.rows (places_of g fates)
can_move g fates f =
    let few = fates_few g fates f in
    let many = count_places (first_of g fates) fates in
    let most : length (kept_by fates (network_of g).frame.latches) ≤ length fates = kept_by_most fates (network_of g).frame.latches in
    let some : 0 < first_of g fates = omega (arith, few) in
    record {
      hashed = subst (λ (k : ℕ). IsHashed k g.body.rows) (sym g.named.sources_are) g.graph.hashed;
      many = omega (arith, many, few);
      few = omega (arith, many, most, some);
      low = place_low (first_of g fates) fates (network_of g).frame.latches some f.count (targets_small (network_of g) fates f) (target_kept (network_of g) fates f);
    }

-- values of sources by their nodes

value_free : (v : List ℕ → Bool) (f : Frame) (i : ℕ) → i < length (free_signals f) → given_by (map v (sources f)) (suc i) ≡ get_or (map v (free_signals f)) i false
value_free v f i lt =
    ap (λ (ws : List (List ℕ)). get_or (map v ws) i false) (sym (sources_are f)) ∙ ap (λ (bs : List Bool). get_or bs i false) (map-append v (free_signals f) (map latch_output f.latches))
    ∙ get_or_append_left (map v (free_signals f)) (map v (map latch_output f.latches)) false i (omega (arith, lt, length-map (free_signals f) v))

pub value_latch : (v : List ℕ → Bool) (f : Frame) (j k : ℕ) → j < length f.latches → k ≡ length (free_signals f) + 1 + j → given_by (map v (sources f)) k ≡ v (get_or f.latches j no_latch).output
value_latch v f j k lt e =
    let at : k ≡ suc (length (map v (free_signals f)) + j) = omega (arith, e, length-map (free_signals f) v) in
    let inside : j < length (map latch_output f.latches) = omega (arith, lt, length-map f.latches latch_output) in
    ap (given_by (map v (sources f))) at
    ∙ ap (λ (ws : List (List ℕ)). get_or (map v ws) (length (map v (free_signals f)) + j) false) (sym (sources_are f))
    ∙ ap (λ (bs : List Bool). get_or bs (length (map v (free_signals f)) + j) false) (map-append v (free_signals f) (map latch_output f.latches))
    ∙ get_or-append-add (map v (free_signals f)) (map v (map latch_output f.latches)) j false
    ∙ get_or-map v (map latch_output f.latches) j [] false inside ∙ ap v (get_or-map latch_output f.latches j no_latch [] lt)

-- Each source's value before is that of the source to whose place it moves.
sources_move : (g : Network) (fates : List Fate) → AreFates (network_of g) fates → (v w : List ℕ → Bool) → map v (free_signals (network_of g).frame) ≡ map w (free_signals (network_of g).frame)
    → ((j : ℕ) → j < length fates → HasFate (network_of g) fates v w j (fate_at fates j))
    → (k : ℕ) → k < g.body.source_count + 1 → given_by (map w (sources (swept_of g fates))) (get_or (places_of g fates) k 0) ≡ given_by (map v (sources (network_of g).frame)) k
sources_move g fates f v w same has k lt = elim (cases_lt k first) [
  | inl free ↦ ap after (place_free first fates k free) ∙ at_free k free
  | inr past ↦
      let at : first + (k - first) ≡ k = omega (arith, past) in
      let inside : k - first < length fates = omega (arith, lt, past, few) in
      subst (λ (m : ℕ). after (get_or (place_list first fates) m 0) ≡ before m) at (by_fate (k - first) inside (fate_at fates (k - first)) refl)
]
  where
    n : Netlist
    n = network_of g

    first : ℕ
    first = first_of g fates

    few : length fates ≤ g.body.source_count
    few = fates_few g fates f

    small : SmallTargets fates
    small = targets_small n fates f

    after : ℕ → Bool
    after = given_by (map w (sources (swept_of g fates)))

    before : ℕ → Bool
    before = given_by (map v (sources n.frame))

    at_free : (k : ℕ) → k < first → after k ≡ before k
    at_free zero lt = refl
    at_free (suc i) lt =
        let inside : i < length (free_signals n.frame) = omega (arith, lt, first_is g fates f) in
        value_free w (swept_of g fates) i inside ∙ ap (λ (bs : List Bool). get_or bs i false) (sym same) ∙ sym (value_free v n.frame i inside)

    value_of : (j : ℕ) → j < length fates → before (first + j) ≡ v (latch_at n j).output
    value_of j lt = value_latch v n.frame j (first + j) (omega (arith, lt, f.count)) (omega (arith, first_is g fates f))

    moves : (j : ℕ) → j < length fates → (x : Fate) → fate_at fates j ≡ x → get_or (place_list first fates) (first + j) 0 ≡ place_after first (place_list first fates) (first + kept_before fates j) x
    moves j lt x e = place_latch first fates small j lt ∙ ap (place_after first (place_list first fates) (first + kept_before fates j)) e

    at_kept : (j : ℕ) → j < length fates → fate_at fates j ≡ Kept → after (get_or (place_list first fates) (first + j) 0) ≡ v (latch_at n j).output
    at_kept j lt e =
        let inside : j < length n.frame.latches = omega (arith, lt, f.count) in
        let (stands, there) = kept_place fates n.frame.latches j inside e in
        let value : v (latch_at n j).output ≡ w (latch_at n j).output = subst (λ (x : Fate). HasFate n fates v w j x) e (has j lt) in
        ap after (moves j lt Kept e)
        ∙ value_latch w (swept_of g fates) (kept_before fates j) (first + kept_before fates j) there (omega (arith, first_is g fates f))
        ∙ ap (λ (l : Latch). w l.output) stands ∙ sym value

    by_fate : (j : ℕ) → j < length fates → (x : Fate) → fate_at fates j ≡ x → after (get_or (place_list first fates) (first + j) 0) ≡ before (first + j)
    by_fate j lt Kept e = at_kept j lt e ∙ sym (value_of j lt)
    by_fate j lt (Merged i) e =
        let less : i < length fates = omega (arith, small j i e, lt) in
        let value : v (latch_at n j).output ≡ v (latch_at n i).output = subst (λ (x : Fate). HasFate n fates v w j x) e (has j lt) in
        ap after (moves j lt (Merged i) e) ∙ at_kept i less (target_kept n fates f j i e) ∙ sym value ∙ sym (value_of j lt)
    by_fate j lt Dropped e =
        let value : v (latch_at n j).output ≡ false = subst (λ (x : Fate). HasFate n fates v w j x) e (has j lt) in
        ap after (moves j lt Dropped e) ∙ sym value ∙ sym (value_of j lt)

-- observed signals of the frame with the kept latches alone are observed before

has_word_cases : (xs ys : List (List ℕ)) (w : List ℕ) → has_word (xs ++ ys) w ≡ true → (has_word xs w ≡ true) ⊎ (has_word ys w ≡ true)
has_word_cases xs ys w h = or_cases (has_word xs w) (has_word ys w) (sym (has_word-append xs ys w) ∙ h)

from_without : (taken : List (List ℕ)) (ws : List (List ℕ)) (w : List ℕ) → has_word (without taken ws) w ≡ true → has_word ws w ≡ true
from_without taken [] w h = h
from_without taken (x ∷ xs) w h = go (from_without taken xs w) (has_word taken x) refl
  where
    go : (has_word (without taken xs) w ≡ true → has_word xs w ≡ true) → (b : Bool) → has_word taken x ≡ b → has_word (x ∷ xs) w ≡ true
    go rest true e = has_tail x w xs (rest (subst (λ (ys : List (List ℕ)). has_word ys w ≡ true) (ap (λ (b : Bool). if not b then x ∷ without taken xs else without taken xs) e) h))
    go rest false e =
        elim (or_cases (bytes_eq x w) (has_word (without taken xs) w) (subst (λ (ys : List (List ℕ)). has_word ys w ≡ true) (ap (λ (b : Bool). if not b then x ∷ without taken xs else without taken xs) e) h)) [
          | inl here ↦ or_left (bytes_eq x w) (has_word xs w) here
          | inr later ↦ has_tail x w xs (rest later)
        ]

from_firsts : (ws : List (List ℕ)) (w : List ℕ) → has_word (firsts ws) w ≡ true → has_word ws w ≡ true
from_firsts [] w h = h
from_firsts (x ∷ xs) w h = elim (or_cases (bytes_eq x w) (has_word (without (x ∷ []) (firsts xs)) w) h) [
  | inl here ↦ or_left (bytes_eq x w) (has_word xs w) here
  | inr later ↦ has_tail x w xs (from_firsts xs w (from_without (x ∷ []) (firsts xs) w later))
]

reads_before : (fates : List Fate) (ls : List Latch) (w : List ℕ) → has_word (flat_map latch_reads (kept_by fates ls)) w ≡ true → has_word (flat_map latch_reads ls) w ≡ true
reads_before [] ls w h = absurd (both_ways false refl h)
reads_before (Kept ∷ fs) [] w h = h
reads_before (Merged i ∷ fs) [] w h = h
reads_before (Dropped ∷ fs) [] w h = h
reads_before (Kept ∷ fs) (l ∷ ls) w h = elim (has_word_cases (latch_reads l) (flat_map latch_reads (kept_by fs ls)) w h) [
  | inl here ↦ has_left (latch_reads l) (flat_map latch_reads ls) w here
  | inr later ↦ has_right (latch_reads l) (flat_map latch_reads ls) w (reads_before fs ls w later)
]
reads_before (Merged i ∷ fs) (l ∷ ls) w h = has_right (latch_reads l) (flat_map latch_reads ls) w (reads_before fs ls w h)
reads_before (Dropped ∷ fs) (l ∷ ls) w h = has_right (latch_reads l) (flat_map latch_reads ls) w (reads_before fs ls w h)

pub observed_before : (f : Frame) (fates : List Fate) (w : List ℕ) → has_word (observed (swept_frame f fates)) w ≡ true → has_word (observed f) w ≡ true
observed_before f fates w h =
    let kept : List (List ℕ) = flat_map latch_reads (kept_by fates f.latches) in
    let reads : List (List ℕ) = flat_map latch_reads f.latches in
    among_firsts (f.outputs ++ reads) w (elim (has_word_cases f.outputs kept w (from_firsts (f.outputs ++ kept) w h)) [
      | inl out ↦ has_left f.outputs reads w out
      | inr read ↦ has_right f.outputs reads w (reads_before fates f.latches w read)
    ])

pub lits_within : NetworkOfGraph → (g : Network) (fates : List Fate) → All (λ l. node_of l < length g.body.rows) (lits_of g fates)
lits_within law g fates = All-from_get_or (λ l. node_of l < length g.body.rows) (lits_of g fates) (record { 0 = 0 }) (λ i lt.
    let ws : List (List ℕ) = observed (swept_of g fates) in
    let inside : i < length ws = omega (arith, lt, length-map ws (lit_of (network_of g))) in
    let at : get_or (lits_of g fates) i (record { 0 = 0 }) ≡ lit_of (network_of g) (word_at ws i) = get_or-map (lit_of (network_of g)) ws i [] (record { 0 = 0 }) inside in
    subst (λ (l : Lit). node_of l < length g.body.rows) (sym at) (lit_within law g (word_at ws i) (observed_before (network_of g).frame fates (word_at ws i) (has_at ws i inside))))

-- the values of observed signals by nodes
pub node_values : Network → (List ℕ → Bool) → ℕ → Bool
node_values g v = value_in (values_of (given_by (map v (sources (network_of g).frame))) g.body.rows)

in_order_of : NetworkOfGraph → (g : Network) → InOrder g.body.rows
in_order_of law g = let s = spells law g in subst InOrder s.same_rows (graphs_have_functions (network_of g) s.shape s.ordered).0

one_of : NetworkOfGraph → (g : Network) (v : List ℕ → Bool) → OneValuation g.body.rows (given_by (map v (sources (network_of g).frame)))
one_of law g v = one_valuation_is g.body.rows (given_by (map v (sources (network_of g).frame))) (in_order_of law g) refl

pub source_value : NetworkOfGraph → (g : Network) (v : List ℕ → Bool) (k : ℕ) → k < g.body.source_count + 1 → given_by (map v (sources (network_of g).frame)) k ≡ node_values g v k
unfolding node_values
source_value law g v k lt =
    let inside : k < length g.body.rows = omega (arith, lt, g.named.sources_are, g.graph.hashed.there) in
    let front : row_at g.body.rows k ≡ Source = g.graph.hashed.front k (omega (arith, lt, g.named.sources_are)) in
    sym ((one_of law g v).1 k inside (ap is_open front))

pub observed_by_nodes : NetworkOfGraph → (g : Network) (v : List ℕ → Bool) → Consistent (network_of g) v → (x : List ℕ) → has_word (observed (network_of g).frame) x ≡ true → v x ≡ lit_value (node_values g v) (lit_of (network_of g) x)
unfolding node_values
observed_by_nodes law g v c x t =
    let s = spells law g in
    observed_value graphs_have_functions (network_of g) s.ordered s.shape v c x t
    ∙ ap (λ (rows : List Row). lit_value (value_in (values_of (given_by (map v (sources (network_of g).frame))) rows)) (lit_of (network_of g) x)) s.same_rows

pub values_of_words : (v : List ℕ → Bool) (value : Lit → Bool) (lit : List ℕ → Lit) (ws : List (List ℕ)) → ((x : List ℕ) → has_word ws x ≡ true → v x ≡ value (lit x)) → map v ws ≡ map value (map lit ws)
values_of_words v value lit [] h = refl
values_of_words v value lit (w ∷ ws) h = ap₂ (λ (b : Bool) (bs : List Bool). b ∷ bs) (h w (has_head w ws)) (values_of_words v value lit ws (λ x t. h x (has_tail w x ws t)))

pub values_moved : (value moved_value : Lit → Bool) (move : Lit → Lit) (ls : List Lit) → ((l : Lit) → moved_value (move l) ≡ value l) → map value ls ≡ map moved_value (map move ls)
values_moved value after move [] h = refl
values_moved value after move (l ∷ ls) h = ap₂ (λ (b : Bool) (bs : List Bool). b ∷ bs) (sym (h l)) (values_moved value after move ls h)

pub fits_nodes : NetworkOfGraph → (g : Network) (v : List ℕ → Bool) → Fits g.body.rows (node_values g v)
unfolding node_values
fits_nodes law g v = (one_of law g v).0

-- What compaction made of the moved rows has the values of the observed signals.
pub has_values : NetworkOfGraph → (g next : Network) (fates : List Fate) → AreFates (network_of g) fates → (network_of next).frame ≡ swept_of g fates
    → SameValues (left_of g fates) (rows_left (left_of g fates) g.body.rows (places_of g fates)) (map (moved (places_of g fates)) (lits_of g fates)) next.body.rows next.body.observed
    → HasValues (network_of g) (network_of next) fates
has_values law g next fates f frame same v w cv cw free has =
    let places : List ℕ = places_of g fates in
    let bits : List Bool = map w (sources (swept_of g fates)) in
    let x : ℕ → Bool = node_values g v in
    let given : ℕ → Bool = given_by bits in
    let c = can_move g fates f in
    let moves = λ (k : ℕ) (lt : k < g.body.source_count + 1). sources_move g fates f v w free has k lt ∙ source_value law g v k lt in
    let s = spells law next in
    let ws : List (List ℕ) = observed (swept_of g fates) in
    ap (λ (fr : Frame). map v (observed fr)) frame
    ∙ values_of_words v (lit_value x) (lit_of (network_of g)) ws (λ y t. observed_by_nodes law g v cv y (observed_before (network_of g).frame fates y t))
    ∙ values_moved (lit_value x) (lit_value (values_left (left_of g fates) given x)) (moved places) (lits_of g fates) (moved_value g.body.source_count (left_of g fates) g.body.rows places c given x moves)
    ∙ same bits (values_left (left_of g fates) given x) (fits_left g.body.source_count (left_of g fates) g.body.rows places c given x refl moves (fits_nodes law g v)) (has_sources (left_of g fates) given x)
    ∙ ap₂ (λ (rows : List Row) (lits : List Lit). rows_function rows lits bits) (sym s.same_rows) (sym s.same_lits)
    ∙ ap (λ (fr : Frame). rows_function (rows_of (network_of next)) (observed_of (network_of next)) (map w (sources fr))) (sym frame)
    ∙ sym ((graphs_have_functions (network_of next) s.shape s.ordered).1.value w cw)

-- a source that is left has its own literal afterwards

word_placed : (ws : List (List ℕ)) (w : List ℕ) → has_word ws w ≡ true → word_at ws (place w ws) ≡ w
word_placed [] w h = absurd (both_ways false refl h)
word_placed (x ∷ xs) w h = elim (cases_Bool (bytes_eq x w)) [
  | inl e ↦ ap (word_at (x ∷ xs)) (cond-true (bytes_eq x w) 0 (suc (place w xs)) e) ∙ same_word x w e
  | inr e ↦ ap (word_at (x ∷ xs)) (cond-false (bytes_eq x w) 0 (suc (place w xs)) e) ∙ word_placed xs w (in_rest x xs w e h)
]

-- where the source at a place afterwards came from
record CameFrom (g : Network) (fates : List Fate) (q : ℕ) : Type 0 where
  number : ℕ
  inside : number < length (sources (network_of g).frame)
  word : word_at (sources (network_of g).frame) number ≡ word_at (sources (swept_of g fates)) q
  place : get_or (places_of g fates) (number + 1) 0 ≡ q + 1

word_free : (f : Frame) (i : ℕ) → i < length (free_signals f) → word_at (sources f) i ≡ word_at (free_signals f) i
word_free f i lt = ap (λ (ws : List (List ℕ)). word_at ws i) (sym (sources_are f)) ∙ get_or_append_left (free_signals f) (map latch_output f.latches) [] i lt

word_latch : (f : Frame) (j k : ℕ) → j < length f.latches → k ≡ length (free_signals f) + j → word_at (sources f) k ≡ (get_or f.latches j no_latch).output
word_latch f j k lt e =
    ap (word_at (sources f)) e ∙ ap (λ (ws : List (List ℕ)). word_at ws (length (free_signals f) + j)) (sym (sources_are f))
    ∙ get_or-append-add (free_signals f) (map latch_output f.latches) j [] ∙ get_or-map latch_output f.latches j no_latch [] lt

came_from : (g : Network) (fates : List Fate) → AreFates (network_of g) fates → (q : ℕ) → q < length (sources (swept_of g fates)) → CameFrom g fates q
came_from g fates f q lt = elim (cases_lt q (length (free_signals n.frame))) [
  | inl free ↦ record {
    number = q;
    inside = omega (arith, free, many_sources n.frame);
    word = word_free n.frame q free ∙ sym (word_free (swept_of g fates) q free);
    place = place_free first fates (q + 1) (omega (arith, free, first_is g fates f));
  }
  | inr past ↦
      let r : ℕ = q - length (free_signals n.frame) in
      let back : q ≡ length (free_signals n.frame) + r = omega (arith, past) in
      let inside : r < length (kept_by fates n.frame.latches) = omega (arith, lt, past, many) in
      let k = kept_at fates n.frame.latches r inside in
      let there : k.number < length fates = omega (arith, k.inside, f.count) in
      let at : length (free_signals n.frame) + k.number + 1 ≡ first + k.number = omega (arith, first_is g fates f) in
      let to : first + kept_before fates k.number ≡ q + 1 = omega (arith, k.place, back, first_is g fates f) in
      let stands = (kept_place fates n.frame.latches k.number k.inside k.fate).0 in
      record {
        number = length (free_signals n.frame) + k.number;
        inside = omega (arith, k.inside, many_sources n.frame);
        word =
            word_latch n.frame k.number (length (free_signals n.frame) + k.number) k.inside refl ∙ ap (λ (l : Latch). l.output) (sym stands) ∙ ap (λ (i : ℕ). (get_or (kept_by fates n.frame.latches) i no_latch).output) k.place
            ∙ sym (word_latch (swept_of g fates) r q inside back);
        place =
            ap (λ (i : ℕ). get_or (place_list first fates) i 0) at ∙ place_latch first fates (targets_small n fates f) k.number there
            ∙ ap (place_after first (place_list first fates) (first + kept_before fates k.number)) k.fate ∙ to;
      }
]
  where
    n : Netlist
    n = network_of g

    first : ℕ
    first = first_of g fates

    many : length (sources (swept_of g fates)) ≡ length (free_signals n.frame) + length (kept_by fates n.frame.latches)
    many = many_sources (swept_of g fates)

output_before : (fates : List Fate) (ls : List Latch) (w : List ℕ) → has_word (map latch_output (kept_by fates ls)) w ≡ true → has_word (map latch_output ls) w ≡ true
output_before [] ls w h = absurd (both_ways false refl h)
output_before (Kept ∷ fs) [] w h = h
output_before (Merged i ∷ fs) [] w h = h
output_before (Dropped ∷ fs) [] w h = h
output_before (Kept ∷ fs) (l ∷ ls) w h = elim (or_cases (bytes_eq l.output w) (has_word (map latch_output (kept_by fs ls)) w) h) [
  | inl here ↦ or_left (bytes_eq l.output w) (has_word (map latch_output ls) w) here
  | inr later ↦ has_tail l.output w (map latch_output ls) (output_before fs ls w later)
]
output_before (Merged i ∷ fs) (l ∷ ls) w h = has_tail l.output w (map latch_output ls) (output_before fs ls w h)
output_before (Dropped ∷ fs) (l ∷ ls) w h = has_tail l.output w (map latch_output ls) (output_before fs ls w h)

source_before : (f : Frame) (fates : List Fate) (w : List ℕ) → has_word (sources (swept_frame f fates)) w ≡ true → has_word (sources f) w ≡ true
source_before f fates w h =
    let kept : List (List ℕ) = map latch_output (kept_by fates f.latches) in
    let outs : List (List ℕ) = map latch_output f.latches in
    subst (λ (ws : List (List ℕ)). has_word ws w ≡ true) (sources_are f)
    (elim (has_word_cases (free_signals f) kept w (subst (λ (ws : List (List ℕ)). has_word ws w ≡ true) (sym (sources_are (swept_frame f fates))) h)) [
      | inl free ↦ has_left (free_signals f) outs w free
      | inr later ↦ has_right (free_signals f) outs w (output_before fates f.latches w later)
    ])

own_literal : (g : Network) (fates : List Fate) → AreFates (network_of g) fates → (w : List ℕ) → has_word (sources (swept_of g fates)) w ≡ true
    → moved (places_of g fates) (lit_of (network_of g) w) ≡ source_lit (place w (sources (swept_of g fates)))
own_literal g fates f w t =
    let n : Netlist = network_of g in
    let places : List ℕ = places_of g fates in
    let q : ℕ = place w (sources (swept_of g fates)) in
    let c = came_from g fates f q (place_lt (sources (swept_of g fates)) w t) in
    let before : has_word (sources n.frame) w ≡ true = source_before n.frame fates w t in
    let is : word_at (sources n.frame) c.number ≡ w = c.word ∙ word_placed (sources (swept_of g fates)) w t in
    let at : place w (node_names n) ≡ c.number =
    place_in_front (sources n.frame) (map output_of (and_tables n)) w before ∙ ap (λ (x : List ℕ). place x (sources n.frame)) (sym is) ∙ place_back (sources n.frame) g.frame.sources_once c.number c.inside in
    let l : Lit = lit_of n w in
    let value : l.0 ≡ 2 * (c.number + 1) = ap (λ (x : Lit). x.0) (cond-true (has_word (sources n.frame) w) (shown (node_names n) w 49) _ before) ∙ omega (arith, at) in
    let node : node_of l ≡ c.number + 1 = omega (arith, value) in
    let inside : node_of l < length places = omega (arith, node, c.inside, (can_move g fates f).many, g.named.sources_are) in
    let even : l.0 % 2 ≡ 0 = omega (arith, value) in
    let to : 2 * get_or places (node_of l) 0 + l.0 % 2 ≡ 2 * (q + 1) = omega (arith, even, ap (λ (i : ℕ). get_or places i 0) node ∙ c.place) in
    cond-true (nat_lt (node_of l) (length places)) (record { 0 = 2 * get_or places (node_of l) 0 + l.0 % 2 }) l (lt-ltb _ _ inside) ∙ ap (λ (x : ℕ). let y : Lit = record { 0 = x } in y) to

pub own_sources : (g : Network) (fates : List Fate) → AreFates (network_of g) fates → HasOwnSources (swept_of g fates) (map (moved (places_of g fates)) (lits_of g fates))
own_sources g fates f i lt t =
    let ws : List (List ℕ) = observed (swept_of g fates) in
    let places : List ℕ = places_of g fates in
    let long : i < length (lits_of g fates) = omega (arith, lt, length-map (lits_of g fates) (moved places)) in
    let inside : i < length ws = omega (arith, long, length-map ws (lit_of (network_of g))) in
    get_or-map (moved places) (lits_of g fates) i (record { 0 = 0 }) (record { 0 = 0 }) long
    ∙ ap (moved places) (get_or-map (lit_of (network_of g)) ws i [] (record { 0 = 0 }) inside)
    ∙ own_literal g fates f (word_at ws i) t

-- the literals of numbers, moved
pub lits_are_left : (g : Network) (lits : List Lit) (fates : List Fate) (places numbers : List ℕ) (names : List (List ℕ)) → AreLits (network_of g) g.frame.names lits → places ≡ places_of g fates → names ≡ g.frame.names
    → words_at names numbers ≡ observed (swept_of g fates) → all_below (length names) numbers ≡ true → map (λ i. moved places (lit_in lits i)) numbers ≡ lits_left g fates
lits_are_left g lits fates places numbers names k p e words below =
    let own : words_at g.frame.names numbers ≡ observed (swept_of g fates) = ap (λ (ns : List (List ℕ)). words_at ns numbers) (sym e) ∙ words in
    let inside : all_below (length g.frame.names) numbers ≡ true = ap (λ (ns : List (List ℕ)). all_below (length ns) numbers) (sym e) ∙ below in
    sym (map-map (moved places) (lit_in lits) numbers)
    ∙ ap (map (moved places)) (each_lit (network_of g) g.frame.names lits k numbers inside (λ w t. observed_before (network_of g).frame fates w (subst (λ (ws : List (List ℕ)). has_word ws w ≡ true) own t)) ∙ ap (map (lit_of (network_of g))) own)
    ∙ ap (λ (ps : List ℕ). map (moved ps) (lits_of g fates)) p

pub fits_rows : (g : Network) (fates : List Fate) → AreFates (network_of g) fates → length (places_of g fates) ≤ length g.body.rows
fits_rows g fates f = omega (arith, (can_move g fates f).many, g.named.sources_are, g.graph.hashed.there)

pub can_remake : NetworkOfGraph → (g : Network) (fates : List Fate) → AreFates (network_of g) fates → CanCompact (left_of g fates) (rows_of_left g fates) (lits_left g fates)
can_remake law g fates f = can_compact g.body.source_count (left_of g fates) g.body.rows (places_of g fates) (can_move g fates f) (fits_rows g fates f) (lits_of g fates) (lits_within law g fates)

pub rows_count : (g : Network) (fates : List Fate) → AreFates (network_of g) fates → length (rows_of_left g fates) ≡ length g.body.rows
rows_count g fates f = moved_count (left_of g fates) (places_of g fates) g.body.rows (can_move g fates f).few (fits_rows g fates f)

-- no more ANDs than before
pub fewer_ands : NetworkOfGraph → (g next : Network) (fates : List Fate) → AreFates (network_of g) fates → (network_of next).frame ≡ swept_of g fates
    → ((k : ℕ) → Ands (rows_of_left g fates) (lits_left g fates) k → length next.body.rows ≤ left_of g fates + 1 + k) → length (and_tables (network_of next)) ≤ length (and_tables (network_of g))
fewer_ands law g next fates f frame h =
    let (k, ands, few) = ands_left g.body.source_count (left_of g fates) g.body.rows (places_of g fates) (can_move g fates f) (fits_rows g fates f) (lits_left g fates) in
    let count = λ (x : Network). (spells law x).ands ∙ length-drop (length (sources (network_of x).frame) + 1) x.body.rows in
    let many : length (sources (network_of next).frame) ≡ left_of g fates = ap (λ (fr : Frame). length (sources fr)) frame ∙ sources_left g fates f in
    omega (arith, h k ands, few, count g, count next, many, (can_move g fates f).many, g.named.sources_are)

-- the kept latches of a frame
pub latches_left : (g : Network) (fates : List Fate) (frame : frames.Frame) → frame_in frame ≡ swept_of g fates → length frame.latches ≡ length (kept_by fates (network_of g).frame.latches)
latches_left g fates frame e = sym (length-map frame.latches (latch_in frame.names)) ∙ ap (λ (f : Frame). length f.latches) e

pub kept_few : (g : Network) (fates : List Fate) → AreFates (network_of g) fates → length (kept_by fates (network_of g).frame.latches) ≤ length fates
kept_few g fates f = kept_by_most fates (network_of g).frame.latches

-- the same of what is equal to these

pub can_with : NetworkOfGraph → (g : Network) (fates : List Fate) → AreFates (network_of g) fates → (frame : Frame) (rows : List Row) (lits : List Lit) → frame ≡ swept_of g fates → rows ≡ rows_of_left g fates → lits ≡ lits_left g fates → CanCompact (length (sources frame)) rows lits
can_with law g fates f frame rows lits e r l =
    subst (λ (ls : List Lit). CanCompact (length (sources frame)) rows ls) (sym l)
    (subst (λ (rs : List Row). CanCompact (length (sources frame)) rs (lits_left g fates)) (sym r)
    (subst (λ (k : ℕ). CanCompact k (rows_of_left g fates) (lits_left g fates)) (sym (ap (λ (fr : Frame). length (sources fr)) e ∙ sources_left g fates f)) (can_remake law g fates f)))

pub own_with : (g : Network) (fates : List Fate) → AreFates (network_of g) fates → (frame : Frame) (lits : List Lit) → frame ≡ swept_of g fates → lits ≡ lits_left g fates → HasOwnSources frame lits
own_with g fates f frame lits e l = subst (λ (ls : List Lit). HasOwnSources frame ls) (sym l) (subst (λ (fr : Frame). HasOwnSources fr (lits_left g fates)) (sym e) (own_sources g fates f))

pub values_with : NetworkOfGraph → (g next : Network) (fates : List Fate) → AreFates (network_of g) fates → (frame : Frame) (rows : List Row) (lits : List Lit) → frame ≡ swept_of g fates → rows ≡ rows_of_left g fates → lits ≡ lits_left g fates → frame_in next.frame ≡ frame
    → SameValues (length (sources frame)) rows lits next.body.rows next.body.observed → HasValues (network_of g) (network_of next) fates
values_with law g next fates f frame rows lits e r l n same =
    has_values law g next fates f (n ∙ e)
    (subst (λ (k : ℕ). SameValues k (rows_of_left g fates) (lits_left g fates) next.body.rows next.body.observed) (ap (λ (fr : Frame). length (sources fr)) e ∙ sources_left g fates f)
    (subst (λ (rs : List Row). SameValues (length (sources frame)) rs (lits_left g fates) next.body.rows next.body.observed) r
    (subst (λ (ls : List Lit). SameValues (length (sources frame)) rows ls next.body.rows next.body.observed) l same)))

pub fewer_with : NetworkOfGraph → (g next : Network) (fates : List Fate) → AreFates (network_of g) fates → (frame : Frame) (rows : List Row) (lits : List Lit) → frame ≡ swept_of g fates → rows ≡ rows_of_left g fates → lits ≡ lits_left g fates → frame_in next.frame ≡ frame
    → ((k : ℕ) → Ands rows lits k → length next.body.rows ≤ length (sources frame) + 1 + k) → length (and_tables (network_of next)) ≤ length (and_tables (network_of g))
fewer_with law g next fates f frame rows lits e r l n h =
    fewer_ands law g next fates f (n ∙ e) (λ k ands.
    let most = h k (subst (λ (rs : List Row). Ands rs lits k) (sym r) (subst (λ (ls : List Lit). Ands (rows_of_left g fates) ls k) (sym l) ands)) in
    omega (arith, most, ap (λ (fr : Frame). length (sources fr)) e, sources_left g fates f))

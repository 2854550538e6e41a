-- Guessed fates: where merged latches are one, observed signals with equal literals have one value.
use Rattle.std.proofs.Common.{◌≡◌, ℕ, zero, suc, ◌+◌, ◌-◌, ◌<◌, ◌≤◌, nat_lt, Bool, true, false, List, [], ◌∷◌, ◌++◌, length, map, flat_map, drop, get_or, refl, sym, ap, ap₂, ◌∙◌, subst, inl, inr, append-nil, arith}
use Rattle.std.proofs.lemmas.Bool.{and_parts, both_ways, cases_lt, ltb-true}
use Rattle.std.proofs.lemmas.List.{drop_all, ext_get_or, get_or_append_left, get_or_default, get_or-append_right, get_or-map, get_or_past, length-append, length-map}
use Rattle.syn_rows.specs.declared.Lit.{Lit}
use Rattle.syn_rows.specs.declared.Row.{Row}
use Rattle.syn_rows.specs.Values.{given_by, lit_value, value_in, values_of}
use Rattle.syn_hashed.specs.Hashed.{IsHashed, lit_at}
use Rattle.syn_hashed.specs.Compacting.{CanCompact, IsCompacted}
use Rattle.syn_netlist.specs.Frames.{frame_in}
use Rattle.syn_netlist.specs.Kept.{latch_in}
use Rattle.syn_netlist.specs.Lists.{Netlist, latch_reads, observed, sources}
use Rattle.syn_netlist.specs.Numbers.{word_at}
use Rattle.syn_netlist.specs.Values.{Consistent}
use Rattle.syn_netlist.specs.Words.{has_word}
use Rattle.syn_network.specs.GraphShape.{lit_of, place}
use Rattle.syn_network.specs.Spelling.{NetworkOfGraph}
use Rattle.syn_network.proofs.Ends.{firsts_distinct}
use Rattle.syn_network.proofs.Gates.{place_back}
use Rattle.syn_network.specs.declared.networks.Network.{Network}
use Rattle.syn_network.specs.Written.{network_of}
use Rattle.syn_seq.specs.Code.{AreAlikeLits, AreLitsBy, AreTargets, is_kept, is_target, merged_from, merged_place, merged_places, moved, rows_left, up_to}
use Rattle.syn_seq.specs.Rounds.{Dropped, Fate, HoldMerged, Kept, Merged, fate_at, latch_at}
use Rattle.syn_seq.specs.Runs.{free_signals}
use Rattle.syn_seq.proofs.Moving.{CanMove, can_compact, fits_left, has_sources, moved_value, values_left}
use Rattle.syn_seq.proofs.Observed.{each_of}
use Rattle.syn_seq.proofs.Placed.{at_up_to, length-up_to}
use Rattle.syn_seq.proofs.Remade.{fits_nodes, many_sources, node_values, observed_by_nodes, source_value, value_latch, values_moved, values_of_words}
use Rattle.syn_seq.proofs.Sweeps.{spells}
use Rattle.syn_seq.proofs.Targets.{is_merged, moved_count}

-- targets

target_of : (fates : List Fate) (j i : ℕ) → is_target fates j (Merged i) ≡ true → (i < j) × (fate_at fates i ≡ Kept)
target_of fates j i h =
    let p = and_parts (nat_lt i j) (is_kept (fate_at fates i)) h in
    (ltb-true i j p.0, kept_from (fate_at fates i) p.1)
  where
    kept_from : (f : Fate) → is_kept f ≡ true → f ≡ Kept
    kept_from Kept h = refl
    kept_from (Merged i) h = absurd (both_ways false refl h)
    kept_from Dropped h = absurd (both_ways false refl h)

pub are_targets : (fates : List Fate) → ((k : ℕ) → k < length fates → is_target fates k (fate_at fates k) ≡ true) → AreTargets fates
are_targets fates h j i e = elim (cases_lt j (length fates)) [
  | inl lt ↦ target_of fates j i (subst (λ (f : Fate). is_target fates j f ≡ true) e (h j lt))
  | inr past ↦ absurd (both_ways false refl (ap is_merged (sym (get_or_past fates j Dropped past) ∙ e)))
]

-- places

length-merged : (first number : ℕ) (fates : List Fate) → length (merged_from first number fates) ≡ length fates
length-merged first number [] = refl
length-merged first number (f ∷ fs) = ap suc (length-merged first (number + 1) fs)

at_merged : (first number : ℕ) (fates : List Fate) (j : ℕ) → j < length fates → get_or (merged_from first number fates) j 0 ≡ merged_place first (number + j) (fate_at fates j)
at_merged first number [] j lt = absurd (omega (arith, lt))
at_merged first number (f ∷ fs) zero lt = let e : number ≡ number + 0 = omega arith in ap (λ (k : ℕ). merged_place first k f) e
at_merged first number (f ∷ fs) (suc j) lt =
    let e : number + 1 + j ≡ number + suc j = omega arith in
    at_merged first (number + 1) fs j (omega (arith, lt)) ∙ ap (λ (k : ℕ). merged_place first k (fate_at fs j)) e

pub count_merged : (first : ℕ) (fates : List Fate) → length (merged_places first fates) ≡ first + length fates
count_merged first fates = length-append (up_to first) (merged_from first 0 fates) ∙ omega (arith, length-up_to first, length-merged first 0 fates)

free_stays : (first : ℕ) (fates : List Fate) (k : ℕ) → k < first → get_or (merged_places first fates) k 0 ≡ k
free_stays first fates k lt = get_or_append_left (up_to first) (merged_from first 0 fates) 0 k (omega (arith, lt, length-up_to first)) ∙ at_up_to first k lt

latch_stands : (first : ℕ) (fates : List Fate) (k : ℕ) → first ≤ k → k < first + length fates → get_or (merged_places first fates) k 0 ≡ merged_place first (k - first) (fate_at fates (k - first))
latch_stands first fates k past lt =
    let e : 0 + (k - first) ≡ k - first = omega arith in
    get_or-append_right (up_to first) (merged_from first 0 fates) first k 0 (length-up_to first) past ∙ at_merged first 0 fates (k - first) (omega (arith, past, lt)) ∙ ap (λ (j : ℕ). merged_place first j (fate_at fates (k - first))) e

low_place : (first number : ℕ) (f : Fate) → ((i : ℕ) → f ≡ Merged i → i < number) → merged_place first number f ≤ first + number
low_place first number Kept h = omega arith
low_place first number (Merged i) h = omega (arith, h i refl)
low_place first number Dropped h = omega arith

pub merged_low : (first : ℕ) (fates : List Fate) → AreTargets fates → (k : ℕ) → k < length (merged_places first fates) → get_or (merged_places first fates) k 0 ≤ k
merged_low first fates targets k lt = elim (cases_lt k first) [
  | inl free ↦ omega (arith, free_stays first fates k free)
  | inr past ↦
      let inside : k < first + length fates = omega (arith, lt, count_merged first fates) in
      omega (arith, latch_stands first fates k past inside, low_place first (k - first) (fate_at fates (k - first)) (λ i e. (targets (k - first) i e).0), past)
]

-- the node of the first latch, and where nodes stand
abbrev pub first_in : Network → List Fate → ℕ
first_in g fates = g.body.source_count + 1 - length fates

abbrev pub stands_in : Network → List Fate → List ℕ
stands_in g fates = merged_places (first_in g fates) fates

few_latches : (g : Network) (fates : List Fate) → length fates ≡ length g.frame.latches → length fates ≤ g.body.source_count
few_latches g fates count = omega (arith, count, many_sources (network_of g).frame, g.named.sources_are, length-map g.frame.latches (latch_in g.frame.names))

pub can_merge : (g : Network) (fates : List Fate) → length fates ≡ length g.frame.latches → AreTargets fates → CanMove g.body.source_count g.body.source_count g.body.rows (stands_in g fates)
can_merge g fates count targets =
    let few = few_latches g fates count in
    let many : length (stands_in g fates) ≡ g.body.source_count + 1 = count_merged (first_in g fates) fates ∙ omega (arith, few) in
    record {
      hashed = subst (λ (k : ℕ). IsHashed k g.body.rows) (sym g.named.sources_are) g.graph.hashed;
      many = many;
      few = omega (arith, many);
      low = λ k lt. omega (arith, merged_low (first_in g fates) fates targets k lt, lt, many);
    }

-- each node has the value of the one that stands for it
stands_move : NetworkOfGraph → (g : Network) (fates : List Fate) → length fates ≡ length g.frame.latches → (v : List ℕ → Bool) → HoldMerged (network_of g) fates v
    → AreTargets fates → (k : ℕ) → k < g.body.source_count + 1 → given_by (map v (sources (network_of g).frame)) (get_or (stands_in g fates) k 0) ≡ node_values g v k
stands_move law g fates count v held targets k lt = elim (cases_lt k first) [
  | inl free ↦ ap value (free_stays first fates k free) ∙ source_value law g v k lt
  | inr past ↦
      let inside : k - first < length fates = omega (arith, lt, past, few) in
      ap value (latch_stands first fates k past (omega (arith, lt, few))) ∙ by_fate (k - first) inside (omega (arith, past)) (fate_at fates (k - first)) refl ∙ source_value law g v k lt
]
  where
    n : Netlist
    n = network_of g

    first : ℕ
    first = first_in g fates

    few : length fates ≤ g.body.source_count
    few = few_latches g fates count

    many : length n.frame.latches ≡ length fates
    many = length-map g.frame.latches (latch_in g.frame.names) ∙ sym count

    at : first ≡ length (free_signals n.frame) + 1
    at = omega (arith, many_sources n.frame, g.named.sources_are, many)

    value : ℕ → Bool
    value = given_by (map v (sources n.frame))

    value_at : (j m : ℕ) → j < length fates → m ≡ first + j → value m ≡ v (latch_at n j).output
    value_at j m lt e = value_latch v n.frame j m (omega (arith, lt, many)) (omega (arith, e, at))

    by_fate : (j : ℕ) → j < length fates → k ≡ first + j → (f : Fate) → fate_at fates j ≡ f → value (merged_place first j f) ≡ value k
    by_fate j jn e Kept s = ap value (sym e)
    by_fate j jn e (Merged i) s =
        let less : i < length fates = omega (arith, (targets j i s).0, jn) in
        value_at i (first + i) less refl ∙ sym (held i j s) ∙ sym (value_at j k jn e)
    by_fate j jn e Dropped s = ap value (sym e)

-- what is compacted
abbrev pub rows_merged : Network → List Fate → List Row
rows_merged g fates = rows_left g.body.source_count g.body.rows (stands_in g fates)

abbrev pub lits_merged : Network → List Fate → List Lit
lits_merged g fates = map (moved (stands_in g fates)) g.body.observed

pub fits_merged : (g : Network) (fates : List Fate) → length fates ≡ length g.frame.latches → AreTargets fates → length (stands_in g fates) ≤ length g.body.rows
fits_merged g fates count targets = omega (arith, (can_merge g fates count targets).many, g.named.sources_are, g.graph.hashed.there)

pub compacts_merged : (g : Network) (fates : List Fate) → length fates ≡ length g.frame.latches → AreTargets fates → CanCompact g.body.source_count (rows_merged g fates) (lits_merged g fates)
compacts_merged g fates count targets = can_compact g.body.source_count g.body.source_count g.body.rows (stands_in g fates) (can_merge g fates count targets) (fits_merged g fates count targets) g.body.observed g.graph.within

-- the literal of an observed signal, by a list of them
abbrev pub lit_by : Network → List Lit → List ℕ → Lit
lit_by g lits w = lit_at lits (place w (observed (frame_in g.frame)))

pub lits_by : (g : Network) (lits : List Lit) → length lits ≡ length (observed (frame_in g.frame)) → lits ≡ map (lit_by g lits) (observed (frame_in g.frame))
lits_by g lits count = ext_get_or (record { 0 = 0 }) lits (map (lit_by g lits) ws) (count ∙ sym (length-map ws (lit_by g lits))) (λ i lt.
    let inside : i < length ws = omega (arith, lt, count) in
    sym (get_or-map (lit_by g lits) ws i [] (record { 0 = 0 }) inside ∙ ap (lit_at lits) (place_back ws (firsts_distinct ((frame_in g.frame).outputs ++ flat_map latch_reads (frame_in g.frame).latches)) i inside)))
  where
    ws : List (List ℕ)
    ws = observed (frame_in g.frame)

-- observed signals have the values of the literals that compaction gives
merged_value : NetworkOfGraph → (g : Network) (fates : List Fate) → length fates ≡ length g.frame.latches → AreTargets fates → (rows : List Row) (lits : List Lit) → IsCompacted g.body.source_count (rows_merged g fates) (lits_merged g fates) rows lits
    → length lits ≡ length (observed (frame_in g.frame)) → (v : List ℕ → Bool) → Consistent (network_of g) v → HoldMerged (network_of g) fates v
    → (w : List ℕ) → has_word (observed (frame_in g.frame)) w ≡ true → v w ≡ lit_value (value_in (values_of (given_by (map v (sources (network_of g).frame))) rows)) (lit_by g lits w)
merged_value law g fates count targets rows lits c many v cv held w t =
    let ws : List (List ℕ) = observed (frame_in g.frame) in
    let bits : List Bool = map v (sources (network_of g).frame) in
    let given : ℕ → Bool = given_by bits in
    let x : ℕ → Bool = node_values g v in
    let places : List ℕ = stands_in g fates in
    let move = can_merge g fates count targets in
    let moves = λ (k : ℕ) (lt : k < g.body.source_count + 1). stands_move law g fates count v held targets k lt in
    let y : ℕ → Bool = values_left g.body.source_count given x in
    let all : map v ws ≡ map (lit_value (value_in (values_of given rows))) (map (lit_by g lits) ws) =
    values_of_words v (lit_value x) (lit_of (network_of g)) ws (λ z tz. observed_by_nodes law g v cv z tz)
    ∙ ap (map (lit_value x)) (spells law g).same_lits
    ∙ values_moved (lit_value x) (lit_value y) (moved places) g.body.observed (moved_value g.body.source_count g.body.source_count g.body.rows places move given x moves)
    ∙ c.same_values bits y (fits_left g.body.source_count g.body.source_count g.body.rows places move given x refl moves (fits_nodes law g v)) (has_sources g.body.source_count given x)
    ∙ ap (map (lit_value (value_in (values_of given rows)))) (lits_by g lits many) in
    each_of v (lit_value (value_in (values_of given rows))) (lit_by g lits) ws all w t

pub merged_alike : NetworkOfGraph → (g : Network) (fates : List Fate) → length fates ≡ length g.frame.latches → AreTargets fates → (rows : List Row) (lits : List Lit) → IsCompacted g.body.source_count (rows_merged g fates) (lits_merged g fates) rows lits
    → length lits ≡ length (observed (frame_in g.frame)) → (found : List Lit) → AreLitsBy (lit_by g lits) (network_of g) g.frame.names found → AreAlikeLits (network_of g) fates g.frame.names found
merged_alike law g fates count targets rows lits c many found are a b la lb ta tb e v cv held =
    let same : lit_by g lits (word_at g.frame.names a) ≡ lit_by g lits (word_at g.frame.names b) = sym (are a la ta) ∙ e ∙ are b lb tb in
    merged_value law g fates count targets rows lits c many v cv held (word_at g.frame.names a) ta
    ∙ ap (lit_value (value_in (values_of (given_by (map v (sources (network_of g).frame))) rows))) same
    ∙ sym (merged_value law g fates count targets rows lits c many v cv held (word_at g.frame.names b) tb)

pub whole : (first : ℕ) (fates : List Fate) (j : ℕ) (places : List ℕ) → length fates ≤ j → places ++ merged_from first j (drop j fates) ≡ merged_places first fates → places ≡ merged_places first fates
whole first fates j places le e = sym (append-nil places) ∙ ap (λ (fs : List Fate). places ++ merged_from first j fs) (sym (drop_all j fates le)) ∙ e

pub all_low : (first : ℕ) (fates : List Fate) → first + length fates < 536870912 → AreTargets fates → (places : List ℕ) → places ≡ merged_places first fates → (k d : ℕ) → k < length places → get_or places k d < 536870912
all_low first fates few targets places e k d lt =
    let inside : k < length (merged_places first fates) = omega (arith, lt, ap length e) in
    let at : get_or places k d ≡ get_or (merged_places first fates) k 0 = ap (λ (ps : List ℕ). get_or ps k d) e ∙ get_or_default (merged_places first fates) k d 0 inside in
    omega (arith, at, merged_low first fates targets k inside, inside, count_merged first fates, few)

pub rows_are_merged : (g : Network) (fates : List Fate) (rows moved_rows : List Row) (places : List ℕ) → rows ≡ g.body.rows → places ≡ stands_in g fates → moved_rows ≡ rows_left g.body.source_count rows places → moved_rows ≡ rows_merged g fates
rows_are_merged g fates rows moved_rows places r p e = e ∙ ap₂ (λ (rs : List Row) (ps : List ℕ). rows_left g.body.source_count rs ps) r p

pub lits_are_merged : (g : Network) (fates : List Fate) (lits moved_lits : List Lit) (places : List ℕ) → lits ≡ g.body.observed → places ≡ stands_in g fates → moved_lits ≡ map (moved places) lits → moved_lits ≡ lits_merged g fates
lits_are_merged g fates lits moved_lits places l p e = e ∙ ap₂ (λ (ls : List Lit) (ps : List ℕ). map (moved ps) ls) l p

pub merged_count : (g : Network) (fates : List Fate) → length fates ≡ length g.frame.latches → AreTargets fates → length (rows_merged g fates) ≡ length g.body.rows
merged_count g fates count targets = moved_count g.body.source_count (stands_in g fates) g.body.rows (can_merge g fates count targets).few (fits_merged g fates count targets)

pub can_with_merged : (g : Network) (fates : List Fate) → length fates ≡ length g.frame.latches → AreTargets fates → (rows : List Row) (lits : List Lit) → rows ≡ rows_merged g fates → lits ≡ lits_merged g fates → CanCompact g.body.source_count rows lits
can_with_merged g fates count targets rows lits r l =
    subst (λ (ls : List Lit). CanCompact g.body.source_count rows ls) (sym l) (subst (λ (rs : List Row). CanCompact g.body.source_count rs (lits_merged g fates)) (sym r) (compacts_merged g fates count targets))

pub compacted_with : (g : Network) (fates : List Fate) (rows : List Row) (lits : List Lit) (new_rows : List Row) (new_lits : List Lit) → rows ≡ rows_merged g fates → lits ≡ lits_merged g fates → IsCompacted g.body.source_count rows lits new_rows new_lits
    → IsCompacted g.body.source_count (rows_merged g fates) (lits_merged g fates) new_rows new_lits
compacted_with g fates rows lits new_rows new_lits r l c =
    subst (λ (ls : List Lit). IsCompacted g.body.source_count (rows_merged g fates) ls new_rows new_lits) l (subst (λ (rs : List Row). IsCompacted g.body.source_count rs lits new_rows new_lits) r c)

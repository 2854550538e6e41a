-- The LUTs of cuts are a LUT net over the graph's sources, and a literal of a source stays.
use Rattle.std.proofs.Common.{◌≡◌, ℕ, ◌+◌, ◌*◌, ◌/◌, ◌%◌, ◌^◌, ◌<◌, ◌&&◌, nat_lt, nat_le, nat_eq, not, Bool, true, false, All, List, [], ◌∷◌, length, map, get_or, refl, sym, ap, ◌∙◌, subst, inl, inr, arith}
use Rattle.std.specs.List.{list_all, AllByRecursion}
use Rattle.std.proofs.lemmas.Bool.{and_parts, and_from, not_from_false, or_from, le-leb, lt-ltb, ltb-true, false_from_ne_true, eqb-true}
use Rattle.std.proofs.lemmas.List.{length-map, get_or-map}
use Rattle.syn_rows.specs.declared.Lit.{Lit}
use Rattle.syn_rows.specs.Rows.{node_of}
use Rattle.syn_lists.specs.Numbers.{distinct_numbers, has_number}
use Rattle.syn_graph.specs.Graphs.{SourcesStay}
use Rattle.syn_lutnet.specs.LutData.{Lut, lut_at, rising, is_input, is_lut, Reached}
use Rattle.syn_rows.specs.Nodes.{has_node}
use Rattle.syn_cones.specs.Leaves.{rise_above}
use Rattle.syn_covering.specs.Mappings.{HasSignal, node_at, place_of, signal_of, signal_lit, HasLeaves, HasObservedAnds, MappingIsNet, MappingKeepsSources}
use Rattle.syn_lutnet.proofs.Folding.{below, In}
use Rattle.syn_covering.proofs.Matching.{AreMade, place_inside, place_of_at, has_node_at, signal_source, signal_node, place_rises, inputs_below}
use Rattle.syn_covering.proofs.Mapped.{node_is_and, observed_signal, luts_made}

all_above : (x y : ℕ) → x < y → (ys : List ℕ) → list_all (nat_lt y) ys ≡ true → list_all (nat_lt x) ys ≡ true
all_above x y lt [] h = refl
all_above x y lt (z ∷ zs) h =
    let parts = and_parts (nat_lt y z) (list_all (nat_lt y) zs) h in
    let less = ltb-true y z parts.0 in
    and_from (nat_lt x z) (list_all (nat_lt x) zs) (lt-ltb x z (omega (arith, lt, less))) (all_above x y lt zs parts.1)

-- nodes that rise one by one rise
rises : (low : ℕ) (c : List ℕ) → rise_above low c ≡ true → (list_all (nat_lt low) c ≡ true) × (rising c ≡ true)
rises low [] h = (refl, refl)
rises low (n ∷ ns) h =
    let parts = and_parts (nat_lt low n) (rise_above n ns) h in
    let rest = rises n ns parts.1 in
    (and_from (nat_lt low n) (list_all (nat_lt low) ns) parts.0 (all_above low n (ltb-true low n parts.0) ns rest.0), and_from (list_all (nat_lt n) ns) (rising ns) rest.0 rest.1)

signal_less : (count : ℕ) (cuts : ℕ → List ℕ) (nodes : List ℕ) (luts : List Lut) → AreMade count cuts nodes luts → (x y : ℕ) → x < y → HasSignal count nodes x → HasSignal count nodes y → signal_of count nodes x < signal_of count nodes y
signal_less count cuts nodes luts made x y lt p q = elim p [
  | inl a ↦ elim q [
    | inl b ↦ omega (arith, lt, signal_source count nodes x a, signal_source count nodes y b)
    | inr b ↦ omega (arith, a, signal_source count nodes x a, signal_node count nodes y (made.high y b))
  ]
  | inr a ↦ elim q [
    | inl b ↦ absurd (omega (arith, lt, b, made.high x a))
    | inr b ↦ omega (arith, signal_node count nodes x (made.high x a), signal_node count nodes y (made.high y b), place_rises nodes made.rise x y lt a b)
  ]
]

rising_once : (xs : List ℕ) → rising xs ≡ true → distinct_numbers xs ≡ true
rising_once [] r = refl
rising_once (x ∷ xs) r =
    let parts = and_parts (list_all (nat_lt x) xs) (rising xs) r in
    and_from (not (has_number xs x)) (distinct_numbers xs) (not_from_false (has_number xs x) (none xs parts.0)) (rising_once xs parts.1)
  where
    none : (ys : List ℕ) → list_all (nat_lt x) ys ≡ true → has_number ys x ≡ false
    none [] h = refl
    none (y ∷ ys) h =
        let parts = and_parts (nat_lt x y) (list_all (nat_lt x) ys) h in
        let less = ltb-true x y parts.0 in
        or_from (nat_eq y x) (has_number ys x) (false_from_ne_true (nat_eq y x) (λ e. omega (arith, less, eqb-true y x e))) (none ys parts.1)

signals_above : (count : ℕ) (cuts : ℕ → List ℕ) (nodes : List ℕ) (luts : List Lut) → AreMade count cuts nodes luts → (n x : ℕ) → HasSignal count nodes x → (ys : List ℕ) → list_all (nat_lt x) ys ≡ true → AllByRecursion (λ m. (m < n) × HasSignal count nodes m) ys
    → list_all (nat_lt (signal_of count nodes x)) (map (signal_of count nodes) ys) ≡ true
signals_above count cuts nodes luts made n x p [] h all = refl
signals_above count cuts nodes luts made n x p (y ∷ ys) h all =
    let parts = and_parts (nat_lt x y) (list_all (nat_lt x) ys) h in
    and_from (nat_lt (signal_of count nodes x) (signal_of count nodes y)) (list_all (nat_lt (signal_of count nodes x)) (map (signal_of count nodes) ys))
    (lt-ltb (signal_of count nodes x) (signal_of count nodes y) (signal_less count cuts nodes luts made x y (ltb-true x y parts.0) p all.0.1)) (signals_above count cuts nodes luts made n x p ys parts.1 all.1)

signals_rise : (count : ℕ) (cuts : ℕ → List ℕ) (nodes : List ℕ) (luts : List Lut) → AreMade count cuts nodes luts → (n : ℕ) (xs : List ℕ) → rising xs ≡ true → AllByRecursion (λ m. (m < n) × HasSignal count nodes m) xs → rising (map (signal_of count nodes) xs) ≡ true
signals_rise count cuts nodes luts made n [] r all = refl
signals_rise count cuts nodes luts made n (x ∷ xs) r all =
    let parts = and_parts (list_all (nat_lt x) xs) (rising xs) r in
    and_from (list_all (nat_lt (signal_of count nodes x)) (map (signal_of count nodes) xs)) (rising (map (signal_of count nodes) xs))
    (signals_above count cuts nodes luts made n x all.0.1 xs parts.0 all.1) (signals_rise count cuts nodes luts made n xs parts.1 all.1)

inputs_fit : (count : ℕ) (cuts : ℕ → List ℕ) (nodes : List ℕ) (luts : List Lut) → AreMade count cuts nodes luts → (n high : ℕ) (xs : List ℕ) → list_all (nat_lt 0) xs ≡ true → AllByRecursion (λ m. (m < n) × HasSignal count nodes m) xs
    → In high (map (signal_of count nodes) xs) → list_all (is_input high) (map (signal_of count nodes) xs) ≡ true
inputs_fit count cuts nodes luts made n high [] h all low = refl
inputs_fit count cuts nodes luts made n high (x ∷ xs) h all low =
    let parts = and_parts (nat_lt 0 x) (list_all (nat_lt 0) xs) h in
    let lows = and_parts (below high (signal_of count nodes x)) (list_all (below high) (map (signal_of count nodes) xs)) low in
    let there = ltb-true 0 x parts.0 in
    and_from (is_input high (signal_of count nodes x)) (list_all (is_input high) (map (signal_of count nodes) xs))
    (and_from (nat_le 1 (signal_of count nodes x)) (nat_lt (signal_of count nodes x) high) (le-leb 1 (signal_of count nodes x) (elim all.0.1 [
      | inl a ↦ omega (arith, there, signal_source count nodes x a)
      | inr b ↦ omega (arith, signal_node count nodes x (made.high x b))
    ])) lows.0)
    (inputs_fit count cuts nodes luts made n high xs parts.1 all.1 lows.1)

half_of : (s r : ℕ) → r < 2 → (2 * s + r) / 2 ≡ s
half_of s r lt = omega arith

abbrev no_lit : Lit
no_lit = record { 0 = 0 }

abbrev lit : ℕ → Lit
lit n = record { 0 = n }

-- the observed literals

pub out_count : (count : ℕ) (nodes : List ℕ) (lits outs : List Lit) → outs ≡ map (signal_lit count nodes) lits → length outs ≡ length lits
out_count count nodes lits outs are = ap (λ (ls : List Lit). length ls) are ∙ length-map lits (signal_lit count nodes)

out_at : (count : ℕ) (nodes : List ℕ) (lits outs : List Lit) → outs ≡ map (signal_lit count nodes) lits → (i : ℕ) (d : Lit) → i < length lits → get_or outs i d ≡ signal_lit count nodes (get_or lits i no_lit)
out_at count nodes lits outs are i d lt = ap (λ (ls : List Lit). get_or ls i d) are ∙ get_or-map (signal_lit count nodes) lits i no_lit d lt

source_stays : (count : ℕ) (nodes : List ℕ) (l : Lit) → node_of l < count + 1 → signal_lit count nodes l ≡ l
source_stays count nodes l low =
    let same = signal_source count nodes (node_of l) low in
    ap lit (let s : 2 * signal_of count nodes (node_of l) + l.0 % 2 ≡ l.0 = omega (arith, same) in s)

pub outs_stay : (count : ℕ) (nodes : List ℕ) (lits outs : List Lit) → outs ≡ map (signal_lit count nodes) lits → SourcesStay count lits outs
outs_stay count nodes lits outs are i l lt low at =
    out_at count nodes lits outs are i no_lit lt ∙ ap (signal_lit count nodes) at ∙ source_stays count nodes l low

pub mapping_stays : MappingKeepsSources
mapping_stays cut count rows lits nodes luts outs mapping = outs_stay count nodes lits outs mapping.outs_are

pub mapping_net : MappingIsNet
mapping_net count k cut rows lits nodes luts outs fit graph mapping = record { luts_fit = luts_fit; within = within; reached = reached }
  where
    are : AreMade count cut nodes luts
    are = luts_made count k cut rows lits nodes luts outs fit graph mapping

    long : length outs ≡ length lits
    long = out_count count nodes lits outs mapping.outs_are

    out_node : (i : ℕ) (d : Lit) → i < length lits → node_of (get_or outs i d) ≡ signal_of count nodes (node_of (get_or lits i no_lit))
    out_node i d lt = ap node_of (out_at count nodes lits outs mapping.outs_are i d lt) ∙ half_of (signal_of count nodes (node_of (get_or lits i no_lit))) ((get_or lits i no_lit).0 % 2) (omega arith)

    within : All (λ l. node_of l < count + 1 + length luts) outs
    within i d lt =
        let inside : i < length lits = omega (arith, lt, long) in
        elim (observed_signal count k cut rows lits nodes luts outs fit graph mapping i no_lit inside) [
          | inl a ↦ omega (arith, out_node i d inside, signal_source count nodes (node_of (get_or lits i no_lit)) a, a)
          | inr b ↦ omega (arith, out_node i d inside, signal_node count nodes (node_of (get_or lits i no_lit)) (are.high (node_of (get_or lits i no_lit)) b), place_inside (node_of (get_or lits i no_lit)) nodes b, mapping.long)
        ]

    luts_fit : (j : ℕ) → j < length luts → is_lut (count + 1 + j) (lut_at luts j) ≡ true
    luts_fit j lt =
        let inside : j < length nodes = omega (arith, lt, mapping.long) in
        let n : ℕ = node_at nodes j in
        let h = has_node_at nodes j inside in
        let gate = node_is_and count k cut rows lits nodes luts outs fit graph mapping (node_at nodes j) h in
        let is = fit (node_at nodes j) gate in
        let rise = rises 0 (cut (node_at nodes j)) is.rising in
        let e = mapping.inputs j inside in
        let l : Lut = lut_at luts j in
        let small : Bool = list_all (λ m. nat_lt m (2 ^ length (lut_at luts j).inputs)) (lut_at luts j).ones in
        let low : In (count + 1 + j) (map (signal_of count nodes) (cut (node_at nodes j))) =
        subst (λ p. In (count + 1 + p) (map (signal_of count nodes) (cut (node_at nodes j)))) (place_of_at nodes mapping.nodes_are.rise j inside) (inputs_below count cut nodes luts are (node_at nodes j) h (cut (node_at nodes j)) (are.leaves (node_at nodes j) h)) in
        and_from (nat_le 2 (length l.inputs)) (distinct_numbers l.inputs && (list_all (is_input (count + 1 + j)) l.inputs && (rising l.ones && small)))
        (ap (λ (xs : List ℕ). nat_le 2 (length xs)) e ∙ ap (nat_le 2) (length-map (cut (node_at nodes j)) (signal_of count nodes)) ∙ le-leb 2 (length (cut (node_at nodes j))) is.two)
        (and_from (distinct_numbers l.inputs) (list_all (is_input (count + 1 + j)) l.inputs && (rising l.ones && small))
        (ap distinct_numbers e ∙ rising_once (map (signal_of count nodes) (cut (node_at nodes j))) (signals_rise count cut nodes luts are (node_at nodes j) (cut (node_at nodes j)) rise.1 (are.leaves (node_at nodes j) h)))
        (and_from (list_all (is_input (count + 1 + j)) l.inputs) (rising l.ones && small)
        (ap (list_all (is_input (count + 1 + j))) e ∙ inputs_fit count cut nodes luts are (node_at nodes j) (count + 1 + j) (cut (node_at nodes j)) rise.0 (are.leaves (node_at nodes j) h) low)
        (and_from (rising l.ones) small (mapping.rising_ones j inside) (mapping.small_ones j inside))))

    reached : (j : ℕ) → j < length luts → Reached (count + 1) luts outs (count + 1 + j)
    reached j lt set closed seen =
        let inside : j < length nodes = omega (arith, lt, mapping.long) in
        let h = has_node_at nodes j inside in
        let found = (and_parts (set (signal_of count nodes (node_at nodes j))) (has_node nodes (node_at nodes j)) (mapping.nodes_are.needed (node_at nodes j) h (λ m. set (signal_of count nodes m) && has_node nodes m) leaves observes)).0 in
        let at : signal_of count nodes (node_at nodes j) ≡ count + 1 + j = omega (arith, signal_node count nodes (node_at nodes j) (are.high (node_at nodes j) h), place_of_at nodes mapping.nodes_are.rise j inside) in
        ap set (sym at) ∙ found
      where
        leaves : HasLeaves cut rows (λ m. set (signal_of count nodes m) && has_node nodes m)
        leaves n t i d l a =
            let parts = and_parts (set (signal_of count nodes n)) (has_node nodes n) t in
            let there : place_of n nodes < length luts = omega (arith, mapping.long, place_inside n nodes parts.1) in
            let here : set (count + 1 + place_of n nodes) ≡ true = ap set (sym (signal_node count nodes n (are.high n parts.1))) ∙ parts.0 in
            let long_inputs : length (lut_at luts (place_of n nodes)).inputs ≡ length (cut n) = ap (λ (xs : List ℕ). length xs) (are.inputs n parts.1) ∙ length-map (cut n) (signal_of count nodes) in
            and_from (set (signal_of count nodes (get_or (cut n) i d))) (has_node nodes (get_or (cut n) i d))
            (ap set (sym (ap (λ (xs : List ℕ). get_or xs i 0) (are.inputs n parts.1) ∙ get_or-map (signal_of count nodes) (cut n) i d 0 l)) ∙ closed (place_of n nodes) there here i 0 (omega (arith, l, long_inputs)))
            (mapping.nodes_are.all (get_or (cut n) i d) (λ other l2 o2. l2 n (mapping.nodes_are.needed n parts.1 other l2 o2) i d l a))

        observes : HasObservedAnds rows lits (λ m. set (signal_of count nodes m) && has_node nodes m)
        observes i d l a =
            let out : get_or outs i no_lit ≡ signal_lit count nodes (get_or lits i d) = ap (λ (ls : List Lit). get_or ls i no_lit) mapping.outs_are ∙ get_or-map (signal_lit count nodes) lits i d no_lit l in
            let node : node_of (get_or outs i no_lit) ≡ signal_of count nodes (node_of (get_or lits i d)) = ap node_of out ∙ half_of (signal_of count nodes (node_of (get_or lits i d))) ((get_or lits i d).0 % 2) (omega arith) in
            and_from (set (signal_of count nodes (node_of (get_or lits i d)))) (has_node nodes (node_of (get_or lits i d)))
            (ap set (sym node) ∙ seen i no_lit (omega (arith, l, long)))
            (mapping.nodes_are.all (node_of (get_or lits i d)) (λ other l2 o2. o2 i d l a))

-- LUTs of cuts have the graph's function.
use Rattle.std.proofs.Common.{◌≡◌, ℕ, suc, ◌+◌, ◌*◌, ◌/◌, ◌%◌, ◌<◌, ◌≤◌, nat_eq, not, if◌then◌else◌, Bool, true, false, All, List, [], ◌∷◌, map, length, get_or, refl, sym, ap, ap₂, ◌∙◌, subst, inl, inr, arith}
use Rattle.std.specs.List.{list_all, AllByRecursion}
use Rattle.std.proofs.lemmas.Bool.{cases_lt, and_parts, both_ways, ltb-true}
use Rattle.std.proofs.lemmas.List.{length-map, get_or_past}
use Rattle.std.proofs.lemmas.List.Elements.{recursion_from_All}
use Rattle.syn_rows.specs.declared.Lit.{Lit}
use Rattle.syn_rows.specs.declared.Row.{Row}
use Rattle.syn_rows.specs.declared.Row.TheVariants.{Free, Source, And, Alias}
use Rattle.syn_rows.specs.Rows.{node_of, row_at, InOrder}
use Rattle.syn_rows.specs.Values.{lit_value, is_open, given_by, value_in, values_of, rows_function, OneValuation}
use Rattle.syn_rows.specs.Reach.{is_and}
use Rattle.syn_rows.proofs.Folds.{one_valuation_is}
use Rattle.syn_graph.specs.Graphs.{IsGraph}
use Rattle.syn_hashed.specs.Hashed.{is_gate}
use Rattle.syn_rows.specs.Nodes.{has_node}
use Rattle.syn_cones.proofs.Swapping.{all_fit_between}
use Rattle.syn_hashed.proofs.Orders.{hashed_in_order}
use Rattle.syn_lutnet.specs.LutData.{Lut, ones_value, lut_value, lut_at, signal_values, luts_function}
use Rattle.syn_covering.specs.Cuts.{AreLutCuts}
use Rattle.syn_covering.specs.Mappings.{HasSignal, place_of, signal_of, signal_lit, AreOnesOver, IsMapping, MappingKeepsFunction}
use Rattle.syn_lutnet.proofs.Folding.{below, In, IsLocal}
use Rattle.syn_covering.proofs.Matching.{place_inside, node_at_place, AreMade, signals_match}

-- rows

pub gate_is_and : (n : ℕ) (row : Row) → is_gate n row ≡ true → is_and row ≡ true
gate_is_and n Free h = h
gate_is_and n Source h = h
gate_is_and n (And a b) h = refl
gate_is_and n (Alias a) h = h

-- steps look at inputs alone

value_local : IsLocal lut_value
value_local f g l e = ap (ones_value l.ones) e

-- literals

value_lit : (count : ℕ) (nodes : List ℕ) (u f : ℕ → Bool) (l : Lit) → u (signal_of count nodes (node_of l)) ≡ f (node_of l) → lit_value u (signal_lit count nodes l) ≡ lit_value f l
value_lit count nodes u f l e =
    let odd : (2 * signal_of count nodes (node_of l) + l.0 % 2) % 2 ≡ l.0 % 2 = twice_odd (signal_of count nodes (node_of l)) (l.0 % 2) (omega arith) in
    let half : (2 * signal_of count nodes (node_of l) + l.0 % 2) / 2 ≡ signal_of count nodes (node_of l) = twice_half (signal_of count nodes (node_of l)) (l.0 % 2) (omega arith) in
    ap₂ (λ (r h : ℕ). if nat_eq r 0 then u h else not (u h)) odd half ∙ ap (λ (b : Bool). if nat_eq (l.0 % 2) 0 then b else not b) e
  where
    twice_odd : (s r : ℕ) → r < 2 → (2 * s + r) % 2 ≡ r
    twice_odd s r lt = omega arith

    twice_half : (s r : ℕ) → r < 2 → (2 * s + r) / 2 ≡ s
    twice_half s r lt = omega arith

lits_map : (count : ℕ) (nodes : List ℕ) (u f : ℕ → Bool) (ls : List Lit) → AllByRecursion (λ l. lit_value u (signal_lit count nodes l) ≡ lit_value f l) ls → map (lit_value u) (map (signal_lit count nodes) ls) ≡ map (lit_value f) ls
lits_map count nodes u f [] h = refl
lits_map count nodes u f (l ∷ ls) h = ap₂ (λ (b : Bool) (bs : List Bool). b ∷ bs) h.0 (lits_map count nodes u f ls h.1)

module _ (count k : ℕ) (cut : ℕ → List ℕ) (rows : List Row) (lits : List Lit) (nodes : List ℕ) (luts : List Lut) (outs : List Lit) (fit : AreLutCuts k rows cut) (graph : IsGraph count rows lits) (mapping : IsMapping cut count rows lits nodes luts outs) where
  order : InOrder rows
  order = hashed_in_order count rows graph.hashed

  pub node_is_and : (n : ℕ) → has_node nodes n ≡ true → is_and (row_at rows n) ≡ true
  node_is_and n h = mapping.nodes_are.needed n h (λ m. is_and (row_at rows m)) (λ m t j d lt a. a) (λ j d lt a. a)

  pub node_high : (n : ℕ) → has_node nodes n ≡ true → count + 1 ≤ n
  node_high n h = elim (cases_lt n (count + 1)) [
    | inl lt ↦ absurd (both_ways (is_and (row_at rows n)) (ap is_and (graph.hashed.front n lt)) (node_is_and n h))
    | inr ge ↦ ge
  ]

  pub node_there : (n : ℕ) → has_node nodes n ≡ true → n < length rows
  node_there n h = elim (cases_lt n (length rows)) [
    | inl lt ↦ lt
    | inr past ↦ absurd (both_ways (is_and (row_at rows n)) (ap is_and (get_or_past rows n Free past)) (node_is_and n h))
  ]

  pub has_signal : (m : ℕ) → m < length rows → (is_and (row_at rows m) ≡ true → has_node nodes m ≡ true) → HasSignal count nodes m
  has_signal m lt f = elim (cases_lt m (count + 1)) [
    | inl low ↦ inl low
    | inr ge ↦ inr (f (gate_is_and m (row_at rows m) (graph.hashed.gates m (omega (arith, ge)) lt)))
  ]

  leaves_needed : (n : ℕ) → has_node nodes n ≡ true → All (λ m. is_and (row_at rows m) ≡ true → has_node nodes m ≡ true) (cut n)
  leaves_needed n h j d lt a = mapping.nodes_are.all (get_or (cut n) j d) (λ set leaves seen. leaves n (mapping.nodes_are.needed n h set leaves seen) j d lt a)

  leaves_ready : (n : ℕ) → n < length rows → (c : List ℕ) → In n c → AllByRecursion (λ m. is_and (row_at rows m) ≡ true → has_node nodes m ≡ true) c → AllByRecursion (λ m. (m < n) × HasSignal count nodes m) c
  leaves_ready n there [] h all = tt
  leaves_ready n there (x ∷ xs) h all =
      let parts = and_parts (below n x) (list_all (below n) xs) h in
      let less = ltb-true x n parts.0 in
      ((less, has_signal x (omega (arith, less, there)) all.0), leaves_ready n there xs parts.1 all.1)

  pub luts_made : AreMade count cut nodes luts
  luts_made = record {
    rise = mapping.nodes_are.rise;
    high = node_high;
    leaves = λ n h. leaves_ready n (node_there n h) (cut n) (fit n (node_is_and n h)).below
        (recursion_from_All (λ m. is_and (row_at rows m) ≡ true → has_node nodes m ≡ true) (cut n) (leaves_needed n h));
    long = mapping.long;
    inputs = λ n h. mapping.inputs (place_of n nodes) (place_inside n nodes h) ∙ ap (λ m. map (signal_of count nodes) (cut m)) (node_at_place n nodes h);
  }

  pub observed_signal : (i : ℕ) (d : Lit) → i < length lits → HasSignal count nodes (node_of (get_or lits i d))
  observed_signal i d lt = has_signal (node_of (get_or lits i d)) (graph.within i d lt) (λ a. mapping.nodes_are.all (node_of (get_or lits i d)) (λ set leaves seen. seen i d lt a))

  -- values

  ones_at : (n : ℕ) → has_node nodes n ≡ true → AreOnesOver rows (cut n) n (lut_at luts (place_of n nodes)).ones
  ones_at n h = subst (λ m. AreOnesOver rows (cut m) m (lut_at luts (place_of n nodes)).ones) (node_at_place n nodes h) (mapping.ones (place_of n nodes) (place_inside n nodes h))

  abbrev node_value : List Bool → ℕ → Bool
  node_value bits = value_in (values_of (given_by bits) rows)

  valuation : (bits : List Bool) → OneValuation rows (given_by bits)
  valuation bits = one_valuation_is rows (given_by bits) order refl

  source_value : (bits : List Bool) (m : ℕ) → m < count + 1 → get_or (false ∷ bits) m false ≡ node_value bits m
  source_value bits m lt = sym ((valuation bits).1 m (omega (arith, lt, graph.hashed.there)) (ap is_open (graph.hashed.front m lt)))

  lut_gives : (bits : List Bool) (n : ℕ) → has_node nodes n ≡ true → (u : ℕ → Bool) → map u (lut_at luts (place_of n nodes)).inputs ≡ map (node_value bits) (cut n) → lut_value u (lut_at luts (place_of n nodes)) ≡ node_value bits n
  lut_gives bits n h u e = ap (ones_value (lut_at luts (place_of n nodes)).ones) e
      ∙ sym (ones_at n h (map (node_value bits) (cut n)) (length-map (cut n) (node_value bits)) (node_value bits) (all_fit_between rows (cut n) n (node_value bits) (valuation bits).0) refl)

  pub keeps_function : (bits : List Bool) → length bits ≡ count → luts_function luts outs bits ≡ rows_function rows lits bits
  keeps_function bits long =
      ap (λ (ls : List Lit). map (lit_value (value_in (signal_values bits luts))) ls) mapping.outs_are
      ∙ lits_map count nodes (value_in (signal_values bits luts)) (node_value bits) lits
      (recursion_from_All (λ l. lit_value (value_in (signal_values bits luts)) (signal_lit count nodes l) ≡ lit_value (node_value bits) l) lits
      (λ i d lt. value_lit count nodes (value_in (signal_values bits luts)) (node_value bits) (get_or lits i d)
      (signals_match count cut nodes luts luts_made lut_value false value_local (false ∷ bits) (node_value bits) (omega (arith, long)) (source_value bits) (lut_gives bits)
      (suc (node_of (get_or lits i d))) (node_of (get_or lits i d)) (omega arith) (observed_signal i d lt))))

pub mapping_keeps : MappingKeepsFunction
mapping_keeps = keeps_function

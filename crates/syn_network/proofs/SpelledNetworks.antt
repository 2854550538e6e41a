-- The netlist of a graph is ordered, has graph shape, and spells the graph.
use Rattle.std.proofs.Common.{◌≡◌, ℕ, zero, suc, ◌+◌, ◌-◌, ◌*◌, ◌<◌, ◌≤◌, not, true, false, All, List, [], ◌∷◌, ◌++◌, map, length, find, get_or, take, bytes_eq, refl, sym, ap, ap₂, ◌∙◌, subst, inl, inr, append-nil, arith}
use Rattle.std.specs.Prelude.{AllPairs, flat_map}
use Rattle.std.proofs.lemmas.Bool.{and_parts, and_from, or_from, or_parts, not-true, not_from_false, cases_Bool, both_ways, cond-true, cond-false, false_from_ne_true}
use Rattle.std.proofs.lemmas.List.{length-map, length-append, length-drop, length-take-le, get_or-take, get_or-map, get_or_default, take-append-drop, map-append, same_lists}
use Rattle.std.proofs.lemmas.List.Elements.{filter-append, All-from_recursion, recursion_from_All}
use Rattle.syn_rows.specs.declared.Lit.{Lit}
use Rattle.syn_rows.specs.declared.Row.{Row}
use Rattle.syn_rows.specs.declared.Row.TheVariants.{Free, Source}
use Rattle.syn_rows.specs.Rows.{node_of}
use Rattle.syn_rows.specs.Reach.{IsClosed, HasObserved, Reached}
use Rattle.syn_netlist.specs.Words.{has_word, distinct, without}
use Rattle.syn_netlist.specs.Lists.{Table, Netlist, output_of, latch_reads, sources, observed}
use Rattle.syn_netlist.specs.Numbers.{word_at}
use Rattle.syn_netlist.specs.Order.{Ordered}
use Rattle.syn_netlist.proofs.Sets.{has_word-append, has_head, has_tail}
use Rattle.syn_network.specs.GraphShape.{has_two, and_tables, end_tables, node_names, place, shown, row_of, source_row, rows_of, lit_of, lit_of_table, observed_of, is_and_table, is_end_table, same_pair, GraphShape}
use Rattle.syn_hashed.specs.Hashed.{lit_at}
use Rattle.syn_network.specs.Spelling.{gates_of, gate_names, gate_tables, ends_from, network, NetworkOfGraph}
use Rattle.syn_network.proofs.Spelled.{place_in_front, source_rows}
use Rattle.syn_network.proofs.Inner.{filtered, distinct-filter, length-inner_names, inner_names_distinct, inner_names_free}
use Rattle.syn_network.proofs.Gates.{AreGates, hashed_gates, lit, gates_have_two, no_gate_ends, gate_outputs, length-gate_tables, gates_spell, gates_are_ands, gates_read, other_pairs}
use Rattle.syn_network.proofs.Ends.{firsts_distinct, AllWithin, no_end_has_two, ends_are_others, end_outputs, ends_are_ends, ends_read, end_found, end_back}

pub distinct_append : (xs ys : List (List ℕ)) → distinct xs ≡ true → distinct ys ≡ true → ((w : List ℕ) → has_word xs w ≡ true → has_word ys w ≡ false) → distinct (xs ++ ys) ≡ true
distinct_append [] ys d e away = e
distinct_append (x ∷ xs) ys d e away =
    let parts = and_parts (not (has_word xs x)) (distinct xs) d in
    and_from (not (has_word (xs ++ ys) x)) (distinct (xs ++ ys))
    (not_from_false (has_word (xs ++ ys) x) (has_word-append xs ys x ∙ or_from (has_word xs x) (has_word ys x) (not-true (has_word xs x) parts.0) (away x (has_head x xs))))
    (distinct_append xs ys parts.1 e (λ w h. away w (has_tail x w xs h)))

front_at : (words : List (List ℕ)) (k : ℕ) (d : Row) → k < length words + 1 → get_or (Source ∷ map source_row words) k d ≡ Source
front_at words zero d lt = refl
front_at words (suc k) d lt = source_rows words k d (omega arith)

pub network_spells : NetworkOfGraph
network_spells frame rows lits clocks once graph = record { ordered = ordered; shape = shape; same_rows = same_rows; same_lits = same_lits; ands = ap (λ (ts : List Table). length ts) and_tables_are ∙ length-gate_tables names first rest inner are inner_long }
  where
    S : List (List ℕ)
    S = sources frame

    O : List (List ℕ)
    O = observed frame

    observed_distinct : distinct O ≡ true
    observed_distinct = firsts_distinct (frame.outputs ++ flat_map latch_reads frame.latches)

    first : ℕ
    first = length S + 1

    rest : List Row
    rest = gates_of frame rows

    inner : List (List ℕ)
    inner = gate_names frame rows

    names : List (List ℕ)
    names = S ++ inner

    gates : List Table
    gates = gate_tables names rest inner

    ends : List Table
    ends = ends_from S names O lits

    n : Netlist
    n = network frame rows lits

    long : length rest ≡ length rows - first
    long = length-drop first rows

    are : AreGates first rest
    are = hashed_gates (length S) rows graph.hashed

    inner_long : length inner ≡ length rest
    inner_long = length-inner_names (S ++ O) (length rest)

    names_long : length names ≡ length S + length rest
    names_long = length-append S inner ∙ ap (λ k. length S + k) inner_long

    inner_free : (w : List ℕ) → has_word inner w ≡ true → (has_word S w ≡ false) × (has_word O w ≡ false)
    inner_free w h = or_parts (has_word S w) (has_word O w) (sym (has_word-append S O w) ∙ inner_names_free (S ++ O) (length rest) w h)

    inner_distinct : distinct inner ≡ true
    inner_distinct = inner_names_distinct (S ++ O) (length rest)

    names_distinct : distinct names ≡ true
    names_distinct = distinct_append S inner once inner_distinct (λ w h. false_from_ne_true (has_word inner w) (λ t. both_ways (has_word S w) (inner_free w t).0 h))

    within : AllWithin (length names) lits
    within = recursion_from_All (λ l. node_of l ≤ length names) lits (λ k d lt. omega (arith, graph.within k d lt, names_long, long))

    fits : first + length rest ≤ length names + 1
    fits = omega (arith, names_long)

    and_tables_are : and_tables n ≡ gates
    and_tables_are = filter-append has_two gates ends ∙ ap₂ (λ (xs ys : List Table). xs ++ ys) (gates_have_two names first rest inner are) (no_end_has_two S names O lits) ∙ append-nil gates

    end_tables_are : end_tables n ≡ ends
    end_tables_are = filter-append (λ t. not (has_two t)) gates ends ∙ ap₂ (λ (xs ys : List Table). xs ++ ys) (no_gate_ends names first rest inner are) (ends_are_others S names O lits)

    outputs : map output_of gates ≡ inner
    outputs = gate_outputs names first rest inner are inner_long

    node_names_are : node_names n ≡ names
    node_names_are = ap (λ (ts : List Table). S ++ map output_of ts) and_tables_are ∙ ap (λ (ws : List (List ℕ)). S ++ ws) outputs

    gates_spelled : map (row_of (node_names n)) (and_tables n) ≡ rest
    gates_spelled = ap₂ (λ (ns : List (List ℕ)) (ts : List Table). map (row_of ns) ts) node_names_are and_tables_are ∙ gates_spell names names_distinct first rest inner are inner_long fits

    front : Source ∷ map source_row S ≡ take first rows
    front = same_lists (Source ∷ map source_row S) (take first rows)
        (omega (arith, length-map S source_row, length-take-le first rows (omega (arith, graph.hashed.there))))
        (λ k d lt.
        let low : k < first = omega (arith, lt, length-map S source_row) in
        front_at S k d low ∙ sym (get_or-take first rows k d low ∙ get_or_default rows k d Free (omega (arith, low, graph.hashed.there)) ∙ graph.hashed.front k low))

    same_rows : rows_of n ≡ rows
    same_rows = ap₂ (λ (xs ys : List Row). xs ++ ys) front gates_spelled ∙ take-append-drop first rows

    lit_back : (i : ℕ) → i < length O → lit_of n (word_at O i) ≡ lit_at lits i
    lit_back i lt = elim (cases_Bool (has_word S (word_at O i))) [
      | inl s ↦ cond-true (has_word S (word_at O i)) (shown (node_names n) (word_at O i) 49) (lit_of_table (node_names n) (find (λ t. bytes_eq t.output (word_at O i)) (end_tables n))) s
          ∙ ap (λ (ns : List (List ℕ)). shown ns (word_at O i) 49) node_names_are
          ∙ ap (λ p. lit (2 * (p + 1) + 0)) (place_in_front S inner (word_at O i) s)
          ∙ ap lit (let z : 2 * (place (word_at O i) S + 1) + 0 ≡ 2 * (place (word_at O i) S + 1) = omega arith in z)
          ∙ sym (graph.own i (omega (arith, lt, graph.count)) s)
      | inr s ↦ cond-false (has_word S (word_at O i)) (shown (node_names n) (word_at O i) 49) (lit_of_table (node_names n) (find (λ t. bytes_eq t.output (word_at O i)) (end_tables n))) s
          ∙ ap₂ (λ (ns : List (List ℕ)) (ts : List Table). lit_of_table ns (find (λ t. bytes_eq t.output (word_at O i)) ts)) node_names_are end_tables_are
          ∙ ap (lit_of_table names) (end_found S names O lits observed_distinct graph.count i lt s)
          ∙ end_back names names_distinct (word_at O i) (lit_at lits i) (omega (arith, graph.within i (lit 0) (omega (arith, lt, graph.count)), names_long, long))
    ]

    same_lits : observed_of n ≡ lits
    same_lits = same_lists (map (lit_of n) O) lits (length-map O (lit_of n) ∙ sym graph.count)
        (λ k d lt.
        let inside : k < length O = omega (arith, lt, length-map O (lit_of n)) in
        get_or-map (lit_of n) O k [] d inside ∙ lit_back k inside ∙ get_or_default lits k (lit 0) d (omega (arith, inside, graph.count)))

    ends_once : distinct (without S O) ≡ true
    ends_once = distinct-filter (λ w. not (has_word S w)) O observed_distinct

    defined_once : distinct (S ++ map output_of (gates ++ ends)) ≡ true
    defined_once = ap (λ (ws : List (List ℕ)). distinct (S ++ ws)) (map-append output_of gates ends ∙ ap₂ (λ (xs ys : List (List ℕ)). xs ++ ys) outputs (end_outputs S names O lits graph.count))
        ∙ distinct_append S (inner ++ without S O) once
        (distinct_append inner (without S O) inner_distinct ends_once
        (λ w h. false_from_ne_true (has_word (without S O) w) (λ t. both_ways (has_word O w) (inner_free w h).1 (filtered (λ x. not (has_word S x)) O w t).1)))
        (λ w h. has_word-append inner (without S O) w ∙ or_from (has_word inner w) (has_word (without S O) w)
        (false_from_ne_true (has_word inner w) (λ t. both_ways (has_word S w) (inner_free w t).0 h))
        (false_from_ne_true (has_word (without S O) w) (λ t. both_ways (has_word S w) (not-true (has_word S w) (filtered (λ x. not (has_word S x)) O w t).0) h)))

    ordered : Ordered n
    ordered = record { once = record { clocks = clocks; all = defined_once }; above = gates_read S names first rest inner ends are inner_long refl refl (ends_read S names O lits names within (λ w h. h)) }

    reached : (j : ℕ) → j < length (and_tables n) → Reached (rows_of n) (observed_of n) (length S + 1 + j)
    reached j lt set closed seen = graph.reached (length S + 1 + j) (omega arith)
        (omega (arith, lt, ap (λ (ts : List Table). length ts) and_tables_are, length-gate_tables names first rest inner are inner_long, long))
        set (subst (λ (rs : List Row). IsClosed rs set) same_rows closed) (subst (λ (ls : List Lit). HasObserved ls set) same_lits seen)

    ends_end : All (λ t. is_end_table (node_names n) t ≡ true) (end_tables n)
    ends_end = subst (λ (ns : List (List ℕ)). All (λ t. is_end_table ns t ≡ true) (end_tables n)) (sym node_names_are)
        (subst (λ (ts : List Table). All (λ t. is_end_table names t ≡ true) ts) (sym end_tables_are) (All-from_recursion (λ t. is_end_table names t ≡ true) ends (ends_are_ends S names O lits within)))

    shape : GraphShape n
    shape = record {
      split = ap₂ (λ (xs ys : List Table). xs ++ ys) (sym and_tables_are) (sym end_tables_are);
      ands = subst (λ (ts : List Table). All (λ t. is_and_table t ≡ true) ts) (sym and_tables_are) (All-from_recursion (λ t. is_and_table t ≡ true) gates (gates_are_ands names names_distinct first rest inner are inner_long fits));
      pairs = subst (λ (rs : List Row). AllPairs (λ r s. same_pair r s ≡ false) rs) (sym gates_spelled) (other_pairs (length S) rows graph.hashed);
      reached = reached;
      ends = ends_end;
      each = ap (map output_of) end_tables_are ∙ end_outputs S names O lits graph.count;
    }

-- The netlist of a LUT net is ordered, has LUT shape, and spells the net.
use Rattle.std.proofs.Common.{◌≡◌, ℕ, ◌+◌, ◌*◌, ◌<◌, ◌≤◌, nat_le, not, Bool, true, false, All, List, [], ◌∷◌, ◌++◌, map, length, find, bytes_eq, refl, sym, ap, ap₂, ◌∙◌, subst, inl, inr, append-nil, arith}
use Rattle.std.specs.Prelude.{flat_map}
use Rattle.std.specs.List.{AllByRecursion}
use Rattle.std.proofs.lemmas.Bool.{or_from, or_parts, not-true, cases_Bool, both_ways, cond-true, cond-false, false_from_ne_true}
use Rattle.std.proofs.lemmas.List.{length-map, length-append, get_or-map, get_or_default, map-append, same_lists}
use Rattle.std.proofs.lemmas.List.Elements.{filter-append, All-from_recursion, recursion_from_All}
use Rattle.syn_rows.specs.declared.Lit.{Lit}
use Rattle.syn_rows.specs.Rows.{node_of}
use Rattle.syn_rows.specs.Reach.{HasObserved}
use Rattle.syn_netlist.specs.Words.{has_word, distinct, without}
use Rattle.syn_netlist.specs.Lists.{Table, Netlist, output_of, latch_reads, sources, observed}
use Rattle.syn_netlist.specs.Numbers.{word_at}
use Rattle.syn_netlist.specs.Order.{Ordered}
use Rattle.syn_netlist.proofs.Sets.{has_word-append}
use Rattle.syn_network.specs.GraphShape.{place, shown, lit_of_table, is_end_cover, is_end_table}
use Rattle.syn_hashed.specs.Hashed.{lit_at}
use Rattle.syn_network.specs.Spelling.{ends_from}
use Rattle.syn_network.proofs.Spelled.{place_in_front}
use Rattle.syn_network.proofs.SpelledNetworks.{distinct_append}
use Rattle.syn_network.proofs.Inner.{filtered, distinct-filter, length-inner_names, inner_names_distinct, inner_names_free}
use Rattle.syn_network.proofs.Gates.{lit}
use Rattle.syn_network.proofs.Ends.{firsts_distinct, AllWithin, end_outputs, ends_are_ends, ends_read, end_found, end_back}
use Rattle.syn_lutnet.proofs.LutParts.{AreLuts, luts_from_each}
use Rattle.syn_lutnet.specs.LutData.{Lut, IsClosed, Reached, none_exceeds, net_depth, net_gates}
use Rattle.syn_network.specs.LutShape.{has_more, lut_tables, end_tables, signal_names, lut_of, luts_of, lit_of, observed_of, is_lut_table, LutShape}
use Rattle.syn_network.specs.LutSpelling.{lut_tables_of, lut_names, lut_network, NetworkOfLuts}
use Rattle.syn_network.proofs.LutTables.{keeps_all, keeps_none, not_all, not_none, luts_have_more, lut_outputs, luts_spell, luts_are_tables, luts_read}

-- a table of an observed signal has at most one input
end_not_more : (names inputs rows : List (List ℕ)) (on : Bool) → is_end_cover names inputs rows on ≡ true → nat_le 2 (length inputs) ≡ false
end_not_more names [] rows on h = refl
end_not_more names (a ∷ []) rows on h = refl
end_not_more names inputs rows on h = absurd (both_ways false refl h)

ends_not_more : (names : List (List ℕ)) (ts : List Table) → AllByRecursion (λ t. is_end_table names t ≡ true) ts → AllByRecursion (λ t. has_more t ≡ false) ts
ends_not_more names [] h = tt
ends_not_more names (t ∷ ts) h = (end_not_more names t.inputs t.rows t.on h.0, ends_not_more names ts h.1)

pub network_spells_luts : NetworkOfLuts
network_spells_luts frame luts lits clocks once net = record {
  ordered = ordered;
  shape = shape;
  same_luts = same_luts;
  same_lits = same_lits;
  count = ap (λ (ls : List Lut). length ls) same_luts;
  depth = ap (net_depth (length (sources frame))) same_luts;
  gates = ap net_gates same_luts;
}
  where
    S : List (List ℕ)
    S = sources frame

    O : List (List ℕ)
    O = observed frame

    observed_distinct : distinct O ≡ true
    observed_distinct = firsts_distinct (frame.outputs ++ flat_map latch_reads frame.latches)

    first : ℕ
    first = length S + 1

    inner : List (List ℕ)
    inner = lut_names frame luts

    names : List (List ℕ)
    names = S ++ inner

    tables : List Table
    tables = lut_tables_of names luts inner

    ends : List Table
    ends = ends_from S names O lits

    n : Netlist
    n = lut_network frame luts lits

    are : AreLuts first luts
    are = luts_from_each first luts net.luts_fit

    inner_long : length inner ≡ length luts
    inner_long = length-inner_names (S ++ O) (length luts)

    names_long : length names ≡ length S + length luts
    names_long = length-append S inner ∙ ap (λ k. length S + k) inner_long

    inner_free : (w : List ℕ) → has_word inner w ≡ true → (has_word S w ≡ false) × (has_word O w ≡ false)
    inner_free w h = or_parts (has_word S w) (has_word O w) (sym (has_word-append S O w) ∙ inner_names_free (S ++ O) (length luts) w h)

    inner_distinct : distinct inner ≡ true
    inner_distinct = inner_names_distinct (S ++ O) (length luts)

    names_once : distinct names ≡ true
    names_once = distinct_append S inner once inner_distinct (λ w h. false_from_ne_true (has_word inner w) (λ t. both_ways (has_word S w) (inner_free w t).0 h))

    within : AllWithin (length names) lits
    within = recursion_from_All (λ l. node_of l ≤ length names) lits (λ k d lt. omega (arith, net.within k d lt, names_long))

    fits : first + length luts ≤ length names + 1
    fits = omega (arith, names_long)

    ends_end : AllByRecursion (λ t. is_end_table names t ≡ true) ends
    ends_end = ends_are_ends S names O lits within

    more : AllByRecursion (λ t. has_more t ≡ true) tables
    more = luts_have_more names first luts inner are

    no_more : AllByRecursion (λ t. has_more t ≡ false) ends
    no_more = ends_not_more names ends ends_end

    lut_tables_are : lut_tables n ≡ tables
    lut_tables_are = filter-append has_more tables ends ∙ ap₂ (λ (xs ys : List Table). xs ++ ys) (keeps_all has_more tables more) (keeps_none has_more ends no_more) ∙ append-nil tables

    end_tables_are : end_tables n ≡ ends
    end_tables_are = filter-append (λ t. not (has_more t)) tables ends ∙ ap₂ (λ (xs ys : List Table). xs ++ ys) (keeps_none (λ t. not (has_more t)) tables (not_all has_more tables more)) (keeps_all (λ t. not (has_more t)) ends (not_none has_more ends no_more))

    outputs : map output_of tables ≡ inner
    outputs = lut_outputs names luts inner inner_long

    signal_names_are : signal_names n ≡ names
    signal_names_are = ap (λ (ts : List Table). S ++ map output_of ts) lut_tables_are ∙ ap (λ (ws : List (List ℕ)). S ++ ws) outputs

    same_luts : luts_of n ≡ luts
    same_luts = ap₂ (λ (ns : List (List ℕ)) (ts : List Table). map (lut_of ns) ts) signal_names_are lut_tables_are ∙ luts_spell names names_once first luts inner are inner_long fits

    lit_back : (i : ℕ) → i < length O → lit_of n (word_at O i) ≡ lit_at lits i
    lit_back i lt = elim (cases_Bool (has_word S (word_at O i))) [
      | inl s ↦ cond-true (has_word S (word_at O i)) (shown (signal_names n) (word_at O i) 49) (lit_of_table (signal_names n) (find (λ t. bytes_eq t.output (word_at O i)) (end_tables n))) s
          ∙ ap (λ (ns : List (List ℕ)). shown ns (word_at O i) 49) signal_names_are
          ∙ ap (λ p. lit (2 * (p + 1) + 0)) (place_in_front S inner (word_at O i) s)
          ∙ ap lit (let z : 2 * (place (word_at O i) S + 1) + 0 ≡ 2 * (place (word_at O i) S + 1) = omega arith in z)
          ∙ sym (net.own i (omega (arith, lt, net.count)) s)
      | inr s ↦ cond-false (has_word S (word_at O i)) (shown (signal_names n) (word_at O i) 49) (lit_of_table (signal_names n) (find (λ t. bytes_eq t.output (word_at O i)) (end_tables n))) s
          ∙ ap₂ (λ (ns : List (List ℕ)) (ts : List Table). lit_of_table ns (find (λ t. bytes_eq t.output (word_at O i)) ts)) signal_names_are end_tables_are
          ∙ ap (lit_of_table names) (end_found S names O lits observed_distinct net.count i lt s)
          ∙ end_back names names_once (word_at O i) (lit_at lits i) (omega (arith, net.within i (lit 0) (omega (arith, lt, net.count)), names_long))
    ]

    same_lits : observed_of n ≡ lits
    same_lits = same_lists (map (lit_of n) O) lits (length-map O (lit_of n) ∙ sym net.count)
        (λ k d lt.
        let inside : k < length O = omega (arith, lt, length-map O (lit_of n)) in
        get_or-map (lit_of n) O k [] d inside ∙ lit_back k inside ∙ get_or_default lits k (lit 0) d (omega (arith, inside, net.count)))

    ends_once : distinct (without S O) ≡ true
    ends_once = distinct-filter (λ w. not (has_word S w)) O observed_distinct

    defined_once : distinct (S ++ map output_of (tables ++ ends)) ≡ true
    defined_once = ap (λ (ws : List (List ℕ)). distinct (S ++ ws)) (map-append output_of tables ends ∙ ap₂ (λ (xs ys : List (List ℕ)). xs ++ ys) outputs (end_outputs S names O lits net.count))
        ∙ distinct_append S (inner ++ without S O) once
        (distinct_append inner (without S O) inner_distinct ends_once
        (λ w h. false_from_ne_true (has_word (without S O) w) (λ t. both_ways (has_word O w) (inner_free w h).1 (filtered (λ x. not (has_word S x)) O w t).1)))
        (λ w h. has_word-append inner (without S O) w ∙ or_from (has_word inner w) (has_word (without S O) w)
        (false_from_ne_true (has_word inner w) (λ t. both_ways (has_word S w) (inner_free w t).0 h))
        (false_from_ne_true (has_word (without S O) w) (λ t. both_ways (has_word S w) (not-true (has_word S w) (filtered (λ x. not (has_word S x)) O w t).0) h)))

    ordered : Ordered n
    ordered = record { once = record { clocks = clocks; all = defined_once }; above = luts_read S names first luts inner ends are inner_long refl refl (ends_read S names O lits names within (λ w h. h)) }

    reached : (j : ℕ) → j < length (lut_tables n) → Reached (length S + 1) (luts_of n) (observed_of n) (length S + 1 + j)
    reached j lt set closed seen = net.reached j (omega (arith, lt, length-map (lut_tables n) (lut_of (signal_names n)), ap (λ (ls : List Lut). length ls) same_luts))
        set (subst (λ (ls : List Lut). IsClosed (length S + 1) ls set) same_luts closed) (subst (λ (ls : List Lit). HasObserved ls set) same_lits seen)

    shape : (k : ℕ) → none_exceeds k luts ≡ true → LutShape n k
    shape k few = record {
      split = ap₂ (λ (xs ys : List Table). xs ++ ys) (sym lut_tables_are) (sym end_tables_are);
      luts = subst (λ (ts : List Table). All (λ t. is_lut_table k t ≡ true) ts) (sym lut_tables_are) (All-from_recursion (λ t. is_lut_table k t ≡ true) tables (luts_are_tables names names_once k first luts inner are inner_long fits few));
      reached = reached;
      ends = subst (λ (ns : List (List ℕ)). All (λ t. is_end_table ns t ≡ true) (end_tables n)) (sym signal_names_are)
          (subst (λ (ts : List Table). All (λ t. is_end_table names t ≡ true) ts) (sym end_tables_are) (All-from_recursion (λ t. is_end_table names t ≡ true) ends ends_end));
      each = ap (map output_of) end_tables_are ∙ end_outputs S names O lits net.count;
    }

-- The rows that a closed table leaves: they can be compacted, they keep the values of the opened graph, and their ANDs number those of the graph and the difference.
use Rattle.std.proofs.Common.{◌≡◌, ◌≢◌, ℕ, ◌+◌, ◌-◌, ◌<◌, ◌≤◌, ◌&&◌, Bool, true, false, All, List, [], ◌∷◌, length, map, replicate, refl, sym, ap, ap₂, ◌∙◌, subst, subst₂, arith, inl, inr, ℤ, pos, ◌+ℤ◌, ◌≤ℤ◌}
use Rattle.std.proofs.lemmas.Bool.{cases_lt}
use Rattle.std.proofs.lemmas.Int.{ints}
use Rattle.std.proofs.lemmas.List.{get_or_append_left, get_or-append_right, get_or_past, get_or-replicate, length-append, length-replicate}
use Rattle.std.proofs.lemmas.List.Elements.{All-head, All-tail, All-nil, All-cons}
use Rattle.syn_rows.specs.declared.Lit.{Lit}
use Rattle.syn_rows.specs.declared.Row.{Row}
use Rattle.syn_rows.specs.declared.Row.TheVariants.{Free, Source}
use Rattle.syn_rows.specs.Rows.{node_of, refs_within, row_at}
use Rattle.syn_rows.specs.Reach.{Ands, IsReachedSet, ands_in, is_and}
use Rattle.syn_rows.specs.References.{all_ands, and_count, sum_below}
use Rattle.syn_rows.specs.Values.{Fits, OneValuation, RowFits, SameSources, given_by, is_open, lit_value, rows_function, value_in, values_of}
use Rattle.syn_rows.proofs.Ends.{reached_set}
use Rattle.syn_rows.proofs.Folds.{AllRefs-weaker, one_valuation_is}
use Rattle.syn_rows.proofs.Reaches.{one_ands_is}
use Rattle.syn_hashed.specs.Hashed.{IsHashed, is_gate}
use Rattle.syn_hashed.specs.Compacting.{CanCompact, HasSources, IsCompacted, SameValues}
use Rattle.syn_hashed.proofs.Orders.{and_inside, hashed_in_order}
use Rattle.syn_fanout_free.proofs.Existing.{all_ands_reached}
use Rattle.syn_fanout_free.proofs.Numbers.{ands_count, one_if, sum_apart, sum_le, sum_none, sum_same}
use Rattle.syn_fanout_free.proofs.Replaced.{lits_from, within_from}
use Rattle.syn_graph.specs.declared.Graph.{Graph}
use Rattle.syn_gain.proofs.Owning.{graph_within}
use Rattle.syn_core_laws.specs.Sound.{Agree}
use Rattle.syn_proposals.specs.Following.{Follows}
use Rattle.syn_table.specs.Closing.{IsClosing}
use Rattle.syn_table.specs.Openings.{with_spare}
use Rattle.syn_pool.specs.Closing.{IsLeft}

-- the number of a graph's sources
abbrev pub sources_of : Graph → ℕ
sources_of graph = graph.source_count

-- ---- spare rows are free
replicate_free : (spare i : ℕ) → row_at (replicate spare Free) i ≡ Free
replicate_free spare i = elim (cases_lt i spare) [
  | inl lt ↦ get_or-replicate spare i Free Free lt
  | inr ge ↦ let long : length (replicate spare Free) ≡ spare = length-replicate {A = Row} spare Free in get_or_past (replicate spare Free) i Free (omega (arith, long))
]

spare_at : (rows : List Row) (spare n : ℕ) → row_at (with_spare rows spare) n ≡ row_at rows n
spare_at rows spare n = elim (cases_lt n (length rows)) [
  | inl lt ↦ get_or_append_left rows (replicate spare Free) Free n lt
  | inr ge ↦ get_or-append_right rows (replicate spare Free) (length rows) n Free refl ge ∙ replicate_free spare (n - length rows) ∙ sym (get_or_past rows n Free ge)
]

-- ---- the rows can be compacted
no_source : (count : ℕ) (rows : List Row) → IsHashed count rows → (n : ℕ) → count < n → row_at rows n ≢ Source
no_source count rows h n above e = elim (cases_lt n (length rows)) [
  | inl lt ↦ let gate : is_gate n (row_at rows n) ≡ true = h.gates n above lt in let none : is_gate n (row_at rows n) ≡ false = ap (is_gate n) e in absurd (cc)
  | inr ge ↦ let free : row_at rows n ≡ Free = get_or_past rows n Free ge in absurd (cc)
]

pub can_compact : (graph : Graph) (spare : ℕ) (difference : ℤ) (rows : List Row) (observed : List Lit) → IsClosing (with_spare graph.rows spare) graph.observed difference rows observed
    → CanCompact (sources_of graph) rows graph.observed
can_compact graph spare difference rows observed closing = record {
  front = λ n lt. (closing.sources n).1 (spare_at graph.rows spare n ∙ graph.graph.hashed.front n lt);
  others = λ n above e. no_source (sources_of graph) graph.rows graph.graph.hashed n above (sym (spare_at graph.rows spare n) ∙ (closing.sources n).0 e);
  refs = closing.rests;
  named = subst (λ (ls : List Lit). All (λ l. row_at rows (node_of l) ≢ Free) ls) closing.literals_stay closing.observes;
  acyclic = closing.no_circle;
}

-- ---- the values stay
agreed : (v w : ℕ → Bool) (ls : List Lit) → Agree ls v w → map (lit_value v) ls ≡ map (lit_value w) ls
agreed v w [] h = refl
agreed v w (l ∷ ls) h = ap₂ (λ b bs. b ∷ bs) h.0 (agreed v w ls h.1)

pub kept_values : (graph : Graph) (spare : ℕ) (difference : ℤ) (rows : List Row) (observed : List Lit) → IsClosing (with_spare graph.rows spare) graph.observed difference rows observed
    → (new_rows : List Row) (new_lits : List Lit) → SameValues (sources_of graph) rows graph.observed new_rows new_lits
    → (bits : List Bool) → rows_function new_rows new_lits bits ≡ rows_function graph.rows graph.observed bits
kept_values graph spare difference rows observed closing new_rows new_lits same bits = sym (same bits found.0 found.1 has) ∙ agreed found.0 u graph.observed agree
  where
    one : OneValuation graph.rows (given_by bits)
    one = one_valuation_is graph.rows (given_by bits) (hashed_in_order (sources_of graph) graph.rows graph.graph.hashed) refl

    u : ℕ → Bool
    u = value_in (values_of (given_by bits) graph.rows)

    fits : Fits (with_spare graph.rows spare) u
    fits = record { constant = one.0.constant; each = λ n. subst (RowFits u n) (sym (spare_at graph.rows spare n)) (one.0.each n) }

    found : (v : ℕ → Bool) × Fits rows v × ((n : ℕ) → row_at rows n ≡ Source → v n ≡ given_by bits n)
    found = closing.valuations (given_by bits) refl

    has : HasSources (sources_of graph) (given_by bits) found.0
    has n lt = found.2 n ((closing.sources n).1 (spare_at graph.rows spare n ∙ graph.graph.hashed.front n lt))

    -- a source's row is there
    inside : (n : ℕ) → row_at graph.rows n ≡ Source → n < length graph.rows
    inside n e = elim (cases_lt n (length graph.rows)) [
      | inl lt ↦ lt
      | inr ge ↦ let free : row_at graph.rows n ≡ Free = get_or_past graph.rows n Free ge in absurd (cc)
    ]

    same_sources : SameSources (with_spare graph.rows spare) found.0 u
    same_sources n e =
        let here : row_at graph.rows n ≡ Source = sym (spare_at graph.rows spare n) ∙ e in
        found.2 n ((closing.sources n).1 e) ∙ sym (one.1 n (inside n here) (ap is_open here))

    agree : Agree graph.observed found.0 u
    agree = subst (λ (ls : List Lit). Agree ls found.0 u) closing.literals_stay (closing.values found.0 u found.1 fits same_sources)

-- ---- the number of ANDs
there : (rows : List Row) (m : ℕ) → row_at rows m ≢ Free → m < length rows
there rows m used = elim (cases_lt m (length rows)) [
  | inl lt ↦ lt
  | inr ge ↦ absurd (used (get_or_past rows m Free ge))
]

all_there : (rows : List Row) (ls : List Lit) → All (λ l. row_at rows (node_of l) ≢ Free) ls → All (λ l. node_of l < length rows) ls
all_there rows [] h = All-nil (λ l. node_of l < length rows)
all_there rows (l ∷ ls) h =
    All-cons (λ x. node_of x < length rows) l ls (there rows (node_of l) (All-head (λ x. row_at rows (node_of x) ≢ Free) l ls h)) (all_there rows ls (All-tail (λ x. row_at rows (node_of x) ≢ Free) l ls h))

-- the ANDs of a set are at most all ANDs
some_of_all : (rows : List Row) (set : ℕ → Bool) → ands_in set rows ≤ all_ands rows
some_of_all rows set =
    let counted : ands_in set rows ≡ sum_below (length rows) (λ p. one_if (is_and (row_at rows p) && set p)) = ands_count rows set in
    let less : sum_below (length rows) (λ p. one_if (is_and (row_at rows p) && set p)) ≤ sum_below (length rows) (λ p. and_count (row_at rows p)) =
    sum_le (length rows) (λ p. one_if (is_and (row_at rows p) && set p)) (λ p. and_count (row_at rows p)) (λ p. one (is_and (row_at rows p)) (set p)) in
    omega (arith, counted, less)
  where
    one : (b c : Bool) → one_if (b && c) ≤ one_if b
    one true true = omega arith
    one true false = omega arith
    one false c = omega arith

-- spare rows are no ANDs
spare_ands : (rows : List Row) (spare : ℕ) → all_ands (with_spare rows spare) ≡ all_ands rows
spare_ands rows spare =
    let long : length (with_spare rows spare) ≡ length rows + spare = length-append rows (replicate spare Free) ∙ ap (λ k. length rows + k) (length-replicate {A = Row} spare Free) in
    let parts : sum_below (length rows + spare) term ≡ sum_below (length rows) term + sum_below spare (λ i. term (length rows + i)) = sum_apart spare (length rows) term in
    let front : sum_below (length rows) term ≡ all_ands rows = sum_same (length rows) term (λ n. and_count (row_at rows n)) (λ n lt. ap and_count (spare_at rows spare n)) in
    let rest : sum_below spare (λ i. term (length rows + i)) ≡ 0 = sum_none spare (λ i. term (length rows + i))
    (λ i lt. ap and_count (spare_at rows spare (length rows + i) ∙ get_or_past rows (length rows + i) Free (omega arith))) in
    ap (λ k. sum_below k term) long ∙ omega (arith, parts, front, rest)
  where
    term : ℕ → ℕ
    term n = and_count (row_at (with_spare rows spare) n)

-- all ANDs of a graph are reached
graph_ands : (graph : Graph) → Ands graph.rows graph.observed (all_ands graph.rows)
graph_ands graph = all_ands_reached graph.rows graph.observed (graph_within graph) (lits_from (length graph.rows) graph.observed graph.graph.within)
    (λ m h. let at = and_inside (sources_of graph) graph.rows graph.graph.hashed m h in graph.graph.reached m at.0 at.1)

-- by numbers
falls : (new all opened c k s n : ℕ) (d : ℤ) → new ≤ s + 1 + k → k ≤ all → pos all ≡ (pos opened +ℤ d) → opened ≡ c → c + (s + 1) ≡ n → pos new ≤ℤ (pos n +ℤ d)
falls new all opened c k s n d fewer some is same whole = omega (arith, ints)

pub no_more : (graph : Graph) (spare : ℕ) (difference : ℤ) (rows : List Row) (observed : List Lit) → IsClosing (with_spare graph.rows spare) graph.observed difference rows observed
    → (c : ℕ) → Ands graph.rows graph.observed c → c + (graph.source_count + 1) ≡ length graph.rows
    → (new_rows : List Row) → ((k : ℕ) → Ands rows graph.observed k → length new_rows ≤ sources_of graph + 1 + k)
    → pos (length new_rows) ≤ℤ (pos (length graph.rows) +ℤ difference)
no_more graph spare difference rows observed closing c ands whole new_rows fewer =
    falls (length new_rows) (all_ands rows) (all_ands (with_spare graph.rows spare)) c (ands_in found.0 rows) (sources_of graph) (length graph.rows) difference
    (fewer (ands_in found.0 rows) (found.0, found.1, refl)) (some_of_all rows found.0) closing.ands
    (spare_ands graph.rows spare ∙ one_ands_is graph.rows graph.observed (all_ands graph.rows) c (graph_ands graph) ands)
    whole
  where
    within : refs_within rows ≡ true
    within = within_from rows (λ p. AllRefs-weaker (λ m. row_at rows m ≢ Free) (λ m. m < length rows) (there rows) (row_at rows p) (closing.rests p))

    found : (set : ℕ → Bool) × IsReachedSet rows graph.observed set
    found = reached_set rows graph.observed within
        (lits_from (length rows) graph.observed (all_there rows graph.observed (subst (λ (ls : List Lit). All (λ l. row_at rows (node_of l) ≢ Free) ls) closing.literals_stay closing.observes)))

-- ---- the graph that is left
pub closing_of : (g h : Graph) (spare : ℕ) (difference : ℤ) (rows : List Row) (observed : List Lit) → g ≡ h
    → IsClosing (with_spare g.rows spare) g.observed difference rows observed → IsClosing (with_spare h.rows spare) h.observed difference rows observed
closing_of g h spare difference rows observed same closing = subst (λ (x : Graph). IsClosing (with_spare x.rows spare) x.observed difference rows observed) same closing

pub can_compact_as : (graph : Graph) (spare : ℕ) (difference : ℤ) (rows : List Row) (observed : List Lit) → IsClosing (with_spare graph.rows spare) graph.observed difference rows observed
    → (given : List Row) (lits : List Lit) → given ≡ rows → lits ≡ graph.observed → CanCompact (sources_of graph) given lits
can_compact_as graph spare difference rows observed closing given lits same_rows same_lits =
    subst (λ (r : List Row). CanCompact (sources_of graph) r lits) (sym same_rows)
    (subst (λ (l : List Lit). CanCompact (sources_of graph) rows l) (sym same_lits) (can_compact graph spare difference rows observed closing))

pub is_left : (graph : Graph) (spare : ℕ) (difference : ℤ) (rows : List Row) (observed : List Lit) → IsClosing (with_spare graph.rows spare) graph.observed difference rows observed
    → (given : List Row) (lits : List Lit) → given ≡ rows → lits ≡ graph.observed
    → (c : ℕ) → Ands graph.rows graph.observed c → c + (graph.source_count + 1) ≡ length graph.rows
    → (next : Graph) → next.source_count ≡ graph.source_count → IsCompacted (sources_of graph) given lits next.rows next.observed
    → IsLeft graph difference next
is_left graph spare difference rows observed closing given lits same_rows same_lits c ands whole next sources kept = record {
  same = record {
    sources = sources;
    count = own.same_count;
    stay = own.sources_stay;
    values = kept_values graph spare difference rows observed closing next.rows next.observed own.same_values;
  };
  count = no_more graph spare difference rows observed closing c ands whole next.rows own.ands;
}
  where
    own : IsCompacted (sources_of graph) rows graph.observed next.rows next.observed
    own = subst₂ (λ (r : List Row) (l : List Lit). IsCompacted (sources_of graph) r l next.rows next.observed) same_rows same_lits kept

by_numbers : (n m g : ℕ) (d e : ℤ) → pos n ≤ℤ (pos m +ℤ d) → (d +ℤ pos g) ≤ℤ e → e ≡ pos 0 → n + g ≤ m
by_numbers n m g d e left fell none = omega (arith, ints, left, fell, none)

-- a difference that fell from 0 by what was gained
pub follows : (was next : Graph) (gained : ℕ) (difference start : ℤ) → IsLeft was difference next → (difference +ℤ pos gained) ≤ℤ start → start ≡ pos 0 → Follows was gained next
follows was next gained difference start left fell none = record {
  same = left.same;
  count = by_numbers (length next.rows) (length was.rows) gained difference start left.count fell none;
}
